use Rattle.std.proofs.Common.{◌≡◌, ◌≤◌, ◌++◌, length, map}
use Rattle.outbox.specs.Outboxes.{numbered}
use Rattle.outbox.proofs.outbox.Outbox.put_all.Given as goal

-- what is put and what is left are all, and there is room for what is left
abbrev pub invariant-loop-message : goal.invariant-loop-message
invariant-loop-message l = record {
  can_next : (goal.iterator-loop-message).can_next l.message-iterator;
  is_finite : (goal.iterator-loop-message).is_finite l.message-iterator;
  left : l.self.messages ++ map (numbered l.commit) l.message-iterator.rest.items
      ≡ l.initial.self.messages ++ map (numbered l.commit) l.fn.made.items;
  room : length l.message-iterator.rest.items ≤ l.self.room;
}
