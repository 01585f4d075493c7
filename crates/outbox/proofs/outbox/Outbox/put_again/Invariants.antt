use Rattle.std.proofs.Common.{◌≡◌, ◌≤◌, ◌++◌, length, map}
use Rattle.outbox.specs.Messages.{sent_again}
use Rattle.outbox.proofs.outbox.Outbox.put_again.Given as goal

-- what is put and what is left are all, and there is room for what is left
abbrev pub invariant-loop-sent : goal.invariant-loop-sent
invariant-loop-sent l = record {
  can_next : (goal.iterator-loop-sent).can_next l.sent-iterator;
  is_finite : (goal.iterator-loop-sent).is_finite l.sent-iterator;
  left : l.self.messages ++ map sent_again l.sent-iterator.rest.items
      ≡ l.initial.self.messages ++ map sent_again l.fn.again.items;
  room : length l.sent-iterator.rest.items ≤ l.self.room;
}
