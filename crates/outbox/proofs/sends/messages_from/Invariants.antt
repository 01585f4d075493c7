use Rattle.std.proofs.Common.{◌≡◌, ◌++◌}
use Rattle.outbox.specs.Messages.{messages_from}
use Rattle.outbox.proofs.sends.messages_from.Given as goal

-- the messages so far and those of the deliveries that are left are all
abbrev pub invariant-loop-delivery : goal.invariant-loop-delivery
invariant-loop-delivery l =
    l.all.items ++ messages_from l.name l.delivery-iterator.rest.items ≡ messages_from l.name l.fn.deliveries
