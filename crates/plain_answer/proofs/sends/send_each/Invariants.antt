use Rattle.std.proofs.Common.{◌≡◌, fold, drop}
use Rattle.run_history.specs.Made.{sends_of}
use Rattle.plain_answer.specs.Sends.{sent_to}
use Rattle.plain_answer.proofs.sends.send_each.Given as goal

-- what is sent, and then what is left, is sent as all is
abbrev pub invariant-loop-consumer : goal.invariant-loop-consumer
invariant-loop-consumer l = fold sent_to l.reads.items (sends_of (drop l.consumer-index l.consumers) l.item)
    ≡ fold sent_to l.initial.reads.items (sends_of l.consumers l.item)
