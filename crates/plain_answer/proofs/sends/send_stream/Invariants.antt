use Rattle.std.proofs.Common.{◌≡◌, drop}
use Rattle.plain_answer.specs.Sends.{sent_along}
use Rattle.plain_answer.proofs.sends.send_stream.Given as goal

-- what is sent, and then what is left, is sent as all is
abbrev pub invariant-loop-item : goal.invariant-loop-item
invariant-loop-item l = sent_along l.consumers l.reads.items (drop l.item-index l.items)
    ≡ sent_along l.consumers l.initial.reads.items l.items
