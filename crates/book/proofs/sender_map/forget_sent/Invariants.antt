use Rattle.book.specs.Sending.{HasForgotten}
use Rattle.book.proofs.sender_map.forget_sent.Given as goal

-- those so far are forgotten
abbrev pub invariant-loop-index : goal.invariant-loop-index
invariant-loop-index l = HasForgotten l.commit l.index l.initial.senders.entries l.senders.entries
