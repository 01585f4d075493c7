use Rattle.book.specs.Sending.{HasSent}
use Rattle.audit.proofs.senders.note_sent.Given as goal

-- those so far are noted
abbrev pub invariant-loop-index : goal.invariant-loop-index
invariant-loop-index l = HasSent l.commit l.name l.index l.fn.senders.entries l.senders.entries
