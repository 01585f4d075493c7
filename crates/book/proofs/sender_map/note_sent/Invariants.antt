use Rattle.book.specs.Sending.{HasSent}
use Rattle.book.proofs.sender_map.note_sent.Given as goal

-- those so far are noted
abbrev pub invariant-loop-index : goal.invariant-loop-index
invariant-loop-index l = HasSent l.commit l.name l.index l.initial.senders.entries l.senders.entries
