use Rattle.book.proofs.SenderMaps.{sent-more}
use Rattle.audit.proofs.senders.note_sent.Goals as goal

-- one more is noted
pub loop-index-preserved : goal.loop-index-preserved
loop-index-preserved c =
    sent-more c.args.commit c.loop-index.index c.args.name.now c.args.senders.now.entries c.loop-index.senders.entries
    c.note_one.new.senders.entries
    c.loop-index.invariant c.in_ok-note_one.ensures
