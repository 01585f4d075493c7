use Rattle.book.proofs.SenderMaps.{forgotten-more}
use Rattle.book.proofs.sender_map.forget_sent.Goals as goal

-- one more is forgotten
pub loop-index-preserved : goal.loop-index-preserved
loop-index-preserved c =
    forgotten-more c.args.commit c.loop-index.index c.args.senders.now.entries c.loop-index.senders.entries c.remove.new.self.entries
    c.loop-index.invariant c.remove.ensures.updates.0
