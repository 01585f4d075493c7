use Rattle.std.proofs.Common.{refl}
use Rattle.book.specs.OwnDesks.{own_view}
use Rattle.holdings.specs.Holding.{held_at}
use Rattle.holdings.proofs.HeldRows.{proposed-put}
use Rattle.world.proofs.drains.least_work.write.Goals as goal

-- what is proposed may be written
pub put-requires-clause-may : goal.put-requires-clause-may
put-requires-clause-may g c = proposed-put c.args.book.now.case (own_view c.args.book.now) (held_at c.args.held.now c.args.interval)
    c.args.name.now c.args.proposal.now refl c.requires.proposal c.requires.known
