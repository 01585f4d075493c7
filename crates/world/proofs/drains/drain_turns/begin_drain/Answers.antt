use Rattle.std.proofs.Common.{refl, rules}
use Rattle.book.specs.OwnDesks.{own_view}
use Rattle.world.proofs.DrainTurnLaws.{under_way-first}
use Rattle.world.proofs.drains.HeldLaws.{worker-fits}
use Rattle.world.proofs.drains.drain_turns.begin_drain.Goals as goal

-- the drain is under way
pub returns-clause-under_way : goal.returns-clause-under_way
returns-clause-under_way g c =
    let book = c.args.book.now in
    under_way-first book _ (search rules)
    (worker-fits book.case book c.new.result refl (c.new.ensures.fits book.case (own_view book))) refl refl
