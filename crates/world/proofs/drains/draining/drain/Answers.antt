use Rattle.world.proofs.drains.DrainLaws.{ended-finished}
use Rattle.world.proofs.DrainTurnLaws.{whole-draining, whole-ended, whole-unended}
use Rattle.world.proofs.Results.{ok-then}
use Rattle.world.proofs.drains.draining.drain.Goals as goal

-- the history goes on as a drain does
pub returns-clause-draining : goal.returns-clause-draining
returns-clause-draining g c =
    let begun = c.begin_drain-drain in
    let turned = c.turn_all-drained in
    whole-draining c.args.book.now turned.new.book begun.result.from begun.ensures.from turned.ensures.draining

-- to its end
pub returns-clause-ended : goal.returns-clause-ended
returns-clause-ended g c =
    let begun = c.begin_drain-drain in
    let turned = c.turn_all-drained in
    ok-then turned.result (λ unit ended. whole-ended c.args.book.now turned.new.book begun.result.from begun.ensures.from ended)
    turned.ensures.ended

-- where no work is left
pub returns-clause-finished : goal.returns-clause-finished
returns-clause-finished g c =
    let begun = c.begin_drain-drain in
    let turned = c.turn_all-drained in
    ok-then turned.result (λ unit ended. ended-finished c.args.book.now turned.new.book turned.ensures.gone.case turned.ensures.gone.tells
    c.history.ensures.lawful (whole-ended c.args.book.now turned.new.book begun.result.from begun.ensures.from ended))
    turned.ensures.ended

-- and has not come to it where the history is full
pub returns-clause-more : goal.returns-clause-more
returns-clause-more g c = λ is.
    let begun = c.begin_drain-drain in
    let turned = c.turn_all-drained in
    whole-unended c.args.book.now turned.new.book begun.result.from begun.ensures.from (turned.ensures.more is)
