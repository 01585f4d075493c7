use Rattle.std.proofs.Common.{sym, subst}
use Rattle.std.specs.Prelude.{IfErr, OnOk}
use Rattle.list_lemmas.proofs.Told.{on_ok-map}
use Rattle.book.specs.Books.{BookView}
use Rattle.world.specs.drains.Drains.{HasEnded, IsDraining}
use Rattle.world.specs.drains.Turns.{HasGone, WhereTold}
use Rattle.world.proofs.DrainTurnLaws.{whole-draining, whole-ended, whole-unended}
use Rattle.live_outlet.specs.Outlets.{IsPumpedFrom}
use Rattle.task_runs.specs.Lives.{GoesOnBy, LivesOn, pumped_from}
use Rattle.task_runs.specs.Inside.{HasLiveCause, StopsLive}
use Rattle.task_runs.proofs.live.drain_live.Goals as goal

-- a drain that was begun has written nothing
pub turns_live-drained-requires-clause-extends : goal.turns_live-drained-requires-clause-extends
turns_live-drained-requires-clause-extends g c =
    subst (λ (b : BookView). IsPumpedFrom b.case.topology c.args.outlet.now b.history) (sym c.begin_drain-drain.ensures.book)
    c.requires.extends

pub returns-clause-gone : goal.returns-clause-gone
returns-clause-gone g c =
    let turned = c.turns_live-drained in
    subst (λ (b : BookView). HasGone b turned.new.world.book) c.begin_drain-drain.ensures.book turned.ensures.gone

-- the history goes on as a drain does
pub returns-clause-draining : goal.returns-clause-draining
returns-clause-draining g c =
    let turned = c.turns_live-drained in
    let from = c.begin_drain-drain.result.from in
    let new = turned.new.world.book in
    whole-draining c.args.world.now.book new from c.begin_drain-drain.ensures.from
    (subst (λ (b : BookView). WhereTold b (IsDraining b.case from b.history → IsDraining b.case from new.history))
    c.begin_drain-drain.ensures.book turned.ensures.draining)

-- to its end
pub returns-clause-ended : goal.returns-clause-ended
returns-clause-ended g c =
    let turned = c.turns_live-drained in
    let from = c.begin_drain-drain.result.from in
    let new = turned.new.world.book in
    on_ok-map turned.result (λ ended. whole-ended c.args.world.now.book new from c.begin_drain-drain.ensures.from
    (subst (λ (b : BookView). WhereTold b (HasEnded b.case from new.history)) c.begin_drain-drain.ensures.book ended))
    turned.ensures.ended

-- and has not come to it where the history is full
pub returns-clause-more : goal.returns-clause-more
returns-clause-more g c = λ full.
    let turned = c.turns_live-drained in
    let from = c.begin_drain-drain.result.from in
    let new = turned.new.world.book in
    whole-unended c.args.world.now.book new from c.begin_drain-drain.ensures.from
    (subst (λ (b : BookView). WhereTold b (HasEnded b.case from new.history → ⊥)) c.begin_drain-drain.ensures.book
    (turned.ensures.more full))

pub returns-clause-cause : goal.returns-clause-cause
returns-clause-cause g c =
    let turned = c.turns_live-drained in
    subst (λ (b : BookView). IfErr turned.result (HasLiveCause b turned.new.world.book (g.O.Sink.faults c.args.out.now)
    (g.O.Sink.faults turned.new.out))) c.begin_drain-drain.ensures.book turned.ensures.cause

-- with its results
pub returns-clause-results : goal.returns-clause-results
returns-clause-results g c =
    let turned = c.turns_live-drained in
    subst (λ (b : BookView). OnOk turned.result (LivesOn b.case.topology b.history turned.new.world.book.history c.args.outlet.now
    (g.O.Sink.text c.args.out.now) (g.O.Sink.text turned.new.out))) c.begin_drain-drain.ensures.book turned.ensures.results

-- by just the lines from where the outlet was
pub returns-clause-lines : goal.returns-clause-lines
returns-clause-lines g c =
    let turned = c.turns_live-drained in
    subst (λ (b : BookView). OnOk turned.result (GoesOnBy (pumped_from b.case.topology turned.new.world.book.history
    c.args.outlet.now.place) c.args.outlet.now turned.new.outlet (g.O.Sink.text c.args.out.now) (g.O.Sink.text turned.new.out)))
    c.begin_drain-drain.ensures.book turned.ensures.lines

-- or a part of them
pub returns-clause-behind : goal.returns-clause-behind
returns-clause-behind g c =
    let turned = c.turns_live-drained in
    subst (λ (b : BookView). IfErr turned.result (λ fault. StopsLive fault b.case.topology b.history turned.new.world.book.history
    c.args.outlet.now (g.O.Sink.text c.args.out.now) (g.O.Sink.text turned.new.out))) c.begin_drain-drain.ensures.book
    turned.ensures.behind
