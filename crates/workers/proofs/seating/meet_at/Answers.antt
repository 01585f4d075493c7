use Rattle.std.proofs.Common.{◌∙◌, arith, ap, sym, subst}
use Rattle.book.specs.Desks.{HasLooked, IsSound}
use Rattle.node.specs.Fits.{Fits}
use Rattle.run_history.specs.Fences.{Begins}
use Rattle.shared_book.specs.SharedDesks.{shared_view}
use Rattle.shared_book.specs.Steps.{SeatView}
use Rattle.shared_book.proofs.DeskFacts.{looked-met}
use Rattle.workers.specs.Crews.{HasGoneOn}
use Rattle.workers.proofs.Going.{gone-looked}
use Rattle.workers.proofs.Meeting.{others-looked}
use Rattle.workers.proofs.seating.meet_at.Goals as goal

-- nothing of what came to be seen was written under a lease of the seat
pub returns-clause-fits : goal.returns-clause-fits
returns-clause-fits g c =
    let case = c.args.case.now in
    let node = c.args.node.now in
    let m = c.meet.ensures in
    let first = c.look_at.new.seat.place.me in
    let met = c.meet.new.seat.place.me in
    let was = c.look_at.ensures.same in
    let is = c.look_at-2.ensures.same in
    let fits : Fits case (shared_view first.0) node =
    subst (λ (s : SeatView). Fits case (shared_view s.0) node) (sym was) c.requires.fits in
    let floor = ap (λ (s : SeatView). s.0.floor) m.view in
    let looked : HasLooked (shared_view first.0) (shared_view met.0) = looked-met first.0 met.0 (omega (arith, floor))
    (ap (λ (s : SeatView). s.0.basis) m.view) m.leases m.own m.faults m.foreign in
    let sound : IsSound (shared_view met.0) =
    subst (λ (s : SeatView). IsSound (shared_view s.0)) is c.look_at-2.ensures.sound in
    subst (λ (s : SeatView). Fits case (shared_view s.0) node) (sym is)
    (c.node_fits_beside.ensures.beside case (shared_view first.0) (shared_view met.0) node c.look_at.ensures.sound sound
    (others-looked case (shared_view first.0) (shared_view met.0) node looked fits) fits)

pub returns-clause-numbers : goal.returns-clause-numbers
returns-clause-numbers g c =
    ap (λ (s : SeatView). s.0.numbers) c.look_at-2.ensures.same ∙ c.meet.ensures.numbers
    ∙ ap (λ (s : SeatView). s.0.numbers) c.look_at.ensures.same

pub returns-clause-own : goal.returns-clause-own
returns-clause-own g c =
    ap (λ (s : SeatView). s.0.own) c.look_at-2.ensures.same ∙ c.meet.ensures.own
    ∙ ap (λ (s : SeatView). s.0.own) c.look_at.ensures.same

pub returns-clause-met : goal.returns-clause-met
returns-clause-met g c =
    subst (λ (s : SeatView). Begins c.args.note.place.me.0.front s.0.front) (sym c.look_at-2.ensures.same) c.meet.ensures.met

-- the seat went on
pub returns-clause-went_on : goal.returns-clause-went_on
returns-clause-went_on g c =
    let m = c.meet.ensures in
    let first = c.look_at.new.seat.place.me in
    let met = c.meet.new.seat.place.me in
    let floor = ap (λ (s : SeatView). s.0.floor) m.view in
    let looked : HasLooked (shared_view first.0) (shared_view met.0) = looked-met first.0 met.0 (omega (arith, floor))
    (ap (λ (s : SeatView). s.0.basis) m.view) m.leases m.own m.faults m.foreign in
    subst (λ (s : SeatView). HasGoneOn 0 (shared_view c.args.seat.now.place.me.0) (shared_view s.0)) (sym c.look_at-2.ensures.same)
    (subst (λ (s : SeatView). HasGoneOn 0 (shared_view s.0) (shared_view met.0)) c.look_at.ensures.same
    (gone-looked (shared_view first.0) (shared_view met.0) looked))
