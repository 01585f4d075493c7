use Rattle.std.proofs.Common.{◌≡◌, ◌∙◌, false, ap, subst, sym}
use Rattle.std.specs.Prelude.{IfErr, OnOk}
use Rattle.node.specs.Fits.{Fits}
use Rattle.shared_book.specs.SharedDesks.{shared_view}
use Rattle.shared_book.specs.Steps.{SeatView}
use Rattle.workers.specs.Slices.{HasInjected, HasWorked, IsSliceFault, KeepsLeases}
use Rattle.workers.specs.Seats.{IsSeated}
use Rattle.workers.proofs.Sitting.{numbers-behind, seat-behind, seat-moved}
use Rattle.workers.proofs.seating.work_at.Goals as goal

-- the seat is at rest again once its desk is gone
pub returns-clause-seated : goal.returns-clause-seated
returns-clause-seated g c =
    let id = c.args.shared.now.table.shared.table_id in
    let case = c.args.case.now in
    let first = c.on-desk.result in
    let desk = c.slice.new.desk in
    let begun = seat-moved id case c.args.seat.now.place first.seat.now.place c.requires.seated c.on-desk.ensures.view
    (first.table ∙ ap (λ s. s.table.shared.table_id) c.on-desk.ensures.shared) in
    let left = c.seat-1.given.1 (sym (c.slice.ensures.loan ∙ c.on-desk.ensures.loan)) in
    subst (λ s. IsSeated id case s.place) (sym left)
    (seat-behind id case first.seat.now.place desk.seat.now.place begun c.slice.ensures.home c.slice.ensures.worked.case
    desk.seat.now.live desk.turn desk.places)

pub returns-clause-fits : goal.returns-clause-fits
returns-clause-fits g c =
    let left = c.seat-1.given.1 (sym (c.slice.ensures.loan ∙ c.on-desk.ensures.loan)) in
    subst (λ s. Fits c.args.case.now (shared_view s.place.me.0) c.slice.new.node) (sym left) c.slice.ensures.fits

pub returns-clause-numbers : goal.returns-clause-numbers
returns-clause-numbers g c =
    let first = c.on-desk.result in
    let desk = c.slice.new.desk in
    let left = c.seat-1.given.1 (sym (c.slice.ensures.loan ∙ c.on-desk.ensures.loan)) in
    ap (λ s. s.place.me.0.numbers) left ∙ numbers-behind first.seat.now.place desk.seat.now.place c.slice.ensures.home
    ∙ ap (λ (m : SeatView). m.0.numbers) c.on-desk.ensures.view

pub returns-clause-worked : goal.returns-clause-worked
returns-clause-worked g c =
    let desk = c.slice.new.desk in
    let left = c.seat-1.given.1 (sym (c.slice.ensures.loan ∙ c.on-desk.ensures.loan)) in
    subst (λ s. HasWorked 6000 (shared_view c.args.seat.now.place.me.0) (shared_view s.place.me.0)) (sym left)
    (subst (λ (m : SeatView). HasWorked 6000 (shared_view m.0) (shared_view desk.seat.now.place.me.0)) c.on-desk.ensures.view
    c.slice.ensures.worked)

pub returns-clause-kept : goal.returns-clause-kept
returns-clause-kept g c =
    let left = c.seat-1.given.1 (sym (c.slice.ensures.loan ∙ c.on-desk.ensures.loan)) in
    subst (λ s. KeepsLeases (shared_view s.place.me.0).seen c.args.node.now c.slice.new.node) (sym left) c.slice.ensures.kept

pub returns-clause-injected : goal.returns-clause-injected
returns-clause-injected g c =
    let desk = c.slice.new.desk in
    let left = c.seat-1.given.1 (sym (c.slice.ensures.loan ∙ c.on-desk.ensures.loan)) in
    subst (λ s. OnOk c.slice.result (c.args.orders.now.stall ≡ false → HasInjected c.args.case.now c.args.node.now
    (shared_view c.args.seat.now.place.me.0) (shared_view s.place.me.0))) (sym left)
    (subst (λ (m : SeatView). OnOk c.slice.result (c.args.orders.now.stall ≡ false → HasInjected c.args.case.now c.args.node.now
    (shared_view m.0) (shared_view desk.seat.now.place.me.0))) c.on-desk.ensures.view c.slice.ensures.injected)

pub returns-clause-fault : goal.returns-clause-fault
returns-clause-fault g c =
    let desk = c.slice.new.desk in
    let left = c.seat-1.given.1 (sym (c.slice.ensures.loan ∙ c.on-desk.ensures.loan)) in
    subst (λ s. IfErr c.slice.result (IsSliceFault (shared_view c.args.seat.now.place.me.0) (shared_view s.place.me.0))) (sym left)
    (subst (λ (m : SeatView). IfErr c.slice.result (IsSliceFault (shared_view m.0) (shared_view desk.seat.now.place.me.0)))
    c.on-desk.ensures.view c.slice.ensures.fault)
