use Rattle.std.proofs.Common.{◌≡◌, ◌∙◌, ℕ, ap, subst, sym}
use Rattle.std.specs.Prelude.{IfErr, OnErr, OnOk}
use Rattle.node.specs.Fits.{Fits}
use Rattle.shared_book.specs.SharedDesks.{shared_view}
use Rattle.shared_book.specs.Steps.{SeatView}
use Rattle.workers.specs.Claims.{HasLeased}
use Rattle.workers.specs.Crews.{HasClaimedOne, HasFaultCause, HasGoneOn}
use Rattle.workers.specs.Seats.{IsSeated}
use Rattle.workers.proofs.Sitting.{numbers-behind, seat-behind, seat-moved}
use Rattle.workers.proofs.seating.claim_at.Goals as goal

-- the seat is at rest again once its desk is gone
pub returns-clause-seated : goal.returns-clause-seated
returns-clause-seated g c =
    let id = c.args.shared.now.table.shared.table_id in
    let case = c.args.case.now in
    let first = c.on-desk.result in
    let desk = c.claim.new.desk in
    let begun = seat-moved id case c.args.seat.now.place first.seat.now.place c.requires.seated c.on-desk.ensures.view
    (first.table ∙ ap (λ s. s.table.shared.table_id) c.on-desk.ensures.shared) in
    let left = c.seat-1.given.1 (sym (c.claim.ensures.loan ∙ c.on-desk.ensures.loan)) in
    subst (λ s. IsSeated id case s.place) (sym left)
    (seat-behind id case first.seat.now.place desk.seat.now.place begun c.claim.ensures.home c.claim.ensures.went_on.case
    desk.seat.now.live desk.turn desk.places)

pub returns-clause-fits : goal.returns-clause-fits
returns-clause-fits g c =
    let left = c.seat-1.given.1 (sym (c.claim.ensures.loan ∙ c.on-desk.ensures.loan)) in
    subst (λ s. Fits c.args.case.now (shared_view s.place.me.0) c.claim.new.node) (sym left) c.claim.ensures.fits

pub returns-clause-numbers : goal.returns-clause-numbers
returns-clause-numbers g c =
    let first = c.on-desk.result in
    let desk = c.claim.new.desk in
    let left = c.seat-1.given.1 (sym (c.claim.ensures.loan ∙ c.on-desk.ensures.loan)) in
    ap (λ s. s.place.me.0.numbers) left ∙ numbers-behind first.seat.now.place desk.seat.now.place c.claim.ensures.home
    ∙ ap (λ (m : SeatView). m.0.numbers) c.on-desk.ensures.view

pub returns-clause-went_on : goal.returns-clause-went_on
returns-clause-went_on g c =
    let desk = c.claim.new.desk in
    let left = c.seat-1.given.1 (sym (c.claim.ensures.loan ∙ c.on-desk.ensures.loan)) in
    subst (λ s. HasGoneOn 1 (shared_view c.args.seat.now.place.me.0) (shared_view s.place.me.0)) (sym left)
    (subst (λ (m : SeatView). HasGoneOn 1 (shared_view m.0) (shared_view desk.seat.now.place.me.0)) c.on-desk.ensures.view
    c.claim.ensures.went_on)

pub returns-clause-claimed : goal.returns-clause-claimed
returns-clause-claimed g c =
    let desk = c.claim.new.desk in
    let left = c.seat-1.given.1 (sym (c.claim.ensures.loan ∙ c.on-desk.ensures.loan)) in
    subst (λ s. OnOk c.claim.result (HasClaimedOne c.args.node.now.number c.args.interval (shared_view c.args.seat.now.place.me.0)
    (shared_view s.place.me.0))) (sym left)
    (subst (λ (m : SeatView). OnOk c.claim.result (HasClaimedOne c.args.node.now.number c.args.interval (shared_view m.0)
    (shared_view desk.seat.now.place.me.0))) c.on-desk.ensures.view c.claim.ensures.claimed)

pub returns-clause-leased : goal.returns-clause-leased
returns-clause-leased g c =
    let left = c.seat-1.given.1 (sym (c.claim.ensures.loan ∙ c.on-desk.ensures.loan)) in
    subst (λ s. OnOk c.claim.result ((seq : ℕ) × HasLeased c.args.interval seq c.args.node.now c.claim.new.node
    (shared_view s.place.me.0))) (sym left) c.claim.ensures.leased

pub returns-clause-own : goal.returns-clause-own
returns-clause-own g c =
    let desk = c.claim.new.desk in
    let left = c.seat-1.given.1 (sym (c.claim.ensures.loan ∙ c.on-desk.ensures.loan)) in
    subst (λ s. OnErr c.claim.result (s.place.me.0.own ≡ c.args.seat.now.place.me.0.own)) (sym left)
    (subst (λ (m : SeatView). OnErr c.claim.result (desk.seat.now.place.me.0.own ≡ m.0.own)) c.on-desk.ensures.view c.claim.ensures.own)

pub returns-clause-cause : goal.returns-clause-cause
returns-clause-cause g c =
    let left = c.seat-1.given.1 (sym (c.claim.ensures.loan ∙ c.on-desk.ensures.loan)) in
    subst (λ s. IfErr c.claim.result (HasFaultCause (shared_view s.place.me.0))) (sym left) c.claim.ensures.cause
