use Rattle.std.proofs.Common.{sym, ap, subst, ◌∙◌}
use Rattle.engine_tests.specs.TestSeats.{IsAtRest}
use Rattle.engine_tests.proofs.TestSeatLaws.{rest_behind, rest_moved}
use Rattle.engine_tests.proofs.tests.books.desks.desk_claim.Goals as goal

-- the seat is at rest again once its desk is gone
pub returns : goal.returns
returns g c =
    let first = c.on-desk.result in
    let desk = c.floor-after.new.self in
    let begun = rest_moved _ _ _ _ _ first.seat.now.place c.requires.rest c.on-desk.ensures.view
    (first.table ∙ ap (λ s. s.table.shared.table_id) c.on-desk.ensures.shared) in
    let home = c.floor-after.ensures.home ∙ c.claim_through-tried.ensures.home ∙ c.floor-before.ensures.home in
    let case = c.floor-after.ensures.looked.case ∙ c.claim_through-tried.ensures.case ∙ c.floor-before.ensures.looked.case in
    let loan = c.floor-after.ensures.loan ∙ c.claim_through-tried.ensures.loan ∙ c.floor-before.ensures.loan ∙ c.on-desk.ensures.loan in
    let left = c.seat-1.given.1 (sym loan) in
    let table = c.args.shared.now.table.shared.table_id in
    let was = c.args.seat.now.place.me.0 in
    record {
      rest = subst (λ s. IsAtRest table c.args.shared.now.case.now was.basis.seats was.numbers s.place) (sym left)
          (rest_behind _ _ _ _ _ desk.seat.now.place begun home case desk.seat.now.live desk.turn desk.places);
    }
