use Rattle.engine_tests.specs.TestSeats.{IsAtRest}
use Rattle.engine_tests.proofs.tests.books.threads.claim_share.Given as goal

-- the seat is at rest after each claim
abbrev pub invariant-loop-nth : goal.invariant-loop-nth
invariant-loop-nth g l =
    let v = l.initial.seat.place.me.0 in IsAtRest l.shared.table.shared.table_id l.shared.case.now v.basis.seats v.numbers l.seat.place
