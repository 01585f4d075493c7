use Rattle.engine_tests.specs.TestSeats.{IsAtRest}
use Rattle.engine_tests.proofs.tests.books.threads.claim_at_last.Given as goal

-- the seat is at rest after each try
abbrev pub invariant-loop : goal.invariant-loop
invariant-loop g l =
    let v = l.initial.seat.place.me.0 in IsAtRest l.shared.table.shared.table_id l.shared.case.now v.basis.seats v.numbers l.seat.place
