use Rattle.std.proofs.Common.{ap, subst, sym, ◌∙◌}
use Rattle.shared_book.specs.Opening.{span}
use Rattle.engine_tests.specs.TestSeats.{IsAtRest}
use Rattle.engine_tests.proofs.TestSeatLaws.{all_seats}
use Rattle.engine_tests.proofs.tests.books.many_seats.all_seats.Goals as goal

-- the first seat is the seat 0, and has the numbers of all
pub dealt-are-requires-clause-rest : goal.dealt-are-requires-clause-rest
dealt-are-requires-clause-rest g c =
    let begun = c.shared_among-shared.result in
    let told = c.shared_among-shared.ensures in
    subst (λ n. IsAtRest begun.0.table.shared.table_id begun.0.case.now 17 (span n 17) begun.1.place) (sym told.first) told.rest

-- the seat has all numbers again
pub close-book-requires-clause-all : goal.close-book-requires-clause-all
close-book-requires-clause-all g c =
    let rest = c.dealt-are.ensures.rest in
    all_seats _ _ 17 (rest.has_numbers ∙ ap (λ n. span n 17) c.shared_among-shared.ensures.first) rest.of_seats
