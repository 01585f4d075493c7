use Rattle.std.proofs.Common.{◌≡◌, ◌+◌, ◌-◌, ap, ◌∙◌, arith}
use Rattle.shared_book.specs.Opening.{span}
use Rattle.engine_tests.proofs.TestSeatLaws.{all_seats}
use Rattle.engine_tests.proofs.tests.books.threads.all_threads.Goals as goal

-- the seat has the numbers of all threads again
pub close-book-requires-clause-all : goal.close-book-requires-clause-all
close-book-requires-clause-all g c =
    let rest = c.in_threads-seat.ensures.rest in
    let shared = c.shared_among-shared.ensures in
    let back : (c.args.seats - 1) + 1 ≡ c.args.seats = omega (arith, c.requires.some) in
    all_seats _ _ c.args.seats
    (rest.has_numbers ∙ (ap (λ n. span n ((c.args.seats - 1) + 1)) shared.first ∙ ap (span 0) back))
    (rest.of_seats ∙ shared.rest.of_seats)
