use Rattle.std.proofs.Common.{arith, ◌∙◌}
use Rattle.engine_tests.proofs.TestSeatLaws.{next_number}
use Rattle.engine_tests.proofs.tests.books.many_seats.+dealt.Goals as goal

-- the seat has one number more than are left to deal
pub deal-one-requires-clause-more : goal.deal-one-requires-clause-more
deal-one-requires-clause-more g depth c =
    let rest = c.claim_once-tried.ensures.rest in
    let s = c.claim_once-tried.new.seat in
    next_number s.place.me.0.numbers c.args.seat.now.number s.number c.args.left
    (rest.has_numbers ∙ c.requires.rest.has_numbers) s.numbered (omega arith)
