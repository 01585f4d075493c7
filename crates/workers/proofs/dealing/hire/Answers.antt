use Rattle.std.proofs.Common.{◌≡◌, ◌∙◌, ◌+◌, ◌∷◌, ℕ, List, [], suc, ap, arith}
use Rattle.shared_book.specs.Joins.{first_of, others_of}
use Rattle.workers.proofs.Hiring.{span-two}
use Rattle.workers.proofs.dealing.hire.Goals as goal

-- there are two numbers at least
pub deal-requires-clause-more : goal.deal-requires-clause-more
deal-requires-clause-more g c =
    let two = span-two c.args.number c.args.left c.requires.some in
    let number = c.requires.number in
    let next : suc c.args.number ≡ c.args.seat.now.number + 1 = omega (arith, number) in
    ap (λ (l : List ℕ). first_of (others_of l)) (c.requires.numbers ∙ two.1) ∙ ap (λ (n : ℕ). n ∷ []) next
