use Rattle.std.proofs.Common.{◌≡◌, length, ap, subst, ◌∙◌}
use Rattle.book.specs.Books.{BookView, core_of}
use Rattle.book.specs.Lawful.{IsLawful}
use Rattle.book.proofs.FoundRows.{AreRowsOf-result, IsDamaged-result}
use Rattle.book.proofs.books.Book.rows_of.Goals as goal

-- what was read is what the book has
pub returns-clause-rows : goal.returns-clause-rows
returns-clause-rows g c =
    let same_case : c.self-2.inside.case.now ≡ c.args.self.now.case
    = ap (λ (b : BookView). b.case) c.self-2.view_is ∙ c.scan.ensures.same.case in
    let number : c.len-number.result ≡ length c.args.self.now.history
    = c.len-number.ensures.count ∙ (λ i. length (c.self-inside.view_is i).core.history)
    ∙ ap (λ (b : BookView). length b.history) c.self.view_is in
    AreRowsOf-result c.args.self.now c.args.interval c.in_ok-found.found c.as_slice.result.now c.self-2.inside.case.now c.len-number.result
    c.decoded.result (subst (λ (b : BookView). IsLawful b.case (core_of b)) c.self.view_is c.self.invariant) c.in_ok-found.ensures.within
    c.in_ok-found.ensures.covered c.in_ok-found.ensures.ascending same_case number c.as_slice.ensures.elements
    c.decoded.ensures.kept c.decoded.ensures.spelled c.decoded.ensures.only

-- a row is damaged only where the keeper does not tell
pub returns-clause-damaged : goal.returns-clause-damaged
returns-clause-damaged g c =
    let same_case : c.self-2.inside.case.now ≡ c.args.self.now.case
    = ap (λ (b : BookView). b.case) c.self-2.view_is ∙ c.scan.ensures.same.case in
    let number : c.len-number.result ≡ length c.args.self.now.history
    = c.len-number.ensures.count ∙ (λ i. length (c.self-inside.view_is i).core.history)
    ∙ ap (λ (b : BookView). length b.history) c.self.view_is in
    IsDamaged-result c.args.self.now c.args.interval c.in_ok-found.found c.as_slice.result.now c.self-2.inside.case.now c.len-number.result
    c.decoded.result (subst (λ (b : BookView). IsLawful b.case (core_of b)) c.self.view_is c.self.invariant) c.requires.there
    c.in_ok-found.ensures.within same_case number c.as_slice.ensures.elements c.decoded.ensures.only c.decoded.ensures.damaged
