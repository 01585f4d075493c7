use Rattle.std.proofs.Common.{subst}
use Rattle.book.specs.Books.{BookView, core_of}
use Rattle.book.specs.Lawful.{IsLawful}
use Rattle.book.proofs.ReportSteps.{are-under_low}
use Rattle.book.proofs.books.Book.marks.Goals as goal

-- the marks are safe by what always holds of the book
pub returns-clause-safe : goal.returns-clause-safe
returns-clause-safe g c = (subst (λ (b : BookView). IsLawful b.case (core_of b)) c.self.view_is c.self.invariant).safe

-- and so they are under the low watermarks
pub returns-clause-under_low : goal.returns-clause-under_low
returns-clause-under_low g c = are-under_low c.args.self.now
    (subst (λ (b : BookView). IsLawful b.case (core_of b)) c.self.view_is c.self.invariant)
