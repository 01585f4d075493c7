use Rattle.std.proofs.Common.{◌<◌, length, subst, sym, ap, ◌∙◌}
use Rattle.std.specs.Prelude.{IfSome}
use Rattle.run_history.specs.Cases.{intervals_of}
use Rattle.run_history.specs.Runs.{run_of}
use Rattle.book.specs.Books.{BookView, CoreView}
use Rattle.book.specs.Lawful.{IsLawful}
use Rattle.book.specs.Marks.{IsSafeAt, with_mark}
use Rattle.book.proofs.MarkSteps.{IsLawful-raised}
use Rattle.book.proofs.books.Book.raise.Goals as goal

-- the book stays lawful with the greater mark
pub invariant_of-self : goal.invariant_of-self
invariant_of-self g c =
    let core : CoreView = c.self.inside.core in
    subst (IsLawful c.self.inside.case.now)
    (sym (c.raise.ensures.raised ∙ ap (λ mark. record core { marks = with_mark c.args.interval mark core.marks }) c.raise.ensures.mark))
    (IsLawful-raised c.self.inside.case.now core c.args.interval c.args.mark c.self.invariant
    (subst (λ (b : BookView). c.args.interval < length (intervals_of b.case.topology)) (sym c.self.view_is) c.requires.there)
    (subst (λ (b : BookView). IfSome b.rows (λ _. IsSafeAt b.case (run_of b.case.topology b.history) c.args.interval c.args.mark))
    (sym c.self.view_is) c.requires.safe))
