use Rattle.std.proofs.Common.{◌≡◌, ◌∙◌, length, subst, sym}
use Rattle.std.specs.Prelude.{IfSome}
use Rattle.run_history.specs.Cases.{intervals_of}
use Rattle.run_history.specs.Runs.{run_of}
use Rattle.book.specs.Books.{BookView, CoreView}
use Rattle.book.specs.Lawful.{IsLawful}
use Rattle.book.specs.Marks.{AreSafe}
use Rattle.book.proofs.PutMarks.{IsLawful-marked}
use Rattle.book.proofs.books.Book.put_marks.Goals as goal

-- the book has as many marks as it has to be given
pub put_marks-requires : goal.put_marks-requires
put_marks-requires g c =
    subst (λ (b : BookView). length c.args.marks.now ≡ length (intervals_of b.case.topology)) (sym c.self.view_is) c.requires.one_each
    ∙ sym c.self.invariant.marks

-- the book stays lawful with other safe marks
pub invariant_of-self : goal.invariant_of-self
invariant_of-self g c =
    let core : CoreView = c.self.inside.core in
    subst (IsLawful c.self.inside.case.now) (sym c.put_marks.ensures)
    (IsLawful-marked c.self.inside.case.now core c.args.marks.now c.self.invariant
    (subst (λ (b : BookView). length c.args.marks.now ≡ length (intervals_of b.case.topology)) (sym c.self.view_is) c.requires.one_each)
    (subst (λ (b : BookView). IfSome b.rows (λ _. AreSafe b.case (run_of b.case.topology b.history) c.args.marks.now))
    (sym c.self.view_is) c.requires.safe))
