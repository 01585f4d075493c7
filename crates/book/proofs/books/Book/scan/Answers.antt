use Rattle.std.proofs.Common.{refl, sym, subst}
use Rattle.book.specs.declared.books.Book.TheInside.{Inside}
use Rattle.book.specs.Lawful.{IsLawful}
use Rattle.book.proofs.Keeping.{IsLawful-stays}
use Rattle.book.proofs.books.Book.scan.Goals as goal

-- the keeper has the same rows, and all else stays
pub invariant_of-self : goal.invariant_of-self
invariant_of-self g c =
    IsLawful-stays _ _ _ (subst (λ (b : Inside g.row.K.Denot). IsLawful b.case.now b.core) (sym c.self-inside.view_is) c.self.invariant)
    refl c.scan.ensures.unchanged refl refl (λ id. refl) refl
