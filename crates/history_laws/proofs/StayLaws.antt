-- A row that is there stays there as more entries follow.
use Rattle.std.proofs.Common.{fold, List, [], ◌∷◌, ◌++◌, refl, sym, subst, inl, inr}
use Rattle.std.specs.Prelude.{IsSome}
use Rattle.mw_types.specs.declared.entry.Entry.{Entry}
use Rattle.mw_types.specs.declared.identity.RowName.{RowName}
use Rattle.topology.specs.Shapes.{Shape}
use Rattle.run_history.specs.Runs.{Run, followed, row_in, run_of}
use Rattle.history_laws.proofs.Along.{run_of-append}
use Rattle.history_laws.proofs.RowSteps.{row_step}

-- a row stays there after one more entry
pub stays-next : (shape : Shape) (run : Run) (entry : Entry) (name : RowName) → IsSome (row_in run name)
    → IsSome (row_in (followed shape run entry) name)
stays-next shape run entry name there = elim (row_step shape run entry name) [
  | inl here ↦ subst IsSome (sym here.1) refl
  | inr same ↦ subst IsSome (sym same) there
]

-- and after more
pub stays-fold : (shape : Shape) (rest : List Entry) (run : Run) (name : RowName) → IsSome (row_in run name)
    → IsSome (row_in (fold (followed shape) run rest) name)
stays-fold shape [] run name there = there
stays-fold shape (e ∷ es) run name there = stays-fold shape es (followed shape run e) name (stays-next shape run e name there)

-- a row of a beginning is there in the whole
pub row-stays : (shape : Shape) (front rest : List Entry) (name : RowName)
    → IsSome (row_in (run_of shape front) name) → IsSome (row_in (run_of shape (front ++ rest)) name)
row-stays shape front rest name there =
    subst (λ (run : Run). IsSome (row_in run name)) (sym (run_of-append shape front rest))
    (stays-fold shape rest (run_of shape front) name there)
