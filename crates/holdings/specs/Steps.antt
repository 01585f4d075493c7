-- The steps of a write on what is held. No public clause cites this module.
use Rattle.std.specs.Prelude.{◌≡◌, ◌++◌, ℕ, List, Option, Some, slice_set}
use Rattle.std.specs.List.{flat_map}
use Rattle.mw_types.specs.declared.identity.RowName.{RowName}
use Rattle.topology.specs.Shapes.{Shape}
use Rattle.row_parts.specs.Contents.{Contents}
use Rattle.run_history.specs.Cases.{CaseShape}
use Rattle.run_history.specs.Marks.{row_marks, stated_marks}
use Rattle.run_history.specs.Runs.{cached}
use Rattle.run_history.specs.Watermarks.{least}
use Rattle.holdings.specs.Holding.{HeldView, held_at, row_held, with_row}

-- of every interval the same is held
abbrev pub KeepsAll : List (Option HeldView) → List (Option HeldView) → Type 0
KeepsAll old new = (interval : ℕ) → held_at new interval ≡ held_at old interval

-- what is held, with a row cached, as it was
abbrev pub with_cached : Shape → RowName → HeldView → HeldView
with_cached shape name held = with_row name (row_held shape held name) held

-- this is the oldest work of what is held of a part, with what its source states
abbrev pub IsOldest : CaseShape → ℕ → HeldView → ℕ → Type 0
IsOldest case part held own = own ≡ least (flat_map (λ (r : RowName × Contents). row_marks r.1) held.rows
    ++ stated_marks case (cached held.rows) part)

-- what is held of an interval has a row cached, as it was
pub record IsReady (shape : Shape) (interval : ℕ) (name : RowName)
    (old new : List (Option HeldView)) : Type 0 where
  pub held : HeldView
  pub was : held_at old interval ≡ Some held
  pub is : new ≡ slice_set old interval (Some (with_cached shape name held))
