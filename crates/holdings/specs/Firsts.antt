-- Which of some rows is the first, by what is picked of each. Own.
use Rattle.std.specs.Prelude.{◌≡◌, List, Option, Some, None, if◌then◌else◌}
use Rattle.std.specs.Ordering.{is_lt}
use Rattle.std.specs.declared.cmp.Ordering.{Ordering}
use Rattle.std.specs.declared.cmp.Ordering.TheVariants.{Less}
use Rattle.mw_types.specs.declared.identity.RowName.{RowName}
use Rattle.row_parts.specs.Contents.{Contents}
use Rattle.run_history.specs.Runs.{cached, row_in}

-- a row has this, which is picked of it
pub record HasPicked {X : Type 0} (pick : Contents → Option X) (rows : List (RowName × Contents))
    (found : RowName × X) : Type 0 where
  pub row : Contents
  pub there : row_in (cached rows) found.0 ≡ Some row
  pub picked : pick row ≡ Some found.1

-- this is picked of a row, and what is picked of no row is before it
pub record IsFirstPicked {X : Type 0} (pick : Contents → Option X)
    (cmp : RowName × X → RowName × X → Ordering) (rows : List (RowName × Contents))
    (found : RowName × X) : Type 0 where
  pub has : HasPicked pick rows found
  pub least : (other : RowName × X) → HasPicked pick rows other → cmp other found ≡ Less → ⊥

-- the first that is picked of rows, or none where nothing is picked of any
abbrev pub IsFirstOf : {X : Type 0} → (Contents → Option X) → (RowName × X → RowName × X → Ordering)
    → List (RowName × Contents) → Option (RowName × X) → Type 0
IsFirstOf {X} pick cmp rows None = (other : RowName × X) → HasPicked pick rows other → ⊥
IsFirstOf pick cmp rows (Some found) = IsFirstPicked pick cmp rows found

-- ---- what no public clause cites

-- of two that are picked the one that is before
abbrev pub earlier_of : {X : Type 0} → (RowName × X → RowName × X → Ordering) → Option (RowName × X) → RowName
    → Option X → Option (RowName × X)
earlier_of cmp best name None = best
earlier_of cmp None name (Some x) = Some (name, x)
earlier_of cmp (Some b) name (Some x) = if is_lt (cmp (name, x) b) then Some (name, x) else Some b

-- of what is picked so far and of what is picked of a row the one that is before
abbrev pub earlier : {X : Type 0} → (Contents → Option X) → (RowName × X → RowName × X → Ordering)
    → Option (RowName × X) → RowName × Contents → Option (RowName × X)
earlier pick cmp best r = earlier_of cmp best r.0 (pick r.1)
