-- How rows lie at places of their own, and how the place of a name is found. No public clause cites this
-- module.
use Rattle.std.specs.Prelude.{◌≡◌, ◌<◌, ℕ, List, [], Some, length, map, slice_index_or}
use Rattle.std.specs.List.{AllByRecursion}
use Rattle.std.specs.List.Sorted.{IsStrictlySortedBy}
use Rattle.std.specs.Map.{keys_of, lookup}
use Rattle.std.specs.BTreeMap.{is_at}
use Rattle.mw_types.specs.Orders.{row_cmp}
use Rattle.mw_types.specs.declared.identity.RowName.{RowName}
use Rattle.mw_types.specs.declared.state.State.TheVariants.{Injector}
use Rattle.row_parts.specs.Contents.{Contents, fresh}
use Rattle.book.specs.declared.answers.NamedRow.{NamedRow}

-- what is read past the end of rows
abbrev pub no_row : NamedRow
no_row = record { name = record { part = 0; key = [] }; row = fresh (Injector 0) }

-- the row at a place
abbrev pub row_at : List NamedRow → ℕ → Contents
row_at rows at = (slice_index_or rows at no_row).row

-- the rows in order of their names, each at the place of its name
abbrev pub placed : List NamedRow → List (RowName × ℕ) → List (RowName × Contents)
placed rows places = map (λ (p : RowName × ℕ). (p.0, row_at rows p.1)) places

-- a row of this name lies at a place
pub record IsPlaceOf (rows : List NamedRow) (name : RowName) (at : ℕ) : Type 0 where
  pub within : at < length rows
  pub named : (slice_index_or rows at no_row).name ≡ name

-- names stand in order, the row of each lies at its place, and what lies at a place is found by its name
pub record AreSlots (rows : List NamedRow) (places : List (RowName × ℕ)) : Type 0 where
  pub ordered : IsStrictlySortedBy row_cmp (keys_of places)
  pub there : (name : RowName) (at : ℕ) → lookup (is_at (row_cmp name)) places ≡ Some at →
      IsPlaceOf rows name at
  pub back : (name : RowName) (at : ℕ) → IsPlaceOf rows name at →
      lookup (is_at (row_cmp name)) places ≡ Some at

-- each place is one of a row
pub record AreWithin (rows : List NamedRow) (places : List (RowName × ℕ)) : Type 0 where
  pub each : AllByRecursion (λ (p : RowName × ℕ). p.1 < length rows) places
