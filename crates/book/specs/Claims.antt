-- What a claim finds in its interval. Own.
use Rattle.std.specs.Prelude.{◌≡◌, ◌≢◌, ◌++◌, ◌∷◌, ℕ, List, map, length, slice_get, take, true, ⊤, Option, Some, IfSome, All}
use Rattle.std.specs.List.{AllByRecursion}
use Rattle.std.specs.List.Sorted.{IsStrictlySortedBy}
use Rattle.mw_types.specs.Orders.{row_cmp}
use Rattle.mw_types.specs.declared.entry.Entry.{Entry}
use Rattle.mw_types.specs.declared.identity.RowName.{RowName}
use Rattle.key_intervals.specs.declared.bounds.Bounds.{Bounds}
use Rattle.key_intervals.specs.Intervals.{covers, rows_covered}
use Rattle.row_parts.specs.Contents.{Contents}
use Rattle.row_parts.specs.Spelling.{spelling_of}
use Rattle.row_keeper.specs.Rows.{Rows, entry_of}
use Rattle.row_keeper.specs.declared.keeper.KeptRow.{KeptRow}
use Rattle.run_history.specs.Cases.{CaseShape, intervals_of}
use Rattle.run_history.specs.Runs.{run_of}
use Rattle.run_history.specs.Fits.{fits}
use Rattle.book.specs.Lawful.{IsKeepable}
use Rattle.book.specs.declared.answers.NamedRow.{NamedRow}
use Rattle.book.specs.declared.refusals.ClaimRefusal.{ClaimRefusal}
use Rattle.book.specs.declared.refusals.ClaimRefusal.TheVariants as refusals

-- the name of a row that was answered, and the row
abbrev pub named : NamedRow → RowName × Contents
named r = (r.name, r.row)

-- the name of a row, and the row's bytes
abbrev pub spelled : RowName × Contents → RowName × List ℕ
spelled r = (r.0, spelling_of r.1)

-- the name of a row that was answered, and its bytes
abbrev pub bytes_named : NamedRow → RowName × List ℕ
bytes_named r = spelled (named r)

-- the rows that a claim of an interval answers after a history fit their names, lie in the interval
-- and ascend by name; where a contract can see the keeper's rows they are those of the history that
-- lie there
pub record AreRowsOf {X : Type 0} (case : CaseShape) (told : Option X) (history : List Entry) (interval : ℕ)
    (rows : List NamedRow) : Type 0 where
  pub fit : All (λ (r : NamedRow). fits case (length history) r.name r.row ≡ true) rows
  pub covered : (bounds : Bounds) → slice_get (intervals_of case.topology) interval ≡ Some bounds →
      All (λ (r : NamedRow). covers bounds r.name ≡ true) rows
  pub ascending : IsStrictlySortedBy row_cmp (map (λ (r : NamedRow). r.name) rows)
  pub all : IfSome told (λ _. (bounds : Bounds) →
      slice_get (intervals_of case.topology) interval ≡ Some bounds →
      map named rows ≡ rows_covered bounds (run_of case.topology history).rows)

-- bytes are damaged under a name after so many entries: they are those of no row that fits the name.
-- Where a contract can see the keeper's rows, none is damaged
pub record IsDamagedRow {X : Type 0} (case : CaseShape) (told : Option X) (number : ℕ) (name : RowName)
    (bytes : List ℕ) : Type 0 where
  pub no_row : (row : Contents) → IsKeepable case number (name, row) → bytes ≢ spelling_of row
  pub untold : IfSome told (λ _. ⊥)

-- where a row is said to be damaged, it is
abbrev pub IsDamaged : {X : Type 0} → CaseShape → Option X → ℕ → ClaimRefusal → Type 0
IsDamaged case told number (refusals.RowDamaged name bytes) = IsDamagedRow case told number name bytes
IsDamaged case told number _ = ⊤

-- ---- what no public clause cites

-- what a keeper answered of an interval is what it holds there
abbrev pub IsFoundWithin : CaseShape → ℕ → List KeptRow → Rows → Type 0
IsFoundWithin case interval found held = (bounds : Bounds) →
    slice_get (intervals_of case.topology) interval ≡ Some bounds →
    map entry_of found ≡ rows_covered bounds held

-- of some rows this is the first that is damaged: each before it can be kept
pub record IsFirstDamaged (case : CaseShape) (number : ℕ) (all : Rows) (name : RowName)
    (bytes : List ℕ) : Type 0 where
  pub before : List (RowName × Contents)
  pub after : Rows
  pub kept : AllByRecursion (IsKeepable case number) before
  pub there : all ≡ map spelled before ++ (name, bytes) ∷ after

-- where a row is said to be damaged, it is the first of these rows that is
abbrev pub IsFirstDamage : CaseShape → ℕ → Rows → ClaimRefusal → Type 0
IsFirstDamage case number all (refusals.RowDamaged name bytes) = IsFirstDamaged case number all name bytes
IsFirstDamage case number all _ = ⊤

-- the rows that a keeper answered lie in the interval
abbrev pub AreWithin : CaseShape → ℕ → List KeptRow → Type 0
AreWithin case interval found = (bounds : Bounds) →
    slice_get (intervals_of case.topology) interval ≡ Some bounds →
    All (λ (row : KeptRow). covers bounds row.name ≡ true) found

-- the first of the rows that a keeper answered were read: each can be kept and has these bytes, and
-- where the bytes are those of rows that can be kept, they are these rows
pub record IsRead (case : CaseShape) (number : ℕ) (found : List KeptRow) (done : List NamedRow)
    (at : ℕ) : Type 0 where
  pub kept : AllByRecursion (IsKeepable case number) (map named done)
  pub bytes : map bytes_named done ≡ take at (map entry_of found)
  pub only : (rows : List (RowName × Contents)) → AllByRecursion (IsKeepable case number) rows →
      map entry_of found ≡ map spelled rows → map named done ≡ take at rows
