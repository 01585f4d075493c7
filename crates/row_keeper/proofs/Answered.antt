-- What holds of the rows that a scan answers, by what the keeper holds.
use Rattle.std.proofs.Common.{◌≡◌, ◌∷◌, [], List, ℕ, Bool, cond, map, true, false, refl, subst, sym}
use Rattle.std.specs.Prelude.{if◌then◌else◌}
use Rattle.std.specs.List.{All, AllByRecursion}
use Rattle.std.specs.List.Sorted.{IsStrictlySortedBy}
use Rattle.std.specs.Map.{keys_of}
use Rattle.std.proofs.lemmas.List.Elements.{All-from_recursion, filter_passes, recursion_from_All}
use Rattle.std.proofs.lemmas.List.Kept.{IsStrictlySortedBy-filter}
use Rattle.mw_types.specs.Orders.{row_cmp}
use Rattle.mw_types.specs.declared.identity.RowName.{RowName}
use Rattle.key_intervals.specs.declared.bounds.Bounds.{Bounds}
use Rattle.key_intervals.specs.Intervals.{covers, rows_covered}
use Rattle.row_keeper.specs.Rows.{Rows, AreInOrder, entry_of}
use Rattle.row_keeper.specs.declared.keeper.KeptRow.{KeptRow}
use Rattle.row_keeper.proofs.Within.{keys_of-filter}

-- a row lies in an interval
abbrev IsIn : Bounds → RowName × List ℕ → Type 0
IsIn b row = covers b row.0 ≡ true

-- rows lie where their names and bytes do
each_in : (b : Bounds) (found : List KeptRow) → AllByRecursion (IsIn b) (map entry_of found)
    → AllByRecursion (λ (row : KeptRow). covers b row.name ≡ true) found
each_in b [] a = tt
each_in b (row ∷ rows) a = (a.0, each_in b rows a.1)

-- the rows that a keeper has of an interval lie in it
pub found_covered : (b : Bounds) (found : List KeptRow) (held : Rows) → map entry_of found ≡ rows_covered b held
    → All (λ (row : KeptRow). covers b row.name ≡ true) found
found_covered b found held e =
    let within : All (IsIn b) (map entry_of found) = subst (All (IsIn b)) (sym e) (filter_passes (λ row. covers b row.0) held) in
    All-from_recursion (λ (row : KeptRow). covers b row.name ≡ true) found
    (each_in b found (recursion_from_All (IsIn b) (map entry_of found) within))

-- they stand in order, as all that it has do
pub found_ascending : (b : Bounds) (found : List KeptRow) (held : Rows) → AreInOrder held → map entry_of found ≡ rows_covered b held
    → AreInOrder (map entry_of found)
found_ascending b found held o e = subst AreInOrder (sym e) (covered_in_order b held o)
  where
    covered_in_order : (b : Bounds) (held : Rows) → AreInOrder held → AreInOrder (rows_covered b held)
    covered_in_order b held o =
        subst (IsStrictlySortedBy row_cmp) (sym (keys_of-filter (covers b) held))
        (IsStrictlySortedBy-filter row_cmp (covers b) (keys_of held) o)

-- one row, where the interval has it, lies in the interval
pub shown_covered : (b : Bounds) (row : KeptRow) (found : List KeptRow) → found ≡ (if covers b row.name then row ∷ [] else [])
    → All (λ (kept : KeptRow). covers b kept.name ≡ true) found
shown_covered b row found e = All-from_recursion IsKeptIn found (by_test (covers b row.name) refl e)
  where
    IsKeptIn : KeptRow → Type 0
    IsKeptIn kept = covers b kept.name ≡ true

    by_test : (t : Bool) → covers b row.name ≡ t → found ≡ cond t (row ∷ []) [] → AllByRecursion IsKeptIn found
    by_test true has is = subst (AllByRecursion IsKeptIn) (sym is) (has, tt)
    by_test false has is = subst (AllByRecursion IsKeptIn) (sym is) tt

-- and stands in order, alone
pub shown_ascending : (b : Bounds) (row : KeptRow) (found : List KeptRow) → found ≡ (if covers b row.name then row ∷ [] else [])
    → AreInOrder (map entry_of found)
unfolding IsStrictlySortedBy
shown_ascending b row found e = by_test (covers b row.name) e
  where
    by_test : (t : Bool) → found ≡ cond t (row ∷ []) [] → AreInOrder (map entry_of found)
    by_test true is = subst (λ (rows : List KeptRow). AreInOrder (map entry_of rows)) (sym is) (tt, tt)
    by_test false is = subst (λ (rows : List KeptRow). AreInOrder (map entry_of rows)) (sym is) tt
