-- The rows that an interval has, among rows that stand in order.
use Rattle.std.proofs.Common.{◌≡◌, ◌∙◌, ◌++◌, ◌∷◌, [], ℕ, List, Bool, true, false, true≢false, not, cond, filter, ap, sym, refl, subst, arith, ◌&&◌, ◌≤◌, Option, Some, None, append-nil, append_assoc}
use Rattle.std.specs.List.{AllByRecursion}
use Rattle.std.specs.List.Sorted.{IsStrictlySortedBy}
use Rattle.std.specs.Map.{keys_of}
use Rattle.std.specs.Ordering.{is_le, is_lt}
use Rattle.std.specs.declared.cmp.Ordering.TheVariants.{Less}
use Rattle.std.specs.declared.ops.Bound.TheVariants.{Included, Unbounded}
use Rattle.std.specs.BTreeMap.Range.{entries_between}
use Rattle.std.proofs.lemmas.List.Elements.{filter_passes, recursion_from_All, All-weaker}
use Rattle.std.proofs.lemmas.List.Kept.{IsStrictlySortedBy-filter}
use Rattle.std.proofs.lemmas.Map.Keys.{sorted_head, sorted_tail}
use Rattle.list_lemmas.proofs.Tests.{less_from_test}
use Rattle.mw_types.proofs.OrderLaws.{key_cmp-total}
use Rattle.mw_types.specs.Orders.{row_cmp, key_cmp}
use Rattle.mw_types.specs.declared.identity.RowName.{RowName}
use Rattle.key_intervals.specs.declared.bounds.Bounds.{Bounds}
use Rattle.key_intervals.specs.Intervals.{covers, ends_after, start_of, rows_covered}
use Rattle.key_intervals.proofs.Beginnings.{begins_by, part_below, key_decides}
use Rattle.key_intervals.proofs.Lookup.{begins_by_row, of_part, goes_past, has_row}
use Rattle.row_keeper.specs.Rows.{Rows, AreInOrder}

-- rows in order, none of which is before the interval
pub record IsFrom (b : Bounds) (rows : Rows) : Type 0 where
  pub ordered : AreInOrder rows
  pub from : AllByRecursion (λ (row : RowName × List ℕ). begins_by row.0 b ≡ true) rows

-- a filter by a weaker test beforehand changes nothing
filter_twice : {X : Type 0} (p q : X → Bool) → ((x : X) → p x ≡ true → q x ≡ true) → (xs : List X) → filter p (filter q xs) ≡ filter p xs
filter_twice p q weaker [] = refl
filter_twice {X} p q weaker (x ∷ xs) = by_tests (p x) (q x) refl (weaker x) (filter_twice p q weaker xs)
  where
    by_tests : (s t : Bool) → p x ≡ s → (s ≡ true → t ≡ true) → filter p (filter q xs) ≡ filter p xs
        → filter p (cond t (x ∷ filter q xs) (filter q xs)) ≡ cond s (x ∷ filter p xs) (filter p xs)
    by_tests s true e h more =
        ap (λ r. cond (p x) (x ∷ r) r) more ∙ ap (λ c. cond c (x ∷ filter p xs) (filter p xs)) e
    by_tests true false e h more = absurd (true≢false (sym (h refl)))
    by_tests false false e h more = more

-- the names of the rows whose names pass a test
pub keys_of-filter : (p : RowName → Bool) (rows : Rows) → keys_of (filter (λ row. p row.0) rows) ≡ filter p (keys_of rows)
keys_of-filter p [] = refl
keys_of-filter p (row ∷ rows) = by_test (p row.0) (keys_of-filter p rows)
  where
    by_test : (t : Bool) → keys_of (filter (λ r. p r.0) rows) ≡ filter p (keys_of rows)
        → keys_of (cond t (row ∷ filter (λ r. p r.0) rows) (filter (λ r. p r.0) rows)) ≡ cond t (row.0 ∷ filter p (keys_of rows)) (filter p (keys_of rows))
    by_test true more = ap (λ names. row.0 ∷ names) more
    by_test false more = more

-- the test by which a map finds the rows from where an interval begins
abbrev at_or_after : Bounds → RowName → Bool
at_or_after b name = is_le (row_cmp (start_of b) name) && not false

to_test : (t : Bool) → t ≡ true → (t && not false) ≡ true
to_test true e = refl
to_test false e = absurd (true≢false (sym e))

from_test : (t : Bool) → (t && not false) ≡ true → t ≡ true
from_test true e = refl
from_test false e = absurd (true≢false (sym e))

-- of the rows from where an interval begins, none is before it
pub from_start : (b : Bounds) (rows : Rows) → AreInOrder rows → IsFrom b (entries_between row_cmp (Included (start_of b)) Unbounded rows)
from_start b rows o = record {
  ordered = subst (IsStrictlySortedBy row_cmp) (sym (keys_of-filter (at_or_after b) rows)) (IsStrictlySortedBy-filter row_cmp (at_or_after b) (keys_of rows) o);
  from = recursion_from_All (λ (row : RowName × List ℕ). begins_by row.0 b ≡ true) (filter (λ row. at_or_after b row.0) rows)
      (All-weaker (λ (row : RowName × List ℕ). at_or_after b row.0 ≡ true) (λ (row : RowName × List ℕ). begins_by row.0 b ≡ true)
      (λ row h. from_test (begins_by row.0 b) h) (filter (λ row. at_or_after b row.0) rows) (filter_passes (λ row. at_or_after b row.0) rows));
}

-- an interval has the same of them as of all rows
pub within_from_start : (b : Bounds) (rows : Rows) → rows_covered b (entries_between row_cmp (Included (start_of b)) Unbounded rows) ≡ rows_covered b rows
within_from_start b rows = filter_twice (λ row. covers b row.0) (λ row. at_or_after b row.0)
    (λ row h. to_test (begins_by row.0 b) (begins_by_row b row.0 h)) rows

-- what goes on past a key goes on past those before it
ends_after_earlier : (to : Option (List ℕ)) (key later : List ℕ) → key_cmp key later ≡ Less → ends_after to later ≡ true → ends_after to key ≡ true
ends_after_earlier None key later l h = refl
ends_after_earlier (Some end) key later l h = ap is_lt (key_cmp-total.trans key later end l (less_from_test _ h))

-- an interval has no row after one that is past its end
past_end : (b : Bounds) (name later : RowName) → begins_by name b ≡ true → covers b name ≡ false → row_cmp name later ≡ Less → covers b later ≡ false
past_end b name later begins out less = by_case (covers b later) refl
  where
    between : covers b later ≡ true → covers b name ≡ true
    between h =
        let low : b.part ≤ name.part = part_below _ _ _ begins in
        let high : name.part ≤ later.part = part_below _ _ _ (ap is_le less) in
        let same : b.part ≡ name.part = omega (arith, of_part b later h) in
        let next : name.part ≡ later.part = omega (arith, of_part b later h) in
        has_row b name same (sym (ap is_le (key_decides _ _ _ same)) ∙ begins)
        (ends_after_earlier b.to name.key later.key (sym (key_decides _ _ _ next) ∙ less) (goes_past b later h))

    by_case : (t : Bool) → covers b later ≡ t → covers b later ≡ false
    by_case false e = e
    by_case true e = absurd (true≢false (sym (between e) ∙ out))

none_after : (b : Bounds) (name : RowName) (rows : Rows) → begins_by name b ≡ true → covers b name ≡ false
    → AllByRecursion (λ y. row_cmp name y ≡ Less) (keys_of rows) → rows_covered b rows ≡ []
none_after b name [] begins out a = refl
none_after b name (row ∷ rows) begins out a =
    ap (λ t. cond t (row ∷ rows_covered b rows) (rows_covered b rows)) (past_end b name row.0 begins out a.0)
    ∙ none_after b name rows begins out a.1

-- a search through the rows of an interval: what is found and what the interval has of the rest are what it has of all
pub record IsRest (b : Bounds) (found rest all : Rows) : Type 0 where
  pub left : found ++ rows_covered b rest ≡ rows_covered b all
  pub from : IsFrom b rest

-- it begins where the interval does
pub IsRest-begin : (b : Bounds) (found rest all : Rows) → found ≡ [] → rest ≡ entries_between row_cmp (Included (start_of b)) Unbounded all → AreInOrder all → IsRest b found rest all
IsRest-begin b found rest all none e o = record {
  left = ap (λ f. f ++ rows_covered b rest) none ∙ ap (rows_covered b) e ∙ within_from_start b all;
  from = subst (IsFrom b) (sym e) (from_start b all o);
}

-- it ends at a row that the interval does not have
pub IsRest-end : (b : Bounds) (found rest all : Rows) (row : RowName × List ℕ) (after : Rows) → IsRest b found rest all
    → rest ≡ row ∷ after → covers b row.0 ≡ false → found ≡ rows_covered b all
IsRest-end b found rest all row after h e out =
    let from : IsFrom b (row ∷ after) = subst (IsFrom b) e h.from in
    let none : rows_covered b rest ≡ [] =
    ap (rows_covered b) e ∙ ap (λ t. cond t (row ∷ rows_covered b after) (rows_covered b after)) out
    ∙ none_after b row.0 after from.from.0 out (sorted_head row_cmp row.0 (keys_of after) from.ordered) in
    sym (append-nil found) ∙ ap (λ r. found ++ r) (sym none) ∙ h.left

-- it goes on past a row that the interval has
pub IsRest-more : (b : Bounds) (found rest all : Rows) (row : RowName × List ℕ) (after : Rows) → IsRest b found rest all
    → rest ≡ row ∷ after → covers b row.0 ≡ true → IsRest b (found ++ row ∷ []) after all
IsRest-more b found rest all row after h e has =
    let from : IsFrom b (row ∷ after) = subst (IsFrom b) e h.from in
    let one : rows_covered b rest ≡ row ∷ rows_covered b after =
    ap (rows_covered b) e ∙ ap (λ t. cond t (row ∷ rows_covered b after) (rows_covered b after)) has in
    record {
      left = append_assoc found (row ∷ []) (rows_covered b after) ∙ ap (λ r. found ++ r) (sym one) ∙ h.left;
      from = record {
        ordered = sorted_tail row_cmp row.0 (keys_of after) from.ordered;
        from = from.from.1;
      };
    }
