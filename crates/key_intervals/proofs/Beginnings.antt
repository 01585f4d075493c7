-- The rows at which intervals begin, in the order of rows.
use Rattle.std.proofs.Common.{◌≡◌, ◌<◌, ◌≤◌, ◌+◌, ◌∙◌, ℕ, List, [], ◌∷◌, Bool, true, false, Option, Some, None, length, arith, refl, sym, ap, true≢false, subst, inl, inr}
use Rattle.std.proofs.lemmas.Bool.Decides.{nat_tests}
use Rattle.std.proofs.Math.Nat.{eq-or-lt_of_le}
use Rattle.std.specs.Prelude.{MatchOption}
use Rattle.std.specs.declared.cmp.Ordering.{Ordering}
use Rattle.std.specs.declared.cmp.Ordering.TheVariants.{Less, Equal, Greater}
use Rattle.std.specs.Ordering.{is_le, is_lt, nat_cmp, ordering_then, ordering_reverse}
use Rattle.std.specs.Cmp.{alike_right}
use Rattle.std.specs.List.{AllAdjacentBelow}
use Rattle.std.specs.List.Sorted.{IsStrictlySortedBy, IsPartitionedBy}
use Rattle.std.proofs.lemmas.List.{get_or-map, length-map}
use Rattle.std.proofs.lemmas.Map.Keys.{Less-from_sorted, sorted_from_all_adjacent}
use Rattle.std.proofs.Common.{get_or, map}
use Rattle.mw_types.specs.Orders.{key_cmp, row_cmp}
use Rattle.mw_types.specs.declared.identity.RowName.{RowName}
use Rattle.mw_types.proofs.OrderLaws.{key_cmp-total, row_cmp-total}
use Rattle.key_intervals.specs.declared.bounds.Bounds.{Bounds}
use Rattle.key_intervals.specs.Intervals.{start_of, Meets}

-- what is at most a row is of its part or of one before it
pub part_below : (m n : ℕ) (o : Ordering) → is_le (ordering_then (nat_cmp m n) o) ≡ true → m ≤ n
part_below m n o h = grind (arith, nat_tests)

-- in one part the keys decide
pub key_decides : (m n : ℕ) (o : Ordering) → m ≡ n → ordering_then (nat_cmp m n) o ≡ o
key_decides m n o e = grind (arith, nat_tests)

-- what is of a part before a row's comes before it
pub before_part : (m n : ℕ) (o : Ordering) → m < n → ordering_then (nat_cmp m n) o ≡ Less
before_part m n o e = grind (arith, nat_tests)

-- what is of a part after a row's comes after it
pub after_part : (m n : ℕ) (o : Ordering) → n < m → is_le (ordering_then (nat_cmp m n) o) ≡ false
after_part m n o e = grind (arith, nat_tests)

-- the empty key is at most each key
pub empty_first : (key : List ℕ) → is_le (key_cmp [] key) ≡ true
empty_first [] = refl
empty_first (b ∷ bs) = refl

-- what is not at most a key is above it
pub turned : (o : Ordering) → is_le o ≡ false → ordering_reverse o ≡ Less
turned Less e = absurd (true≢false e)
turned Equal e = absurd (true≢false e)
turned Greater e = refl

-- what is above a key is not at most it
pub turned_below : (o : Ordering) → is_lt o ≡ true → is_le (ordering_reverse o) ≡ false
turned_below Less e = refl
turned_below Equal e = absurd (true≢false (sym e))
turned_below Greater e = absurd (true≢false (sym e))

-- a key that is not at most another is above it
pub above : (a b : List ℕ) → is_le (key_cmp a b) ≡ false → key_cmp b a ≡ Less
above a b e = key_cmp-total.antisymm b a ∙ turned (key_cmp a b) e

meets : (part next_part : ℕ) (from next_from : List ℕ) (to : Option (List ℕ))
    → MatchOption to ((next_part ≡ part + 1) × (next_from ≡ [])) (λ end. (next_part ≡ part) × (next_from ≡ end) × (key_cmp from end ≡ Less))
    → ordering_then (nat_cmp part next_part) (key_cmp from next_from) ≡ Less
meets part next_part from next_from None m = before_part part next_part _ (omega (arith, m.0))
meets part next_part from next_from (Some end) m =
    key_decides part next_part _ (sym m.0) ∙ ap (λ k. key_cmp from k) m.1 ∙ m.2

-- an interval begins after the one before it
pub starts_ascend : (b next : Bounds) → Meets b next → row_cmp (start_of b) (start_of next) ≡ Less
starts_ascend b next m = meets b.part next.part b.from next.from b.to m

-- what comes before what is at most a row is at most that row
pub before_at_most : (a b n : RowName) → row_cmp a b ≡ Less → is_le (row_cmp b n) ≡ true → is_le (row_cmp a n) ≡ true
before_at_most a b n l h = by_case (row_cmp b n) refl h
  where
    by_case : (o : Ordering) → row_cmp b n ≡ o → is_le o ≡ true → is_le (row_cmp a n) ≡ true
    by_case Less e h = ap is_le (row_cmp-total.trans a b n l e)
    by_case Equal e h = ap is_le (sym (alike_right row_cmp-total b n a e) ∙ l)
    by_case Greater e h = absurd (true≢false (sym h))

-- whether an interval begins at a row or before it
abbrev pub begins_by : RowName → Bounds → Bool
begins_by name b = is_le (row_cmp (start_of b) name)

-- the rows at which intervals begin ascend
pub starts_sorted : (all : List Bounds) (d : Bounds) → AllAdjacentBelow Meets all (length all)
    → IsStrictlySortedBy row_cmp (map start_of all)
starts_sorted all d next = sorted_from_all_adjacent row_cmp-total (map start_of all) (start_of d)
    (λ k h. step k (subst (λ n. k + 1 < n) (length-map all start_of) h))
  where
    step : (k : ℕ) → k + 1 < length all → row_cmp (get_or (map start_of all) k (start_of d))
        (get_or (map start_of all) (k + 1) (start_of d)) ≡ Less
    step k h =
        let low : k < length all = omega arith in
        ap (λ r. row_cmp r (get_or (map start_of all) (k + 1) (start_of d))) (get_or-map start_of all k d (start_of d) low)
        ∙ ap (λ r. row_cmp (start_of (get_or all k d)) r) (get_or-map start_of all (k + 1) d (start_of d) h)
        ∙ starts_ascend (get_or all k d) (get_or all (k + 1) d) (next k d h)

-- an interval begins after each of those before it
pub in_order : (all : List Bounds) (d : Bounds) → AllAdjacentBelow Meets all (length all) → (i j : ℕ) → i < j → j < length all
    → row_cmp (start_of (get_or all i d)) (start_of (get_or all j d)) ≡ Less
in_order all d next i j lt short =
    let low : i < length all = omega arith in
    ap (λ r. row_cmp r (start_of (get_or all j d))) (sym (get_or-map start_of all i d (start_of d) low))
    ∙ ap (λ r. row_cmp (get_or (map start_of all) i (start_of d)) r) (sym (get_or-map start_of all j d (start_of d) short))
    ∙ Less-from_sorted row_cmp (map start_of all) i j (start_of d) (starts_sorted all d next) lt
    (subst (λ n. j < n) (sym (length-map all start_of)) short)

-- the intervals that begin by a row come before those that begin after it
pub begin_in_two : (all : List Bounds) (name : RowName) → AllAdjacentBelow Meets all (length all) → IsPartitionedBy (begins_by name) all
begin_in_two all name next i j d le short at = elim (eq-or-lt_of_le le) [
  | inl e ↦ subst (λ k. begins_by name (get_or all k d) ≡ true) (sym e) at
  | inr lt ↦ before_at_most _ _ name (in_order all d next i j lt short) at
]

-- no interval is of a part before that of an earlier one
pub parts_rise : (all : List Bounds) (d : Bounds) → AllAdjacentBelow Meets all (length all) → (i j : ℕ) → i ≤ j → j < length all
    → (get_or all i d).part ≤ (get_or all j d).part
parts_rise all d next i j le short = elim (eq-or-lt_of_le le) [
  | inl e ↦ subst (λ k. (get_or all i d).part ≤ (get_or all k d).part) e (omega arith)
  | inr lt ↦ part_below _ _ _ (ap is_le (in_order all d next i j lt short))
]
