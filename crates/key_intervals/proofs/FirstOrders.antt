-- The orders of parts that are not split yet are those of their intervals' numbers.
use Rattle.std.proofs.Common.{◌≡◌, ◌<◌, ◌≤◌, ◌+◌, ◌-◌, ◌∙◌, ◌⊎◌, ◌++◌, ◌∷◌, [], ℕ, zero, suc, List, Some, length, map, append_assoc, arith, refl, sym, ap, subst, inl, inr}
use Rattle.std.specs.Prelude.{All, Contains, slice_get}
use Rattle.std.specs.List.{AllByRecursion, range_with_len}
use Rattle.std.specs.List.Sorted.{IsStrictlySortedBy}
use Rattle.std.specs.Option.{option_map}
use Rattle.std.specs.declared.cmp.Ordering.TheVariants.{Less}
use Rattle.std.proofs.lemmas.Bool.{cases_lt}
use Rattle.std.proofs.lemmas.List.{length-append}
use Rattle.std.proofs.lemmas.List.Elements.{All-head, All-tail}
use Rattle.std.proofs.lemmas.Map.Keys.{sorted_head, sorted_tail}
use Rattle.std.proofs.lemmas.Option.{slice_get_within, slice_get-map}
use Rattle.list_lemmas.proofs.Lists.{each-append, each-weaker, none_some, some_same}
use Rattle.list_lemmas.proofs.Places.{each-at, slice_get-some}
use Rattle.mw_types.specs.Orders.{key_cmp}
use Rattle.mw_types.specs.declared.key.PartCuts.{PartCuts}
use Rattle.mw_types.proofs.OrderLaws.{key_cmp-total}
use Rattle.key_intervals.specs.declared.bounds.Bounds.{Bounds}
use Rattle.key_intervals.specs.declared.given.Given.{Given}
use Rattle.key_intervals.specs.Intervals.{bounds_from, bounds_of, part_bounds_of, AreNumbered, DivideKeys}
use Rattle.key_intervals.specs.Division.{fresh}
use Rattle.key_intervals.specs.Index.{orders_from, from_of, AreInOrder, AreOrders, BeginsBefore, IsOfPart, IsOrder}
use Rattle.key_intervals.proofs.First.{fresh-at}
use Rattle.key_intervals.proofs.GivenLists.{at-left, at-right}
use Rattle.key_intervals.proofs.OrderLaws.{from-is, ordered-get}

-- ---- numbers from one on

-- what holds of each number within holds of all of them
range-all : (P : ℕ → Type 0) (a n : ℕ) → ((k : ℕ) → k < n → P (a + k)) → AllByRecursion P (range_with_len a n)
range-all P a zero each = tt
range-all P a (suc n) each =
    let none : a + 0 ≡ a = omega arith in (
      subst P none (each 0 (omega arith)),
      range-all P (a + 1) n (λ k less. let one : a + (k + 1) ≡ a + 1 + k = omega arith in subst P one (each (k + 1) (omega (arith, less)))),
    )

-- they are in an order in which each stands so to those after it
range-order : (R : ℕ → ℕ → Type 0) (a n : ℕ) → ((k l : ℕ) → k < l → l < n → R (a + k) (a + l)) → AreInOrder R (range_with_len a n)
range-order R a zero each = tt
range-order R a (suc n) each =
    let none : a + 0 ≡ a = omega arith in (
      range-all (R a) (a + 1) n (λ k less. let one : a + (k + 1) ≡ a + 1 + k = omega arith in
          subst (R a) one (subst (λ b. R b (a + (k + 1))) none (each 0 (k + 1) (omega arith) (omega (arith, less))))),
      range-order R (a + 1) n (λ k l before less.
          let one : a + (k + 1) ≡ a + 1 + k = omega arith in
          let two : a + (l + 1) ≡ a + 1 + l = omega arith in
          subst (R (a + 1 + k)) two (subst (λ b. R b (a + (l + 1))) one (each (k + 1) (l + 1) (omega (arith, before)) (omega (arith, less))))),
    )

-- each number within is one of them
range-contains : (a n k : ℕ) → k < n → Contains (range_with_len a n) (a + k)
range-contains a zero k less = absurd (omega (arith, less))
range-contains a (suc n) zero less = (0, omega arith, omega arith)
range-contains a (suc n) (suc k) less =
    let rest = range-contains (a + 1) n k (omega (arith, less)) in
    let one : a + 1 + k ≡ a + suc k = omega arith in
    subst (Contains (a ∷ range_with_len (a + 1) n)) one (suc rest.0, omega (arith, rest.1), rest.2)

-- ---- the order of one part

-- the intervals of a part from a key on begin after each key below that
above-from : (key : List ℕ) (part : ℕ) (from : List ℕ) (cuts : List (List ℕ)) → key_cmp key from ≡ Less
    → IsStrictlySortedBy key_cmp (from ∷ cuts) → AllByRecursion (λ (b : Bounds). key_cmp key b.from ≡ Less) (bounds_from part from cuts)
above-from key part from [] less sorted = (less, tt)
above-from key part from (cut ∷ cuts) less sorted = (
  less,
  above-from key part cut cuts (key_cmp-total.trans key from cut less (sorted_head key_cmp from (cut ∷ cuts) sorted).0)
      (sorted_tail key_cmp from (cut ∷ cuts) sorted),
)

-- they begin one after another
from-order : (part : ℕ) (from : List ℕ) (cuts : List (List ℕ)) → IsStrictlySortedBy key_cmp (from ∷ cuts)
    → AreInOrder (λ (a b : Bounds). key_cmp a.from b.from ≡ Less) (bounds_from part from cuts)
from-order part from [] sorted = (tt, tt)
from-order part from (cut ∷ cuts) sorted = (
  above-from from part cut cuts (sorted_head key_cmp from (cut ∷ cuts) sorted).0 (sorted_tail key_cmp from (cut ∷ cuts) sorted),
  from-order part cut cuts (sorted_tail key_cmp from (cut ∷ cuts) sorted),
)

-- they are of the part
from-part : (part : ℕ) (from : List ℕ) (cuts : List (List ℕ)) → AllByRecursion (λ (b : Bounds). b.part ≡ part) (bounds_from part from cuts)
from-part part from [] = (refl, tt)
from-part part from (cut ∷ cuts) = (refl, from-part part cut cuts)

module _ (before own behind : List Bounds) (part : ℕ)
    (none : AllByRecursion (λ (b : Bounds). b.part ≡ part → ⊥) before) (of : AllByRecursion (λ (b : Bounds). b.part ≡ part) own)
    (no_more : AllByRecursion (λ (b : Bounds). b.part ≡ part → ⊥) behind)
    (order : AreInOrder (λ (a b : Bounds). key_cmp a.from b.from ≡ Less) own) where
  -- the intervals of all parts
  abbrev all : List Given
  all = map fresh (before ++ (own ++ behind))

  own-at : (k : ℕ) (b : Bounds) → slice_get own k ≡ Some b → slice_get all (length before + k) ≡ Some (fresh b)
  own-at k b at =
      slice_get-map fresh (before ++ (own ++ behind)) (length before + k)
      ∙ ap (option_map fresh) (at-right before (own ++ behind) k ∙ at-left own behind k (slice_get_within own k b at) ∙ at)

  own-begins : (k l : ℕ) → k < l → l < length own → BeginsBefore all (length before + k) (length before + l)
  own-begins k l before' less =
      let one = slice_get-some own k (omega (arith, before', less)) in
      let two = slice_get-some own l less in
      ap (λ key. key_cmp key (from_of all (length before + l))) (from-is all (length before + k) one.0 (own-at k one.0 one.1))
      ∙ ap (key_cmp one.0.from) (from-is all (length before + l) two.0 (own-at l two.0 two.1))
      ∙ ordered-get (λ (a b : Bounds). key_cmp a.from b.from ≡ Less) own k l one.0 two.0 order before' one.1 two.1

  own-whole : (i : ℕ) → IsOfPart all part i → Contains (range_with_len (length before) (length own)) i
  own-whole i has =
      let at = fresh-at (before ++ (own ++ behind)) i (fresh has.0) has.1 in
      let its : at.0.part ≡ part = ap (λ (g : Given). g.bounds.part) at.2 ∙ has.2 in
      elim (cases_lt i (length before)) [
        | inl less ↦ absurd (each-at (λ (b : Bounds). b.part ≡ part → ⊥) before i at.0 none
            (sym (at-left before (own ++ behind) i less) ∙ at.1) its)
        | inr ge ↦ behind-at at.0 its (i - length before) (omega (arith, ge)) at.1 (cases_lt (i - length before) (length own))
      ]
    where
      behind-at : (b : Bounds) → b.part ≡ part → (k : ℕ) → length before + k ≡ i → slice_get (before ++ (own ++ behind)) i ≡ Some b
          → (k < length own) ⊎ (length own ≤ k) → Contains (range_with_len (length before) (length own)) i
      behind-at b its k is at (inl less) =
          subst (Contains (range_with_len (length before) (length own))) is (range-contains (length before) (length own) k less)
      behind-at b its k is at (inr past) =
          let j = k - length own in
          let place : length own + j ≡ k = omega (arith, past) in
          absurd (each-at (λ (c : Bounds). c.part ≡ part → ⊥) behind j b no_more
          (sym (at-right own behind j) ∙ ap (slice_get (own ++ behind)) place ∙ sym (at-right before (own ++ behind) k)
          ∙ ap (slice_get (before ++ (own ++ behind))) is ∙ at) its)

  -- the numbers of the part's own are its order
  own-order : IsOrder all part (range_with_len (length before) (length own))
  own-order = record {
    of_part = range-all (IsOfPart all part) (length before) (length own) (λ k less.
        let b = slice_get-some own k less in
        (b.0, own-at k b.0 b.1, each-at (λ (c : Bounds). c.part ≡ part) own k b.0 of b.1));
    whole = own-whole;
    rising = range-order (BeginsBefore all) (length before) (length own) own-begins;
  }

-- ---- the orders of all

-- the intervals of parts that are numbered from m on are of such parts
parts-from : (m : ℕ) (parts : List PartCuts) → AreNumbered m parts → AllByRecursion (λ (b : Bounds). m ≤ b.part) (bounds_of parts)
parts-from m [] numbered = tt
parts-from m (p ∷ ps) numbered =
    each-append (λ (b : Bounds). m ≤ b.part) (part_bounds_of p) (bounds_of ps)
    (each-weaker (λ (b : Bounds). b.part ≡ p.part) (λ (b : Bounds). m ≤ b.part) (λ b is. omega (arith, is, numbered.0)) (part_bounds_of p)
    (from-part p.part [] p.cuts))
    (each-weaker (λ (b : Bounds). m + 1 ≤ b.part) (λ (b : Bounds). m ≤ b.part) (λ b le. omega (arith, le)) (bounds_of ps)
    (parts-from (m + 1) ps numbered.1))

-- and none is of a part past the last
parts-below : (m : ℕ) (parts : List PartCuts) → AreNumbered m parts
    → AllByRecursion (λ (b : Bounds). b.part < m + length parts) (bounds_of parts)
parts-below m [] numbered = tt
parts-below m (p ∷ ps) numbered =
    each-append (λ (b : Bounds). b.part < m + length (p ∷ ps)) (part_bounds_of p) (bounds_of ps)
    (each-weaker (λ (b : Bounds). b.part ≡ p.part) (λ (b : Bounds). b.part < m + length (p ∷ ps))
    (λ b is. omega (arith, is, numbered.0)) (part_bounds_of p) (from-part p.part [] p.cuts))
    (each-weaker (λ (b : Bounds). b.part < m + 1 + length ps) (λ (b : Bounds). b.part < m + length (p ∷ ps))
    (λ b less. omega (arith, less)) (bounds_of ps) (parts-below (m + 1) ps numbered.1))

-- behind intervals of earlier parts each part has its order
orders-behind : (before : List Bounds) (m : ℕ) (parts : List PartCuts) → AreNumbered m parts
    → All (λ (p : PartCuts). DivideKeys p.cuts) parts → AllByRecursion (λ (b : Bounds). b.part < m) before
    → (q : ℕ) (numbers : List ℕ) → slice_get (orders_from (length before) parts) q ≡ Some numbers
    → IsOrder (map fresh (before ++ bounds_of parts)) (m + q) numbers
orders-behind before m [] numbered cuts below q numbers at = absurd (none_some numbers at)
orders-behind before m (p ∷ ps) numbered cuts below zero numbers at =
    let here : p.part ≡ m + 0 = omega (arith, numbered.0) in
    subst (λ part. IsOrder (map fresh (before ++ bounds_of (p ∷ ps))) part numbers) here
    (subst (IsOrder (map fresh (before ++ bounds_of (p ∷ ps))) p.part)
    (some_same (range_with_len (length before) (length (part_bounds_of p))) numbers at)
    (own-order before (part_bounds_of p) (bounds_of ps) p.part
    (each-weaker (λ (b : Bounds). b.part < m) (λ (b : Bounds). b.part ≡ p.part → ⊥) (λ b less is. omega (arith, less, is, numbered.0))
    before below)
    (from-part p.part [] p.cuts)
    (each-weaker (λ (b : Bounds). m + 1 ≤ b.part) (λ (b : Bounds). b.part ≡ p.part → ⊥) (λ b le is. omega (arith, le, is, numbered.0))
    (bounds_of ps) (parts-from (m + 1) ps numbered.1))
    (from-order p.part [] p.cuts (All-head (λ (r : PartCuts). DivideKeys r.cuts) p ps cuts))))
orders-behind before m (p ∷ ps) numbered cuts below (suc q) numbers at =
    let whole : (before ++ part_bounds_of p) ++ bounds_of ps ≡ before ++ bounds_of (p ∷ ps) =
    append_assoc before (part_bounds_of p) (bounds_of ps) in
    let many : length before + length (part_bounds_of p) ≡ length (before ++ part_bounds_of p) =
    omega (arith, length-append before (part_bounds_of p)) in
    let next : m + 1 + q ≡ m + suc q = omega arith in
    subst (λ part. IsOrder (map fresh (before ++ bounds_of (p ∷ ps))) part numbers) next
    (subst (λ all. IsOrder (map fresh all) (m + 1 + q) numbers) whole
    (orders-behind (before ++ part_bounds_of p) (m + 1) ps numbered.1 (All-tail (λ (r : PartCuts). DivideKeys r.cuts) p ps cuts)
    (each-append (λ (b : Bounds). b.part < m + 1) before (part_bounds_of p)
    (each-weaker (λ (b : Bounds). b.part < m) (λ (b : Bounds). b.part < m + 1) (λ b less. omega (arith, less)) before below)
    (each-weaker (λ (b : Bounds). b.part ≡ p.part) (λ (b : Bounds). b.part < m + 1) (λ b is. omega (arith, is, numbered.0))
    (part_bounds_of p) (from-part p.part [] p.cuts)))
    q numbers (ap (λ n. slice_get (orders_from n ps) q) (sym many) ∙ at)))

-- how many orders there are
pub length-orders_from : (n : ℕ) (parts : List PartCuts) → length (orders_from n parts) ≡ length parts
length-orders_from n [] = refl
length-orders_from n (p ∷ ps) = ap suc (length-orders_from (n + length (part_bounds_of p)) ps)

-- the first orders are those of the parts
pub first-orders : (parts : List PartCuts) → AreNumbered 0 parts → All (λ (p : PartCuts). DivideKeys p.cuts) parts
    → AreOrders (map fresh (bounds_of parts)) (orders_from 0 parts)
first-orders parts numbered cuts = record {
  there = λ i g at.
      let b = fresh-at (bounds_of parts) i g at in
      let less = each-at (λ (c : Bounds). c.part < 0 + length parts) (bounds_of parts) i b.0 (parts-below 0 parts numbered) b.1 in
      let same = ap (λ (h : Given). h.bounds.part) b.2 in
      omega (arith, less, same, length-orders_from 0 parts);
  each = λ q numbers at.
      let none : 0 + q ≡ q = omega arith in
      subst (λ part. IsOrder (map fresh (bounds_of parts)) part numbers) none (orders-behind [] 0 parts numbered cuts tt q numbers at);
}
