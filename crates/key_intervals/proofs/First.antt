-- The intervals of parts that are not split yet have each row once.
use Rattle.std.proofs.Common.{◌≡◌, ◌<◌, ◌≤◌, ◌+◌, ◌∙◌, ◌∷◌, [], ℕ, zero, suc, List, true, Some, None, length, map, arith, refl, sym, ap, inl, inr}
use Rattle.std.specs.Prelude.{All, slice_get}
use Rattle.std.specs.List.{AllByRecursion}
use Rattle.std.specs.List.Sorted.{IsStrictlySortedBy}
use Rattle.std.specs.Option.{option_map}
use Rattle.std.specs.Ordering.{is_le, is_lt}
use Rattle.std.proofs.lemmas.Bool.{cases_Bool}
use Rattle.std.proofs.lemmas.List.{length-map}
use Rattle.std.proofs.lemmas.List.Elements.{All-head, All-tail}
use Rattle.std.proofs.lemmas.Map.Keys.{sorted_head, sorted_tail}
use Rattle.std.proofs.lemmas.Option.{slice_get_within, slice_get-map}
use Rattle.list_lemmas.proofs.Lists.{each-append, some_same}
use Rattle.list_lemmas.proofs.Places.{each-at, slice_get-some}
use Rattle.mw_types.specs.Orders.{key_cmp}
use Rattle.mw_types.specs.declared.identity.RowName.{RowName}
use Rattle.mw_types.specs.declared.key.PartCuts.{PartCuts}
use Rattle.key_intervals.specs.declared.bounds.Bounds.{Bounds}
use Rattle.key_intervals.specs.declared.given.Given.{Given}
use Rattle.key_intervals.specs.declared.TheConstants.{INTERVALS_MAX}
use Rattle.key_intervals.specs.Intervals.{bounds_from, bounds_of, covers, ends_after, part_bounds_of, AreNumbered, DivideKeys, HasRow}
use Rattle.key_intervals.specs.Division.{fresh, AreDivided, HasLive}
use Rattle.key_intervals.proofs.Beginnings.{empty_first}
use Rattle.key_intervals.proofs.GivenLists.{at-left, at-right}
use Rattle.key_intervals.proofs.KeyOrder.{not_below}
use Rattle.key_intervals.proofs.Lookup.{has_row, one_interval}
use Rattle.key_intervals.proofs.Made.{intervals_of}

-- the intervals of a part from a key on have each row of the part from that key on
row-from : (part : ℕ) (from : List ℕ) (cuts : List (List ℕ)) (name : RowName) → part ≡ name.part → is_le (key_cmp from name.key) ≡ true
    → (k : ℕ) × HasRow (bounds_from part from cuts) k name
row-from part from [] name of begins =
    let whole : Bounds = record { part = part; from = from; to = None } in (0, (whole, refl, has_row whole name of begins refl))
row-from part from (cut ∷ cuts) name of begins = elim (cases_Bool (is_lt (key_cmp name.key cut))) [
  | inl less ↦ let first : Bounds = record { part = part; from = from; to = Some cut } in (0, (first, refl, has_row first name of begins less))
  | inr not ↦ let rest = row-from part cut cuts name of (not_below name.key cut not) in (suc rest.0, rest.1)
]

-- the intervals of numbered parts have each row of the parts
row-of : (n : ℕ) (parts : List PartCuts) (name : RowName) (k : ℕ) → AreNumbered n parts → name.part ≡ n + k → k < length parts
    → (i : ℕ) × HasRow (bounds_of parts) i name
row-of n [] name k numbered is less = absurd (omega (arith, less))
row-of n (p ∷ ps) name zero numbered is less =
    let of : p.part ≡ name.part = omega (arith, numbered.0, is) in
    let own = row-from p.part [] p.cuts name of (empty_first name.key) in (
      own.0,
      (
        own.1.0,
        at-left (part_bounds_of p) (bounds_of ps) own.0 (slice_get_within (part_bounds_of p) own.0 own.1.0 own.1.1)
            ∙ own.1.1,
        own.1.2,
      ),
    )
row-of n (p ∷ ps) name (suc k) numbered is less =
    let rest = row-of (n + 1) ps name k numbered.1 (omega (arith, is)) (omega (arith, less)) in
    (length (part_bounds_of p) + rest.0, (rest.1.0, at-right (part_bounds_of p) (bounds_of ps) rest.0 ∙ rest.1.1, rest.1.2))

-- what stands among fresh intervals is fresh
pub fresh-at : (all : List Bounds) (i : ℕ) (g : Given) → slice_get (map fresh all) i ≡ Some g
    → (b : Bounds) × (slice_get all i ≡ Some b) × (fresh b ≡ g)
fresh-at all i g at =
    let less : i < length all = omega (arith, slice_get_within (map fresh all) i g at, length-map all fresh) in
    let b = slice_get-some all i less in
    (b.0, b.1, some_same (fresh b.0) g (sym (slice_get-map fresh all i ∙ ap (option_map fresh) b.1) ∙ at))

-- intervals that have a row among fresh ones have it
pub live-has : (all : List Bounds) (i : ℕ) (name : RowName) → HasLive (map fresh all) i name → HasRow all i name
live-has all i name has =
    let at = fresh-at all i (fresh has.0) has.1 in
    (at.0, at.1, ap (λ (g : Given). covers g.bounds name) at.2 ∙ has.2)

-- and the other way round
pub has-live : (all : List Bounds) (i : ℕ) (name : RowName) → HasRow all i name → HasLive (map fresh all) i name
has-live all i name has = (has.0, slice_get-map fresh all i ∙ ap (option_map fresh) has.1, has.2)

-- no interval from a key on is without keys
rising-from : (part : ℕ) (from : List ℕ) (cuts : List (List ℕ)) → IsStrictlySortedBy key_cmp (from ∷ cuts)
    → AllByRecursion (λ (b : Bounds). ends_after b.to b.from ≡ true) (bounds_from part from cuts)
rising-from part from [] sorted = (refl, tt)
rising-from part from (cut ∷ cuts) sorted =
    (ap is_lt (sorted_head key_cmp from (cut ∷ cuts) sorted).0, rising-from part cut cuts (sorted_tail key_cmp from (cut ∷ cuts) sorted))

-- nor is one of any part
rising-of : (parts : List PartCuts) → All (λ (p : PartCuts). DivideKeys p.cuts) parts
    → AllByRecursion (λ (b : Bounds). ends_after b.to b.from ≡ true) (bounds_of parts)
rising-of [] cuts = tt
rising-of (p ∷ ps) cuts =
    each-append (λ (b : Bounds). ends_after b.to b.from ≡ true) (part_bounds_of p) (bounds_of ps)
    (rising-from p.part [] p.cuts (All-head (λ (q : PartCuts). DivideKeys q.cuts) p ps cuts))
    (rising-of ps (All-tail (λ (q : PartCuts). DivideKeys q.cuts) p ps cuts))

-- the first division has each row of the parts in one live interval
pub first-divided : (parts : List PartCuts) → AreNumbered 0 parts → All (λ (p : PartCuts). DivideKeys p.cuts) parts
    → length (bounds_of parts) ≤ INTERVALS_MAX → AreDivided (length parts) (map fresh (bounds_of parts))
first-divided parts numbered cuts few = record {
  each = λ name there. let has = row-of 0 parts name name.part numbered (omega arith) there in
      (has.0, has-live (bounds_of parts) has.0 name has.1);
  once = λ name i j one other. one_interval (bounds_of parts) i j name (intervals_of parts numbered cuts few)
      (live-has (bounds_of parts) i name one) (live-has (bounds_of parts) j name other);
  rising = λ i g at. let has = fresh-at (bounds_of parts) i g at in
      ap (λ (h : Given). ends_after h.bounds.to h.bounds.from) (sym has.2)
      ∙ each-at (λ (b : Bounds). ends_after b.to b.from ≡ true) (bounds_of parts) i has.0 (rising-of parts cuts) has.1;
  few = omega (arith, few, length-map (bounds_of parts) fresh);
}
