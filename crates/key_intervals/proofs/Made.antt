-- The intervals of parts that are numbered in order have each key of the parts, and none twice.
use Rattle.std.proofs.Common.{◌≡◌, ◌∙◌, ◌<◌, ◌≤◌, ◌+◌, ◌++◌, ℕ, zero, suc, List, [], ◌∷◌, Some, None, length, get_or, arith, refl, sym, ap, subst, Less}
use Rattle.std.specs.Prelude.{IfSome, All, Any, slice_get}
use Rattle.std.proofs.lemmas.List.{get_or_default, get_or-append-add, length-append}
use Rattle.std.specs.List.{AllAdjacentBelow}
use Rattle.std.specs.List.Sorted.{IsStrictlySortedBy}
use Rattle.std.proofs.lemmas.List.Elements.{All-head, All-tail, All-weaker, recursion_from_All}
use Rattle.std.proofs.lemmas.Map.Keys.{sorted_head, sorted_tail}
use Rattle.mw_types.specs.Orders.{key_cmp}
use Rattle.mw_types.specs.declared.key.PartCuts.{PartCuts}
use Rattle.key_intervals.specs.declared.bounds.Bounds.{Bounds}
use Rattle.key_intervals.specs.declared.TheConstants.{INTERVALS_MAX}
use Rattle.key_intervals.specs.Intervals.{Meets, AreIntervals, AreNumbered, bounds_from, part_bounds_of, bounds_of, DivideKeys}

-- one more interval before those that meet
meet_cons : (b : Bounds) (rest : List Bounds) → ((d : Bounds) → 0 < length rest → Meets b (get_or rest 0 d))
    → AllAdjacentBelow Meets rest (length rest) → AllAdjacentBelow Meets (b ∷ rest) (length (b ∷ rest))
meet_cons b rest first a zero d l = first d (omega arith)
meet_cons b rest first a (suc k) d l =
    let one : suc (k + 1) ≡ suc k + 1 = omega arith in
    subst (λ i. Meets (get_or rest k d) (get_or (b ∷ rest) i d)) one (a k d (omega arith))

-- these intervals, if any, begin with the empty key of a part
abbrev Begin : ℕ → List Bounds → Type 0
Begin part all = (d : Bounds) → 0 < length all → ((get_or all 0 d).part ≡ part) × ((get_or all 0 d).from ≡ [])

-- the intervals of a part begin with its first key
begins_with : (part : ℕ) (from : List ℕ) (cuts : List (List ℕ)) (rest : List Bounds) (d : Bounds)
    → ((get_or (bounds_from part from cuts ++ rest) 0 d).part ≡ part) × ((get_or (bounds_from part from cuts ++ rest) 0 d).from ≡ from)
begins_with part from [] rest d = (refl, refl)
begins_with part from (cut ∷ cuts) rest d = (refl, refl)

some_from : (part : ℕ) (from : List ℕ) (cuts : List (List ℕ)) (rest : List Bounds) → 0 < length (bounds_from part from cuts ++ rest)
some_from part from [] rest = omega arith
some_from part from (cut ∷ cuts) rest = omega arith

-- the intervals of a part meet, and meet those of the next
meet_from : (part : ℕ) (from : List ℕ) (cuts : List (List ℕ)) (rest : List Bounds) → IsStrictlySortedBy key_cmp (from ∷ cuts)
    → Begin (part + 1) rest → AllAdjacentBelow Meets rest (length rest)
    → AllAdjacentBelow Meets (bounds_from part from cuts ++ rest) (length (bounds_from part from cuts ++ rest))
meet_from part from [] rest s begin a = meet_cons (record { part = part; from = from; to = None }) rest begin a
meet_from part from (cut ∷ cuts) rest s begin a =
    meet_cons (record { part = part; from = from; to = Some cut }) (bounds_from part cut cuts ++ rest)
    (λ d l. let w = begins_with part cut cuts rest d in (w.0, w.1, (sorted_head key_cmp from (cut ∷ cuts) s).0))
    (meet_from part cut cuts rest (sorted_tail key_cmp from (cut ∷ cuts) s) begin a)

-- the last of these intervals has no end
abbrev LastEnds : List Bounds → Type 0
LastEnds all = (k : ℕ) (d : Bounds) → k + 1 ≡ length all → (get_or all k d).to ≡ None

last_from : (part : ℕ) (from : List ℕ) (cuts : List (List ℕ)) (rest : List Bounds) → LastEnds rest
    → LastEnds (bounds_from part from cuts ++ rest)
last_from part from [] rest h zero d e = refl
last_from part from [] rest h (suc k) d e = h k d (omega arith)
last_from part from (cut ∷ cuts) rest h zero d e = absurd (omega (arith, some_from part cut cuts rest))
last_from part from (cut ∷ cuts) rest h (suc k) d e = last_from part cut cuts rest h k d (omega arith)

begin_of : (n : ℕ) (parts : List PartCuts) → AreNumbered n parts → Begin n (bounds_of parts)
begin_of n [] a d l = absurd (omega arith)
begin_of n (p ∷ ps) a d l = let w = begins_with p.part [] p.cuts (bounds_of ps) d in (w.0 ∙ a.0, w.1)

meet_of : (n : ℕ) (parts : List PartCuts) → AreNumbered n parts → All (λ (p : PartCuts). DivideKeys p.cuts) parts
    → AllAdjacentBelow Meets (bounds_of parts) (length (bounds_of parts))
meet_of n [] a cuts = λ k d l. absurd (omega arith)
meet_of n (p ∷ ps) a cuts =
    meet_from p.part [] p.cuts (bounds_of ps) (All-head (λ (p : PartCuts). DivideKeys p.cuts) p ps cuts)
    (subst (λ m. Begin (m + 1) (bounds_of ps)) (sym a.0) (begin_of (n + 1) ps a.1))
    (meet_of (n + 1) ps a.1 (All-tail (λ (p : PartCuts). DivideKeys p.cuts) p ps cuts))

last_of : (parts : List PartCuts) → LastEnds (bounds_of parts)
last_of [] = λ k d e. absurd (omega arith)
last_of (p ∷ ps) = last_from p.part [] p.cuts (bounds_of ps) (last_of ps)

first_of : (all : List Bounds) → ((d : Bounds) → 0 < length all → (get_or all 0 d).from ≡ [])
    → IfSome (slice_get all 0) (λ (b : Bounds). b.from ≡ [])
first_of [] h = tt
first_of (b ∷ bs) h = h b (omega arith)

-- what the cuts of the parts make
pub intervals_of : (parts : List PartCuts) → AreNumbered 0 parts → All (λ (p : PartCuts). DivideKeys p.cuts) parts
    → length (bounds_of parts) ≤ INTERVALS_MAX → AreIntervals (bounds_of parts)
intervals_of parts a cuts few = record {
  first = first_of (bounds_of parts) (λ d l. (begin_of 0 parts a d l).1);
  next = meet_of 0 parts a cuts;
  last = last_of parts;
  few = few;
}

-- each part that there is has an interval
pub has_part : (parts : List PartCuts) (n k : ℕ) → AreNumbered n parts → k < length parts
    → Any (λ (b : Bounds). b.part ≡ n + k) (bounds_of parts)
has_part [] n k a l = absurd (omega arith)
has_part (p ∷ ps) n zero a l =
    let d : Bounds = record { part = 0; from = []; to = None } in
    let first = get_or (bounds_of (p ∷ ps)) 0 d in
    let some = some_from p.part [] p.cuts (bounds_of ps) in (
      0,
      first,
      some,
      get_or_default (bounds_of (p ∷ ps)) 0 first d some,
      (begins_with p.part [] p.cuts (bounds_of ps) d).0 ∙ a.0
          ∙ omega arith,
    )
has_part (p ∷ ps) n (suc k) a l =
    let h = has_part ps (n + 1) k a.1 (omega arith) in
    let m = length (part_bounds_of p) in (
      m + h.0,
      h.1,
      omega (arith, length-append (part_bounds_of p) (bounds_of ps), h.2),
      get_or-append-add (part_bounds_of p)
          (bounds_of ps) h.0 h.1 ∙ h.3,
      h.4 ∙ omega arith,
    )

-- a part may have no cuts
pub no_cuts : DivideKeys []
unfolding IsStrictlySortedBy
no_cuts = (tt, tt)

-- cuts that ascend strictly, and none of which is empty, may divide a part
pub cuts_of : (cuts : List (List ℕ)) → IsStrictlySortedBy key_cmp cuts → All (λ cut. 0 < length cut) cuts → DivideKeys cuts
unfolding IsStrictlySortedBy
cuts_of cuts sorted some = (
  recursion_from_All (λ cut. key_cmp [] cut ≡ Less) cuts
      (All-weaker (λ cut. 0 < length cut) (λ cut. key_cmp [] cut ≡ Less) above cuts some),
  sorted,
)
  where
    above : (cut : List ℕ) → 0 < length cut → key_cmp [] cut ≡ Less
    above [] l = absurd (omega arith)
    above (b ∷ bs) l = refl

-- the next part keeps the numbers in order
pub AreNumbered-push : (n : ℕ) (parts : List PartCuts) (p : PartCuts) → AreNumbered n parts → p.part ≡ n + length parts
    → AreNumbered n (parts ++ p ∷ [])
AreNumbered-push n [] p a e = (omega (arith, e), tt)
AreNumbered-push n (q ∷ qs) p a e = (a.0, AreNumbered-push (n + 1) qs p a.1 (omega (arith, e)))

-- parts without cuts have one interval each
pub length-bounds_of : (parts : List PartCuts) → All (λ (p : PartCuts). p.cuts ≡ []) parts → length (bounds_of parts) ≡ length parts
length-bounds_of [] h = refl
length-bounds_of (p ∷ ps) h =
    let whole : bounds_of (p ∷ ps) ≡ bounds_from p.part [] [] ++ bounds_of ps =
    ap (λ cuts. bounds_from p.part [] cuts ++ bounds_of ps) (All-head (λ (q : PartCuts). q.cuts ≡ []) p ps h) in
    ap length whole ∙ omega (arith, length-bounds_of ps (All-tail (λ (q : PartCuts). q.cuts ≡ []) p ps h))
