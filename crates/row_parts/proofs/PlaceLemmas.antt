-- Searches in lists that stand in order, and what an edit at the place that they answer leaves.
use Rattle.std.proofs.Common.{◌≡◌, ℕ, zero, suc, ◌+◌, ◌-◌, ◌<◌, List, [], ◌∷◌, ◌++◌, length, get_or, take, drop, set, Bool, true, false, ◌||◌, Result, Ok, Err, refl, sym, ap, subst, ◌∙◌, arith, inl, inr, add-one}
use Rattle.std.specs.Prelude.{All, filter, insert, remove, not}
use Rattle.std.specs.List.{AllByRecursion, list_any}
use Rattle.std.specs.List.Sorted.{IsStrictlySortedBy, IsBinarySearchResult, IsSearchInRange, IsSortedBy}
use Rattle.std.specs.Cmp.{IsTotalOrder}
use Rattle.std.specs.Ordering.{on, is_lt, is_eq, ordering_reverse, match_ordering}
use Rattle.std.specs.declared.cmp.Ordering.{Ordering}
use Rattle.std.specs.declared.cmp.Ordering.TheVariants.{Less, Equal, Greater}
use Rattle.std.proofs.lemmas.Cmp.{alike_right}
use Rattle.std.proofs.lemmas.Bool.{cases_lt}
use Rattle.std.proofs.lemmas.List.{length-take, length-drop, get_or-take, get_or-drop, get_or_default, take-append-drop, set_split, drop_more}
use Rattle.std.proofs.lemmas.List.Elements.{recursion_from_All, filter-append}
use Rattle.std.proofs.lemmas.List.Sorted.{searchable_from_sorted}
use Rattle.std.proofs.lemmas.Map.Keys.{Less-from_sorted}
use Rattle.row_parts.specs.Contents.{put_in}
use Rattle.row_parts.specs.Places.{IsHit, IsGap, IsHitOrGap}

-- ---- a search by rank

-- a list in strict order is sorted
sorted_from_strict : {X K : Type 0} (key : X → K) {R : K → K → Ordering} (o : IsTotalOrder R) (xs : List X)
    → IsStrictlySortedBy (on key R) xs → IsSortedBy (λ a b. is_lt (R (key a) (key b))) xs
sorted_from_strict key {R} o xs sorted i d low high =
    let up : R (key (get_or xs i d)) (key (get_or xs (i + 1) d)) ≡ Less = Less-from_sorted (on key R) xs i (i + 1) d sorted
    (omega arith) high in
    rw (o.antisymm (key (get_or xs (i + 1) d)) (key (get_or xs i d)), up) refl

-- what a binary search by rank answers in a list that stands in strict order
pub is_place : {X K : Type 0} (key : X → K) {R : K → K → Ordering} (o : IsTotalOrder R) (k : K) (xs : List X) (found : Result ℕ ℕ)
    → IsStrictlySortedBy (on key R) xs
    → IsSearchInRange found (length xs) → IsBinarySearchResult (λ x. R (key x) k) xs found → IsHitOrGap (λ x. R (key x) k) xs found
is_place key {R} o k xs (Ok at) sorted within here = record {
  within = within;
  here = here;
  before = λ i d h.
      let below : i < at = omega (arith, length-take at xs) in
      let up : R (key (get_or xs i d)) (key (get_or xs at d)) ≡ Less = Less-from_sorted (on key R) xs i at d sorted below within in
      rw (get_or-take at xs i d below) (sym (alike_right o (key (get_or xs at d)) k (key (get_or xs i d)) (here d)) ∙ up);
  behind = λ i d h.
      let above : at + 1 + i < length xs = omega (arith, length-drop (at + 1) xs) in
      let up : R (key (get_or xs at d)) (key (get_or xs (at + 1 + i) d)) ≡ Less = Less-from_sorted (on key R) xs at (at + 1 + i) d sorted
      (omega arith) above in
      let down : R k (key (get_or xs (at + 1 + i) d)) ≡ Less = sym
      (o.congr (key (get_or xs at d)) k (key (get_or xs (at + 1 + i) d)) (here d)) ∙ up in
      rw (get_or-drop (at + 1) xs i d) (o.antisymm (key (get_or xs (at + 1 + i) d)) k ∙ ap ordering_reverse down);
}
is_place key {R} o k xs (Err at) sorted within parted =
    let p = parted (searchable_from_sorted o key xs k (sorted_from_strict key o xs sorted)) in
    record {
      within = within;
      before = λ i d h. rw (get_or-take at xs i d (omega (arith, length-take at xs)))
          (p.0 i d (omega arith) (omega (arith, length-take at xs)));
      behind = λ i d h. rw (get_or-drop at xs i d) (p.1 (at + i) d (omega arith) (omega (arith, length-drop at xs)));
    }

-- past the greatest element there is a gap
pub gap_at_end : {X K : Type 0} (key : X → K) {R : K → K → Ordering} (o : IsTotalOrder R) (k : K) (xs : List X) (last : X)
    → IsStrictlySortedBy (on key R) xs
    → 0 < length xs → get_or xs (length xs - 1) last ≡ last → R (key last) k ≡ Less → IsGap (λ x. R (key x) k) xs (length xs)
gap_at_end key {R} o k xs last sorted some at_end below = record {
  within = omega arith;
  before = λ i d h.
      let inside : i < length xs = omega (arith, length-take (length xs) xs) in
      let here : get_or xs (length xs - 1) d ≡ last = get_or_default xs (length xs - 1) d last (omega arith) ∙ at_end in
      rw (get_or-take (length xs) xs i d inside) (elim (cases_lt i (length xs - 1)) [
        | inl lt ↦ o.trans (key (get_or xs i d)) (key last) k
            (subst (λ y. R (key (get_or xs i d)) (key y) ≡ Less) here
            (Less-from_sorted (on key R) xs i (length xs - 1) d sorted lt (omega arith))) below
        | inr le ↦
            let same : i ≡ length xs - 1 = omega arith in
            rw (same, here) below
      ]);
  behind = λ i d h. absurd (omega (arith, length-drop (length xs) xs));
}

-- ---- `put_in`

put_in-past : {X : Type 0} {cmp : X → X → Ordering} (o : IsTotalOrder cmp) (again : X → X → X) (new : X) (front back : List X)
    → AllByRecursion (λ x. cmp x new ≡ Less) front → put_in cmp again new (front ++ back) ≡ front ++ put_in cmp again new back
put_in-past o again new [] back below = refl
put_in-past {X} {cmp} o again new (x ∷ front) back below =
    let above : cmp new x ≡ Greater = o.antisymm new x ∙ ap ordering_reverse below.0 in
    rw above (ap (λ (l : List X). x ∷ l) (put_in-past o again new front back below.1))

put_in-before : {X : Type 0} {cmp : X → X → Ordering} (o : IsTotalOrder cmp) (again : X → X → X) (new : X) (back : List X)
    → AllByRecursion (λ x. cmp x new ≡ Greater) back → put_in cmp again new back ≡ new ∷ back
put_in-before o again new [] above = refl
put_in-before {X} {cmp} o again new (x ∷ back) above =
    let below : cmp new x ≡ Less = o.antisymm new x ∙ ap ordering_reverse above.0 in
    rw below refl

-- at a gap the new element is inserted
pub put_in-gap : {X : Type 0} {cmp : X → X → Ordering} (o : IsTotalOrder cmp) (again : X → X → X) (new : X) (xs : List X) (at : ℕ)
    → IsGap (λ x. cmp x new) xs at → put_in cmp again new xs ≡ insert xs at new
put_in-gap {X} {cmp} o again new xs at gap =
    ap (put_in cmp again new) (sym (take-append-drop at xs))
    ∙ put_in-past o again new (take at xs) (drop at xs) (recursion_from_All (λ x. cmp x new ≡ Less) (take at xs) gap.before)
    ∙ ap (λ (l : List X). take at xs ++ l) (put_in-before o again new (drop at xs)
    (recursion_from_All (λ x. cmp x new ≡ Greater) (drop at xs) gap.behind))

-- at a hit it takes the place of the one that is there
pub put_in-hit : {X : Type 0} {cmp : X → X → Ordering} (o : IsTotalOrder cmp) (again : X → X → X) (new : X) (xs : List X) (at : ℕ) (d : X)
    → IsHit (λ x. cmp x new) xs at → put_in cmp again new xs ≡ set xs at (again new (get_or xs at d))
put_in-hit {X} {cmp} o again new xs at d hit =
    let x = get_or xs at d in
    let tie : cmp new x ≡ Equal = o.antisymm new x ∙ ap ordering_reverse (hit.here d) in
    let rest : put_in cmp again new (drop at xs) ≡ again new x ∷ drop (at + 1) xs = rw (drop_more xs at d hit.within, tie) refl in
    let set_is : set xs at (again new x) ≡ take at xs ++ again new x ∷ drop (at + 1) xs = rw add-one
    (set_split xs at (again new x) hit.within) in
    ap (put_in cmp again new) (sym (take-append-drop at xs))
    ∙ put_in-past o again new (take at xs) (drop at xs) (recursion_from_All (λ y. cmp y new ≡ Less) (take at xs) hit.before)
    ∙ ap (λ (l : List X). take at xs ++ l) rest
    ∙ sym set_is

-- what holds of the new element, and stays true where an element is put again, holds of all
pub All-put_in : {X : Type 0} (P : X → Type 0) (cmp : X → X → Ordering) (again : X → X → X) (new : X) → P new
    → ((x : X) → P x → P (again new x))
    → (xs : List X) → AllByRecursion P xs → AllByRecursion P (put_in cmp again new xs)
All-put_in P cmp again new here kept [] all = (here, tt)
All-put_in P cmp again new here kept (x ∷ xs) all =
    all_put_by P cmp again new here kept x xs all (cmp new x) (All-put_in P cmp again new here kept xs all.1)
  where
    all_put_by : {X : Type 0} (P : X → Type 0) (cmp : X → X → Ordering) (again : X → X → X) (new : X) → P new
        → ((x : X) → P x → P (again new x)) → (x : X) (xs : List X)
        → AllByRecursion P (x ∷ xs) → (r : Ordering) → AllByRecursion P (put_in cmp again new xs)
        → AllByRecursion P (match_ordering r (new ∷ x ∷ xs) (again new x ∷ xs) (x ∷ put_in cmp again new xs))
    all_put_by P cmp again new here kept x xs all Less rest = (here, all)
    all_put_by P cmp again new here kept x xs all Equal rest = (kept x all.0, all.1)
    all_put_by P cmp again new here kept x xs all Greater rest = (all.0, rest)

-- where an element that is put again keeps its rank, a list in strict order stays so
pub sorted-put_in : {X : Type 0} {cmp : X → X → Ordering} (o : IsTotalOrder cmp) (again : X → X → X)
    (left : (x new old : X) → cmp x (again new old) ≡ cmp x old) (right : (new old x : X) → cmp (again new old) x ≡ cmp old x)
    → (new : X) (xs : List X) → IsStrictlySortedBy cmp xs → IsStrictlySortedBy cmp (put_in cmp again new xs)
unfolding IsStrictlySortedBy
sorted-put_in o again left right new [] sorted = (tt, tt)
sorted-put_in {X} {cmp} o again left right new (x ∷ xs) sorted = by (cmp new x) (sorted-put_in o again left right new xs sorted.1) refl
  where
    later : (y : X) → cmp new x ≡ Less → (zs : List X) → AllByRecursion (λ z. cmp x z ≡ Less) zs → AllByRecursion (λ z. cmp new z ≡ Less) zs
    later y e [] all = tt
    later y e (z ∷ zs) all = (o.trans new x z e all.0, later y e zs all.1)

    renamed : (zs : List X) → AllByRecursion (λ z. cmp x z ≡ Less) zs → AllByRecursion (λ z. cmp (again new x) z ≡ Less) zs
    renamed [] all = tt
    renamed (z ∷ zs) all = (right new x z ∙ all.0, renamed zs all.1)

    by : (r : Ordering) → IsStrictlySortedBy cmp (put_in cmp again new xs) → cmp new x ≡ r
        → IsStrictlySortedBy cmp (match_ordering r (new ∷ x ∷ xs) (again new x ∷ xs) (x ∷ put_in cmp again new xs))
    by Less rest e = ((e, later x e xs sorted.0), sorted)
    by Equal rest e = (renamed xs sorted.0, sorted.1)
    by Greater rest e = (
      All-put_in (λ z. cmp x z ≡ Less) cmp again new (o.antisymm x new ∙ ap ordering_reverse e)
          (λ z less. left x new z ∙ less) xs sorted.0,
      rest,
    )

-- a list in strict order stays so where an element above all of it is appended
pub sorted-push : {X : Type 0} (cmp : X → X → Ordering) (new : X) (xs : List X) → IsStrictlySortedBy cmp xs
    → AllByRecursion (λ x. cmp x new ≡ Less) xs → IsStrictlySortedBy cmp (xs ++ new ∷ [])
unfolding IsStrictlySortedBy
sorted-push cmp new [] sorted below = (tt, tt)
sorted-push {X} cmp new (x ∷ xs) sorted below = (above x xs below.0 sorted.0, sorted-push cmp new xs sorted.1 below.1)
  where
    above : (x : X) (ys : List X) → cmp x new ≡ Less → AllByRecursion (λ y. cmp x y ≡ Less) ys
        → AllByRecursion (λ y. cmp x y ≡ Less) (ys ++ new ∷ [])
    above x [] less all = (less, tt)
    above x (y ∷ ys) less all = (all.0, above x ys less all.1)

-- ---- taking the one of a rank away

all_pass : {X : Type 0} (test : X → Bool) (xs : List X) → AllByRecursion (λ x. test x ≡ false) xs → filter (λ x. not (test x)) xs ≡ xs
all_pass test [] none = refl
all_pass test (x ∷ xs) none = rw none.0 (ap (λ (l : List _). x ∷ l) (all_pass test xs none.1))

none_passes : {X : Type 0} (test : X → Bool) (xs : List X) → AllByRecursion (λ x. test x ≡ false) xs → list_any test xs ≡ false
none_passes test [] none = refl
none_passes test (x ∷ xs) none = rw none.0 (none_passes test xs none.1)

one_passes : {X : Type 0} (test : X → Bool) (d : X) (xs : List X) (at : ℕ) → at < length xs → test (get_or xs at d) ≡ true
    → list_any test xs ≡ true
one_passes test d [] at within here = absurd (omega arith)
one_passes test d (x ∷ xs) zero within here = rw here refl
one_passes test d (x ∷ xs) (suc at) within here = rw (one_passes test d xs at (omega arith) here) (or_true (test x))
  where
    or_true : (b : Bool) → b || true ≡ true
    or_true true = refl
    or_true false = refl

fails : {X : Type 0} (rank : X → Ordering) (test : X → Bool) (r : Ordering) → is_eq r ≡ false → ((x : X) → test x ≡ is_eq (rank x))
    → (xs : List X) → All (λ x. rank x ≡ r) xs → AllByRecursion (λ x. test x ≡ false) xs
fails rank test r apart means xs all = recursion_from_All (λ x. test x ≡ false) xs
    (λ i d h. means (get_or xs i d) ∙ ap is_eq (all i d h) ∙ apart)

-- at a gap nothing is taken away
pub filter-gap : {X : Type 0} (rank : X → Ordering) (test : X → Bool) → ((x : X) → test x ≡ is_eq (rank x)) → (xs : List X) (at : ℕ)
    → IsGap rank xs at → (filter (λ x. not (test x)) xs ≡ xs) × (list_any test xs ≡ false)
filter-gap rank test means xs at gap =
    let front = fails rank test Less refl means (take at xs) gap.before in
    let back = fails rank test Greater refl means (drop at xs) gap.behind in
    let whole : AllByRecursion (λ x. test x ≡ false) (take at xs ++ drop at xs) = all_both (λ x. test x ≡ false) (take at xs)
    (drop at xs) front back in
    let all : AllByRecursion (λ x. test x ≡ false) xs = subst (λ l. AllByRecursion (λ x. test x ≡ false) l)
    (take-append-drop at xs) whole in
    (all_pass test xs all, none_passes test xs all)
  where
    all_both : {X : Type 0} (P : X → Type 0) (xs ys : List X) → AllByRecursion P xs → AllByRecursion P ys → AllByRecursion P (xs ++ ys)
    all_both P [] ys a b = b
    all_both P (x ∷ xs) ys a b = (a.0, all_both P xs ys a.1 b)

-- at a hit that element is taken away
pub filter-hit : {X : Type 0} (rank : X → Ordering) (test : X → Bool) → ((x : X) → test x ≡ is_eq (rank x))
    → (xs : List X) (at : ℕ) (d : X) → IsHit rank xs at → (filter (λ x. not (test x)) xs ≡ remove xs at) × (list_any test xs ≡ true)
filter-hit {X} rank test means xs at d hit =
    let x = get_or xs at d in
    let p : X → Bool = λ y. not (test y) in
    let here : test x ≡ true = means x ∙ ap is_eq (hit.here d) in
    let front = all_pass test (take at xs) (fails rank test Less refl means (take at xs) hit.before) in
    let back = all_pass test (drop (at + 1) xs) (fails rank test Greater refl means (drop (at + 1) xs) hit.behind) in
    let rest : filter p (drop at xs) ≡ drop (suc at) xs = rw (drop_more xs at d hit.within, here)
    (back ∙ ap (λ (n : ℕ). drop n xs) (add-one at)) in
    let whole : filter p xs ≡ take at xs ++ drop (suc at) xs =
    ap (filter p) (sym (take-append-drop at xs)) ∙ filter-append p (take at xs) (drop at xs) ∙ rw (front, rest) refl in
    (whole, one_passes test d xs at hit.within here)
