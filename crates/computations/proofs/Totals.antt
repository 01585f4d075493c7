-- Which held total is due first, by the place of the first one from a timestamp on.
use Rattle.std.proofs.Common.{◌≡◌, ◌≢◌, ◌==◌, ◌<◌, ◌≤◌, ◌-◌, ℕ, zero, suc, ◌+◌, drop, Bool, true, false, List, [], ◌∷◌, length, map, find, get_or, slice_get, Some, None, inl, inr, refl, ap, ◌∙◌, arith}
use Rattle.std.specs.List.{remove}
use Rattle.std.specs.List.Sorted.{IsStrictlySortedBy}
use Rattle.std.specs.Ordering.{nat_cmp}
use Rattle.std.proofs.lemmas.Bool.{cases_order}
use Rattle.std.proofs.lemmas.Bool.Decides.{nat_tests}
use Rattle.std.proofs.lemmas.Option.{get_or_from_slice_get, slice_get_within}
use Rattle.mw_types.specs.declared.TheConstants.{MAX_STAMP}
use Rattle.mw_types.specs.declared.state.HeldTotal.{HeldTotal}
use Rattle.computations.specs.Handlers.{due_time}
use Rattle.computations.specs.Places.{IsFirstFrom}
use Rattle.computations.proofs.Searching.{rises}

-- where no element passes a test, none is found
find_none : {X : Type 0} (p : X → Bool) (xs : List X) → ((j : ℕ) (d : X) → j < length xs → p (get_or xs j d) ≡ false) → find p xs ≡ None
find_none p [] fail = refl
find_none p (x ∷ xs) fail = grind (arith, fail 0 x (omega arith), find_none p xs (λ j d within. fail (suc j) d (omega arith)))

-- the first element that passes a test is found
find_first : {X : Type 0} (p : X → Bool) (xs : List X) (at : ℕ) (y : X) → ((j : ℕ) (d : X) → j < at → p (get_or xs j d) ≡ false) → slice_get xs at ≡ Some y → p y ≡ true → find p xs ≡ Some y
find_first p [] at y fail read passes = absurd cc
find_first p (x ∷ xs) zero y fail read passes = grind (arith, read, passes)
find_first p (x ∷ xs) (suc at) y fail read passes = grind (arith, fail 0 x (omega arith), find_first p xs at y (λ j d lt. fail (suc j) d (omega arith)) read passes)

-- the first of what is left after some are dropped
remove-drop : {X : Type 0} (n : ℕ) (xs : List X) → remove (drop n xs) 0 ≡ drop (suc n) xs
remove-drop zero [] = refl
remove-drop zero (x ∷ xs) = refl
remove-drop (suc n) [] = refl
remove-drop (suc n) (x ∷ xs) = remove-drop n xs

-- the same, by a sum
pub remove-drop_more : {X : Type 0} (n : ℕ) (xs : List X) → remove (drop n xs) 0 ≡ drop (n + 1) xs
remove-drop_more n xs = let more : suc n ≡ n + 1 = omega arith in remove-drop n xs ∙ ap (λ m. drop m xs) more

-- where no element is read the list has ended
pub ended_where_none : {X : Type 0} (xs : List X) (at : ℕ) → slice_get xs at ≡ None → length xs ≤ at
ended_where_none [] at none = omega arith
ended_where_none (x ∷ xs) zero none = absurd cc
ended_where_none (x ∷ xs) (suc at) none = omega (arith, ended_where_none xs at none)

module _ (held : List HeldTotal) (time at : ℕ) (first : IsFirstFrom (λ (h : HeldTotal). h.stamp) held (time - 1) at) where
  -- those before it are due before
  due_before : (j : ℕ) (d : HeldTotal) → j < at → (due_time (get_or held j d).stamp == time) ≡ false
  due_before j d lt = let less = first.before j d lt in let earlier : due_time (get_or held j d).stamp < time = omega (arith, less) in grind (arith, nat_tests)

  -- the total there is found where it is due
  pub find_due_total : (y : HeldTotal) → slice_get held at ≡ Some y → due_time y.stamp ≡ time → find (λ h. due_time h.stamp == time) held ≡ Some y
  find_due_total y read due = find_first (λ h. due_time h.stamp == time) held at y due_before read (grind (arith, nat_tests, due))

  -- where no total stands there, none is due
  pub find_none_past : length held ≤ at → find (λ h. due_time h.stamp == time) held ≡ None
  find_none_past past = find_none (λ h. due_time h.stamp == time) held (λ j d within. due_before j d (omega (arith, past, within)))

  -- where the one there is not due, those after it are due later
  pub find_none_due : (y : HeldTotal) → IsStrictlySortedBy nat_cmp (map (λ (h : HeldTotal). h.stamp) held) → time ≤ MAX_STAMP → slice_get held at ≡ Some y → due_time y.stamp ≢ time → find (λ h. due_time h.stamp == time) held ≡ None
  find_none_due y up in_time read not_due = find_none (λ h. due_time h.stamp == time) held later
    where
      within : at < length held
      within = slice_get_within held at y read

      here : (d : HeldTotal) → (get_or held at d).stamp ≡ y.stamp
      here d = ap (λ (h : HeldTotal). h.stamp) (get_or_from_slice_get held at y d read)

      not_before : time - 1 ≤ y.stamp
      not_before = omega (arith, first.after at y (omega arith) within, here y)

      after : time < due_time y.stamp
      after = omega (arith, not_before, not_due, in_time)

      later : (j : ℕ) (d : HeldTotal) → j < length held → (due_time (get_or held j d).stamp == time) ≡ false
      later j d inside = elim (cases_order j at) as (λ _. (due_time (get_or held j d).stamp == time) ≡ false) [
        | inl same ↦ let there = here d in let due : time < due_time (get_or held j d).stamp = omega (arith, after, ap (λ i. (get_or held i d).stamp) same, there) in grind (arith, nat_tests)
        | inr (inl lt) ↦ due_before j d lt
        | inr (inr gt) ↦ let more = rises (λ (h : HeldTotal). h.stamp) held 0 up at j d gt inside in let due : time < due_time (get_or held j d).stamp = omega (arith, after, more, here d) in grind (arith, nat_tests)
      ]
