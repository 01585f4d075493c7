-- What is held of each interval, by its number.
use Rattle.std.proofs.Common.{◌≡◌, ◌≢◌, ◌<◌, ◌≤◌, ℕ, zero, suc, List, [], ◌∷◌, ◌++◌, length, get_or, refl, sym, ◌∙◌, ap, arith, inl, inr}
use Rattle.std.specs.Prelude.{Option, Some, None, slice_set, unwrap_or, ◌⊎◌}
use Rattle.std.proofs.lemmas.Bool.{cases_lt}
use Rattle.std.proofs.lemmas.List.{length-set, get_or-set_same, get_or-set_other, get_or_default}
use Rattle.std.proofs.lemmas.Option.{slice_get_past, unwrap_or-slice_get}
use Rattle.list_lemmas.proofs.Lists.{none_some}
use Rattle.holdings.specs.Holding.{HeldView, KeepsOthers, held_at}

-- what is held of an interval is what stands at its place
held-is : (all : List (Option HeldView)) (i : ℕ) → held_at all i ≡ get_or all i None
held-is all i = unwrap_or-slice_get all i None

-- what is read at a place is held there
pub held-read : (all : List (Option HeldView)) (i : ℕ) (x : Option HeldView) → i < length all → x ≡ get_or all i x → x ≡ held_at all i
held-read all i x within read = read ∙ get_or_default all i x None within ∙ sym (held-is all i)

-- what is put in a place is held there
pub held-here : (all : List (Option HeldView)) (i : ℕ) (x : Option HeldView) → i < length all → held_at (slice_set all i x) i ≡ x
held-here all i x within = held-is (slice_set all i x) i ∙ get_or-set_same all i x None within

-- nothing else changes
pub held-others : (all : List (Option HeldView)) (i : ℕ) (x : Option HeldView) → KeepsOthers i all (slice_set all i x)
held-others all i x j apart = held-is (slice_set all i x) j ∙ get_or-set_other all i j x None apart ∙ sym (held-is all j)

-- nothing is held past the last place
pub held-past : (all : List (Option HeldView)) (i : ℕ) → length all ≤ i → held_at all i ≡ None
held-past all i past = ap (λ o. unwrap_or o None) (slice_get_past all i past)

-- what is held has a place
pub held-within : (all : List (Option HeldView)) (i : ℕ) (held : HeldView) → held_at all i ≡ Some held → i < length all
held-within all i held is = elim (cases_lt i (length all)) [
  | inl less ↦ less
  | inr past ↦ absurd (none_some held (sym (held-past all i past) ∙ is))
]

-- a place from which something was taken is free
pub held-gone : (all : List (Option HeldView)) (i : ℕ) → held_at (slice_set all i None) i ≡ None
held-gone all i = elim (cases_lt i (length all)) [
  | inl less ↦ held-here all i None less
  | inr past ↦ held-past (slice_set all i None) i (let l = length-set all i None in omega (arith, l, past))
]

-- two numbers are one, or not
pub number_or_not : (i j : ℕ) → (j ≡ i) ⊎ (j ≢ i)
number_or_not i j = by_less (cases_lt j i) (cases_lt i j)
  where
    by_less : (j < i) ⊎ (i ≤ j) → (i < j) ⊎ (j ≤ i) → (j ≡ i) ⊎ (j ≢ i)
    by_less (inl less) other = inr (λ e. omega (arith, e, less))
    by_less (inr at) (inl more) = inr (λ e. omega (arith, e, more))
    by_less (inr at) (inr most) = inl (omega (arith, at, most))

-- one more free place changes nothing
pub held-push : (all : List (Option HeldView)) (i : ℕ) → held_at (all ++ None ∷ []) i ≡ held_at all i
held-push [] zero = refl
held-push [] (suc i) = refl
held-push (x ∷ xs) zero = refl
held-push (x ∷ xs) (suc i) = held-push xs i
