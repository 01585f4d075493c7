-- What stands at a place of a list, and what holds of each of its elements.
use Rattle.std.proofs.Common.{◌≡◌, ◌≤◌, ◌<◌, ℕ, zero, suc, ◌+◌, ◌==◌, Bool, true, List, [], ◌∷◌, ◌++◌, length, refl, subst, arith, inl, inr}
use Rattle.std.specs.Prelude.{Some, slice_get, get_or}
use Rattle.std.specs.List.{AllByRecursion, list_all, list_any, range_with_len}
use Rattle.std.proofs.lemmas.Bool.{eq-eqb, cases_lt}
use Rattle.std.proofs.lemmas.List.Folds.{list_any_at}
use Rattle.list_lemmas.proofs.Lists.{none_some, some_same}
use Rattle.list_lemmas.proofs.Tests.{both_true}

-- what holds of each holds of the one at a place
pub each-at : {X : Type 0} (P : X → Type 0) (xs : List X) (n : ℕ) (x : X) → AllByRecursion P xs → slice_get xs n ≡ Some x → P x
each-at P [] n x each at = absurd (none_some x at)
each-at P (y ∷ ys) zero x each at = subst P (some_same y x at) each.0
each-at P (y ∷ ys) (suc n) x each at = each-at P ys n x each.1 at

-- what holds of each of two lists that are joined holds of each of the second
pub each-behind : {X : Type 0} (P : X → Type 0) (xs ys : List X) → AllByRecursion P (xs ++ ys) → AllByRecursion P ys
each-behind P [] ys each = each
each-behind P (x ∷ xs) ys each = each-behind P xs ys each.1

-- where all pass a test, each does
pub each-passes : {X : Type 0} (test : X → Bool) (xs : List X) → list_all test xs ≡ true → AllByRecursion (λ x. test x ≡ true) xs
each-passes test [] all = tt
each-passes test (x ∷ xs) all = let parts = both_true (test x) (list_all test xs) all in (parts.0, each-passes test xs parts.1)

-- at each place within a list something stands
pub slice_get-some : {X : Type 0} (xs : List X) (n : ℕ) → n < length xs → (x : X) × (slice_get xs n ≡ Some x)
slice_get-some [] n less = absurd (omega (arith, less))
slice_get-some (x ∷ xs) zero less = (x, refl)
slice_get-some (x ∷ xs) (suc n) less = slice_get-some xs n (omega (arith, less))

-- a number at a place of a list is one of the list
pub any-here : (parts : List ℕ) (k d : ℕ) → k < length parts → list_any (λ part. part == get_or parts k d) parts ≡ true
any-here parts k d within = list_any_at (λ part. part == get_or parts k d) parts k d within
    (eq-eqb (get_or parts k d) (get_or parts k d) refl)

-- what holds of each number of a range holds of one within
pub range-each : (P : ℕ → Type 0) (a n k : ℕ) → AllByRecursion P (range_with_len a n) → a ≤ k → k < a + n → P k
range-each P a zero k each from to = absurd (omega (arith, from, to))
range-each P a (suc n) k each from to = elim (cases_lt a k) [
  | inl less ↦ range-each P (a + 1) n k each.1 (omega (arith, less)) (omega (arith, to))
  | inr le ↦ let same : a ≡ k = omega (arith, from, le) in subst P same each.0
]
