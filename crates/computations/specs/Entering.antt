-- What holds of the elements of a list holds after one is entered, and the list still ascends:
-- lemmas for the laws.
use Rattle.std.proofs.Common.{◌≡◌, ℕ, suc, ◌<◌, ◌≤◌, ◌+◌, List, [], ◌∷◌, length, map, filter, cond, Bool, true}
use Rattle.std.proofs.Common.{false, refl, sym, ap, subst, arith, All}
use Rattle.std.specs.List.{AllByRecursion}
use Rattle.std.specs.List.Sorted.{IsStrictlySortedBy}
use Rattle.std.specs.Ordering.{nat_cmp, match_ordering}
use Rattle.std.specs.declared.cmp.Ordering.TheVariants.{Less, Equal, Greater}
use Rattle.std.proofs.lemmas.List.Elements.{All-from_recursion, recursion_from_All}
use Rattle.std.proofs.lemmas.Bool.Decides.{nat_tests}
use Rattle.computations.specs.Handlers.{entered}

module _ {X : Type 0} (number : X → ℕ) (x : X) (change : X → X) where
  -- what holds of the new element and stays under the change holds of all
  pub entered-recursion : (P : X → Type 0) → P x → ((y : X) → P y → P (change y)) → (ys : List X) →
      AllByRecursion P ys → AllByRecursion P (entered number x change ys)
  entered-recursion P px stays [] pys = (px, tt)
  entered-recursion P px stays (y ∷ ys) pys =
      elim (nat_cmp (number x) (number y)) as
      (λ o. AllByRecursion P
      (match_ordering o (x ∷ y ∷ ys) (change y ∷ ys) (y ∷ entered number x change ys))) [
        | Less ↦ (px, pys)
        | Equal ↦ (stays y pys.0, pys.1)
        | Greater ↦ (pys.0, entered-recursion P px stays ys pys.1)
      ]

  -- the same, where a fact holds of each element
  pub All-entered : (P : X → Type 0) → P x → ((y : X) → P y → P (change y)) → (ys : List X) → All P ys →
      All P (entered number x change ys)
  All-entered P px stays ys all =
      All-from_recursion P _ (entered-recursion P px stays ys (recursion_from_All P ys all))

  -- a list with one element entered has at most one more
  pub length-entered : (ys : List X) → length (entered number x change ys) ≤ length ys + 1
  length-entered [] = omega arith
  length-entered (y ∷ ys) =
      elim (nat_cmp (number x) (number y)) as (λ o. length
      (match_ordering o (x ∷ y ∷ ys) (change y ∷ ys) (y ∷ entered number x change ys))
      ≤ length (y ∷ ys) + 1) [
        | Less ↦ omega arith
        | Equal ↦ omega arith
        | Greater ↦ omega (arith, length-entered ys)
      ]

  -- each number is below those after it
  abbrev Ascends : List X → Type 0
  Ascends [] = Unit {0}
  Ascends (y ∷ ys) = AllByRecursion (λ z. number y < number z) ys × Ascends ys

  -- what is below the first number is below the others
  below_others : (n : ℕ) (y : X) (ys : List X) → n < number y →
      AllByRecursion (λ z. number y < number z) ys → AllByRecursion (λ z. n < number z) ys
  below_others n y [] lt rest = tt
  below_others n y (z ∷ zs) lt rest = (omega (arith, lt, rest.0), below_others n y zs lt rest.1)

  -- a list that ascends still does after an element is entered
  pub Ascends-entered : ((y : X) → number (change y) ≡ number y) → (ys : List X) → Ascends ys →
      Ascends (entered number x change ys)
  Ascends-entered same [] up = (tt, tt)
  Ascends-entered same (y ∷ ys) up =
      elim (nat_cmp (number x) (number y)) as
      (λ o. nat_cmp (number x) (number y) ≡ o → Ascends
      (match_ordering o (x ∷ y ∷ ys) (change y ∷ ys) (y ∷ entered number x change ys))) [
        | Less ↦ λ e. let lt : number x < number y = grind (arith, nat_tests) in
            ((lt, below_others (number x) y ys lt up.0), up)
        | Equal ↦ λ e. (subst (λ n. AllByRecursion (λ z. n < number z) ys) (sym (same y)) up.0, up.1)
        | Greater ↦ λ e. let lt : number y < number x = grind (arith, nat_tests) in (
          entered-recursion (λ z. number y < number z) lt
              (λ z below. subst (λ n. number y < n) (sym (same z)) below) ys up.0,
          Ascends-entered same ys up.1,
        )
      ] refl

  -- what is above a number is above it by comparison too
  compared_above : (n : ℕ) (ys : List X) → AllByRecursion (λ z. n < number z) ys →
      AllByRecursion (λ m. nat_cmp n m ≡ Less) (map number ys)
  compared_above n [] above = tt
  compared_above n (y ∷ ys) above =
      (let lt : n < number y = above.0 in grind (arith, nat_tests), compared_above n ys above.1)

  -- and the other way round
  above_compared : (n : ℕ) (ys : List X) → AllByRecursion (λ m. nat_cmp n m ≡ Less) (map number ys) →
      AllByRecursion (λ z. n < number z) ys
  above_compared n [] above = tt
  above_compared n (y ∷ ys) above = (
    let e : nat_cmp n (number y) ≡ Less = above.0 in
        grind (arith, nat_tests),
    above_compared n ys above.1,
  )

  -- a list that ascends has its numbers in order
  sorted_from_Ascends : (ys : List X) → Ascends ys → IsStrictlySortedBy nat_cmp (map number ys)
  unfolding IsStrictlySortedBy
  sorted_from_Ascends [] up = tt
  sorted_from_Ascends (y ∷ ys) up = (compared_above (number y) ys up.0, sorted_from_Ascends ys up.1)

  -- and the other way round
  Ascends-from_sorted : (ys : List X) → IsStrictlySortedBy nat_cmp (map number ys) → Ascends ys
  unfolding IsStrictlySortedBy
  Ascends-from_sorted [] up = tt
  Ascends-from_sorted (y ∷ ys) up = (above_compared (number y) ys up.0, Ascends-from_sorted ys up.1)

  -- numbers in order still are after an element is entered
  pub sorted-entered : ((y : X) → number (change y) ≡ number y) → (ys : List X) →
      IsStrictlySortedBy nat_cmp (map number ys) →
      IsStrictlySortedBy nat_cmp (map number (entered number x change ys))
  sorted-entered same ys up =
      sorted_from_Ascends (entered number x change ys) (Ascends-entered same ys (Ascends-from_sorted ys up))

-- the numbers of the elements that pass a test of their numbers are the numbers that pass it
pub map-filter : {X : Type 0} (number : X → ℕ) (p : ℕ → Bool) (xs : List X) →
    map number (filter (λ x. p (number x)) xs) ≡ filter p (map number xs)
map-filter number p [] = refl
map-filter number p (x ∷ xs) =
    elim (p (number x)) as
    (λ b. map number (cond b (x ∷ filter (λ x. p (number x)) xs) (filter (λ x. p (number x)) xs))
    ≡ cond b (number x ∷ filter p (map number xs)) (filter p (map number xs))) [
      | true ↦ ap (λ l. number x ∷ l) (map-filter number p xs)
      | false ↦ map-filter number p xs
    ]

-- a filter makes no list longer
pub length-filter-le : {X : Type 0} (p : X → Bool) (xs : List X) → length (filter p xs) ≤ length xs
length-filter-le p [] = omega arith
length-filter-le p (x ∷ xs) =
    elim (p x) as (λ b. length (cond b (x ∷ filter p xs) (filter p xs)) ≤ suc (length xs)) [
      | true ↦ omega (arith, length-filter-le p xs)
      | false ↦ omega (arith, length-filter-le p xs)
    ]
