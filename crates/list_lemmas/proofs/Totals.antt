-- Sums over lists that recursion computes, and lists that have the same sums: the same elements, in whatever order.
use Rattle.std.proofs.Common.{◌≡◌, ℕ, ◌+◌, Bool, true, false, cond, List, [], ◌∷◌, ◌++◌, length, map, filter, sum_by, refl, sym, ◌∙◌, ap, arith}
use Rattle.std.specs.Prelude.{count_by}
use Rattle.std.specs.List.{flat_map, AllByRecursion}
use Rattle.std.specs.List.Sorted.{IsPermutation}
use Rattle.std.proofs.lemmas.List.Sums.{sum_by-cons}
use Rattle.std.proofs.lemmas.List.Sorted.{sum_by-IsPermutation}

-- the sum of a number of each element
abbrev pub total : {X : Type 0} → (X → ℕ) → List X → ℕ
total f [] = 0
total f (x ∷ xs) = f x + total f xs

-- it is std's sum
pub total-sum_by : {X : Type 0} (f : X → ℕ) (xs : List X) → total f xs ≡ sum_by f xs
total-sum_by f [] = refl
total-sum_by f (x ∷ xs) = ap (λ n. f x + n) (total-sum_by f xs) ∙ sym (sum_by-cons f x xs)

-- over two lists
pub total-append : {X : Type 0} (f : X → ℕ) (xs ys : List X) → total f (xs ++ ys) ≡ total f xs + total f ys
total-append f [] ys = omega arith
total-append f (x ∷ xs) ys = omega (arith, total-append f xs ys)

-- with one more element
pub total-push : {X : Type 0} (f : X → ℕ) (xs : List X) (y : X) → total f (xs ++ y ∷ []) ≡ total f xs + f y
total-push f xs y = omega (arith, total-append f xs (y ∷ []))

-- a number or none
abbrev pub when : Bool → ℕ → ℕ
when b n = cond b n 0

-- over joined lists
pub total-flat_map : {X Y : Type 0} (g : Y → ℕ) (f : X → List Y) (xs : List X) → total g (flat_map f xs) ≡ total (λ x. total g (f x)) xs
total-flat_map g f [] = refl
total-flat_map g f (x ∷ xs) = total-append g (f x) (flat_map f xs) ∙ ap (λ n. total g (f x) + n) (total-flat_map g f xs)

-- over images
pub total-map : {X Y : Type 0} (g : Y → ℕ) (f : X → Y) (xs : List X) → total g (map f xs) ≡ total (λ x. g (f x)) xs
total-map g f [] = refl
total-map g f (x ∷ xs) = ap (λ n. g (f x) + n) (total-map g f xs)

-- over what passes a test
pub total-filter : {X : Type 0} (g : X → ℕ) (p : X → Bool) (xs : List X) → total g (filter p xs) ≡ total (λ x. when (p x) (g x)) xs
total-filter g p [] = refl
total-filter g p (x ∷ xs) = elim (p x) as (λ b. total g (cond b (x ∷ filter p xs) (filter p xs))
    ≡ when b (g x) + total (λ x. when (p x) (g x)) xs) [
      | true ↦ ap (λ n. g x + n) (total-filter g p xs)
      | false ↦ omega (arith, total-filter g p xs)
    ]

-- of ones
pub total-length : {X : Type 0} (xs : List X) → total (λ x. 1) xs ≡ length xs
total-length [] = refl
total-length (x ∷ xs) = omega (arith, total-length xs)

-- of ones, where a test passes
pub total-count_by : {X : Type 0} (p : X → Bool) (xs : List X) → total (λ x. when (p x) 1) xs ≡ count_by p xs
total-count_by p xs = total-sum_by (λ x. cond (p x) 1 0) xs

-- of zeros
pub total-zero : {X : Type 0} (xs : List X) → total (λ x. 0) xs ≡ 0
total-zero [] = refl
total-zero (x ∷ xs) = omega (arith, total-zero xs)

-- numbers that are the same of each element sum up to the same
pub total-each : {X : Type 0} (f g : X → ℕ) (xs : List X) → AllByRecursion (λ x. f x ≡ g x) xs → total f xs ≡ total g xs
total-each f g [] each = refl
total-each f g (x ∷ xs) each = omega (arith, each.0, total-each f g xs each.1)

-- the same, where the numbers are the same of each thing
pub total-same : {X : Type 0} (f g : X → ℕ) (xs : List X) → ((x : X) → f x ≡ g x) → total f xs ≡ total g xs
total-same f g [] same = refl
total-same f g (x ∷ xs) same = omega (arith, same x, total-same f g xs same)

-- of sums
pub total-both : {X : Type 0} (f g : X → ℕ) (xs : List X) → total (λ x. f x + g x) xs ≡ total f xs + total g xs
total-both f g [] = refl
total-both f g (x ∷ xs) = omega (arith, total-both f g xs)

-- a sum of sums, the other way round
pub total-swap : {X Y : Type 0} (f : X → Y → ℕ) (xs : List X) (ys : List Y) → total (λ x. total (f x) ys) xs
    ≡ total (λ y. total (λ x. f x y) xs) ys
total-swap f [] ys = sym (total-zero ys)
total-swap f (x ∷ xs) ys =
    ap (λ n. total (f x) ys + n) (total-swap f xs ys) ∙ sym (total-both (f x) (λ y. total (λ x. f x y) xs) ys)

-- ---- the same elements

-- each sum over the one is that over the other
abbrev pub HaveSameTotals : {X : Type 0} → List X → List X → Type 0
HaveSameTotals {X} xs ys = (f : X → ℕ) → total f xs ≡ total f ys

-- a permutation has the same sums
pub totals-permuted : {X : Type 0} (xs ys : List X) → IsPermutation xs ys → HaveSameTotals xs ys
totals-permuted xs ys moved f = total-sum_by f xs ∙ sym (sum_by-IsPermutation f xs ys moved) ∙ sym (total-sum_by f ys)
