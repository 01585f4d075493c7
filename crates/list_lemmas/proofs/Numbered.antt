-- Lists that fall apart by a number of each element, and come together again over the numbers.
use Rattle.std.proofs.Common.{◌≡◌, ℕ, zero, suc, ◌+◌, ◌<◌, ◌≤◌, ◌==◌, true, false, cond, List, [], ◌∷◌, ◌++◌, length, map, filter, refl, ◌∙◌, ap, arith}
use Rattle.std.specs.List.{AllByRecursion, flat_map, enumerate_from, range_with_len}
use Rattle.std.proofs.lemmas.Bool.Decides.{nat_tests}
use Rattle.std.proofs.lemmas.List.{append-nil}
use Rattle.list_lemmas.proofs.Totals.{total, when, total-filter, total-same, total-swap}

-- a number that is before all of a range is none of it
none-numbered : (k x a n : ℕ) → k < a → total (λ i. when (k == i) x) (range_with_len a n) ≡ 0
none-numbered k x a zero less = refl
none-numbered k x a (suc n) less =
    let other : (k == a) ≡ false = grind (arith, nat_tests) in
    let later : k < a + 1 = omega (arith, less) in
    omega (arith, ap (λ b. when b x) other, none-numbered k x (a + 1) n later)

-- and one within is one of it
one-numbered : (k x a n : ℕ) → a ≤ k → k < a + n → total (λ i. when (k == i) x) (range_with_len a n) ≡ x
one-numbered k x a zero from to = absurd (omega (arith, from, to))
one-numbered k x a (suc n) from to = elim (k == a) as
    (λ b. (k == a) ≡ b → when b x + total (λ i. when (k == i) x) (range_with_len (a + 1) n) ≡ x) [
      | true ↦ λ e.
          let less : k < a + 1 = grind (arith, nat_tests) in
          omega (arith, none-numbered k x (a + 1) n less)
      | false ↦ λ e.
          let more : a + 1 ≤ k = grind (arith, nat_tests) in
          let within : k < a + 1 + n = omega (arith, to) in
          omega (arith, one-numbered k x (a + 1) n more within)
    ] refl

-- a sum over what has each number is that over all
pub numbered-total : {X : Type 0} (g f : X → ℕ) (n : ℕ) (xs : List X) → ((x : X) → f x < n)
    → total (λ i. total g (filter (λ x. f x == i) xs)) (range_with_len 0 n) ≡ total g xs
numbered-total g f n xs within =
    total-same (λ i. total g (filter (λ x. f x == i) xs)) (λ i. total (λ x. when (f x == i) (g x)) xs) (range_with_len 0 n)
    (λ i. total-filter g (λ x. f x == i) xs)
    ∙ total-swap (λ i x. when (f x == i) (g x)) (range_with_len 0 n) xs
    ∙ total-same (λ x. total (λ i. when (f x == i) (g x)) (range_with_len 0 n)) g xs
    (λ x. one-numbered (f x) (g x) 0 n (omega arith) (omega (arith, within x)))

-- lists of which those before and behind one are empty are that one together
pub one-listed : {Y : Type 0} (k : ℕ) (ys : List Y) (a n : ℕ) → a ≤ k → k < a + n
    → flat_map (λ i. cond (k == i) ys []) (range_with_len a n) ≡ ys
one-listed k ys a zero from to = absurd (omega (arith, from, to))
one-listed {Y} k ys a (suc n) from to = elim (k == a) as
    (λ b. (k == a) ≡ b → cond b ys [] ++ flat_map (λ i. cond (k == i) ys []) (range_with_len (a + 1) n) ≡ ys) [
      | true ↦ λ e.
          let less : k < a + 1 = grind (arith, nat_tests) in
          ap (λ l. ys ++ l) (none (a + 1) n less) ∙ append-nil ys
      | false ↦ λ e.
          let more : a + 1 ≤ k = grind (arith, nat_tests) in
          let within : k < a + 1 + n = omega (arith, to) in
          one-listed k ys (a + 1) n more within
    ] refl
  where
    none : (a n : ℕ) → k < a → flat_map (λ i. cond (k == i) ys []) (range_with_len a n) ≡ []
    none a zero less = refl
    none a (suc n) less =
        let other : (k == a) ≡ false = grind (arith, nat_tests) in
        let later : k < a + 1 = omega (arith, less) in
        ap (λ b. cond b ys [] ++ flat_map (λ i. cond (k == i) ys []) (range_with_len (a + 1) n)) other ∙ none (a + 1) n later

-- joined lists that are the same of each number
pub flat_map-same : {Y : Type 0} (f h : ℕ → List Y) → ((i : ℕ) → f i ≡ h i) → (is : List ℕ) → flat_map f is ≡ flat_map h is
flat_map-same f h same [] = refl
flat_map-same f h same (i ∷ is) = λ j. same i j ++ flat_map-same f h same is j

-- what is of each element what is there of its number sums up to the sum over the numbers
pub total-numbered : {X : Type 0} (f : X → ℕ) (g : ℕ → ℕ) (n : ℕ) (xs : List X)
    → AllByRecursion (λ (p : ℕ × X). f p.1 ≡ g p.0) (enumerate_from n xs) → total f xs ≡ total g (range_with_len n (length xs))
total-numbered f g n [] each = refl
total-numbered f g n (x ∷ xs) each = omega (arith, each.0, total-numbered f g (n + 1) xs each.1)

-- an image of joined lists
pub map-flat_map : {A X Y : Type 0} (f : X → Y) (h : A → List X) (xs : List A) → map f (flat_map h xs) ≡ flat_map (λ a. map f (h a)) xs
map-flat_map f h [] = refl
map-flat_map {X = X} f h (x ∷ xs) = joined (h x) ∙ ap (λ l. map f (h x) ++ l) (map-flat_map f h xs)
  where
    joined : (ys : List X) → map f (ys ++ flat_map h xs) ≡ map f ys ++ map f (flat_map h xs)
    joined [] = refl
    joined (y ∷ ys) = ap (λ l. f y ∷ l) (joined ys)
