-- Filters, and a permutation key by key. A key is anything that a test tells: `at k x` says whether the key of x is k.
use Rattle.std.proofs.Common.{◌≡◌, ℕ, zero, suc, ◌≤◌, Bool, true, false, cond, not, List, [], ◌∷◌, ◌++◌, length, map, filter, refl, sym, ap, ◌∙◌, subst, arith}
use Rattle.std.specs.List.{flat_map}
use Rattle.std.specs.List.Sorted.{IsPermutation}
use Rattle.std.proofs.lemmas.List.Elements.{filter-append}
use Rattle.std.proofs.lemmas.List.Sorted.{IsPermutation-refl, IsPermutation-sym, IsPermutation-trans, IsPermutation-append, IsPermutation-filter_both}
use Rattle.list_lemmas.proofs.Lists.{length-filter}

-- ---- filters

-- a filter of joined lists
pub filter-flat_map : {X Y : Type 0} (p : Y → Bool) (f : X → List Y) (xs : List X) → filter p (flat_map f xs)
    ≡ flat_map (λ x. filter p (f x)) xs
filter-flat_map p f [] = refl
filter-flat_map p f (x ∷ xs) = filter-append p (f x) (flat_map f xs) ∙ ap (λ l. filter p (f x) ++ l) (filter-flat_map p f xs)

-- a filter of images
pub filter-map : {X Y : Type 0} (p : Y → Bool) (f : X → Y) (xs : List X) → filter p (map f xs) ≡ map f (filter (λ x. p (f x)) xs)
filter-map p f [] = refl
filter-map p f (x ∷ xs) = elim (p (f x)) as
    (λ b. cond b (f x ∷ filter p (map f xs)) (filter p (map f xs))
    ≡ map f (cond b (x ∷ filter (λ x. p (f x)) xs) (filter (λ x. p (f x)) xs))) [
      | true ↦ ap (λ l. f x ∷ l) (filter-map p f xs)
      | false ↦ filter-map p f xs
    ]

-- nothing passes where nothing does
pub filter-nothing : {X : Type 0} (p : X → Bool) (xs : List X) → ((x : X) → p x ≡ false) → filter p xs ≡ []
filter-nothing p [] fails = refl
filter-nothing p (x ∷ xs) fails = ap (λ b. cond b (x ∷ filter p xs) (filter p xs)) (fails x) ∙ filter-nothing p xs fails

-- what only some keys give is what they give
pub flat_map-filter : {X Y : Type 0} (p : X → Bool) (f : X → List Y) (xs : List X) → ((x : X) → p x ≡ false → f x ≡ [])
    → flat_map f xs ≡ flat_map f (filter p xs)
flat_map-filter p f [] none = refl
flat_map-filter p f (x ∷ xs) none = elim (p x) as
    (λ b. p x ≡ b → f x ++ flat_map f xs ≡ flat_map f (cond b (x ∷ filter p xs) (filter p xs))) [
      | true ↦ λ e. ap (λ l. f x ++ l) (flat_map-filter p f xs none)
      | false ↦ λ e. ap (λ l. l ++ flat_map f xs) (none x e) ∙ flat_map-filter p f xs none
    ] refl

-- filters go in any order
pub filter-comm : {X : Type 0} (p q : X → Bool) (xs : List X) → filter p (filter q xs) ≡ filter q (filter p xs)
filter-comm p q [] = refl
filter-comm {X} p q (x ∷ xs) =
    elim (q x) as
    (λ b. q x ≡ b → filter p (cond b (x ∷ filter q xs) (filter q xs)) ≡ filter q (cond (p x) (x ∷ filter p xs) (filter p xs))) [
      | true ↦ λ e. elim (p x) as
          (λ c. cond c (x ∷ filter p (filter q xs)) (filter p (filter q xs)) ≡ filter q (cond c (x ∷ filter p xs) (filter p xs))) [
            | true ↦ ap (λ l. x ∷ l) (filter-comm p q xs) ∙ sym (ap (λ b. cond b (x ∷ filter q (filter p xs)) (filter q (filter p xs))) e)
            | false ↦ filter-comm p q xs
          ]
      | false ↦ λ e. elim (p x) as
          (λ c. filter p (filter q xs) ≡ filter q (cond c (x ∷ filter p xs) (filter p xs))) [
            | true ↦ filter-comm p q xs ∙ sym (ap (λ b. cond b (x ∷ filter q (filter p xs)) (filter q (filter p xs))) e)
            | false ↦ filter-comm p q xs
          ]
    ] refl

-- ---- key by key

module _ {X K : Type 0} (at : K → X → Bool) (key : X → K) (own : (x : X) → at (key x) x ≡ true) where
  -- the same elements of each key
  abbrev AreSame : List X → List X → Type 0
  AreSame xs ys = (k : K) → filter (at k) xs ≡ filter (at k) ys

  -- a list of which no key has an element is empty
  none_left : (ys : List X) → AreSame [] ys → [] ≡ ys
  none_left [] same = refl
  none_left (y ∷ ys) same =
      absurd (nil≢cons (same (key y) ∙ ap (λ b. cond b (y ∷ filter (at (key y)) ys) (filter (at (key y)) ys)) (own y)))
    where
      nil≢cons : {y : X} {ys : List X} → ◌≡◌ {A = List X} [] (y ∷ ys) → ⊥
      nil≢cons e = cc

  -- lists with the same elements of each key, of at most so many elements, are permutations
  pub by_keys : (n : ℕ) (xs ys : List X) → length xs ≤ n → AreSame xs ys → IsPermutation xs ys
  by_keys n [] ys few same = subst (λ l. IsPermutation [] l) (none_left ys same) (IsPermutation-refl [])
  by_keys zero (x ∷ xs) ys few same = absurd (omega (arith, few))
  by_keys (suc n) (x ∷ xs) ys few same =
      let p : X → Bool = at (key x) in
      let q : X → Bool = λ y. not (at (key x) y) in
      let all : List X = x ∷ xs in
      let dropped : filter q all ≡ filter q xs = ap (λ b. cond (not b) (x ∷ filter q xs) (filter q xs)) (own x) in
      let fewer : length (filter q all) ≤ n = omega (arith, few, length-filter q xs, ap length dropped) in
      let rest = by_keys n (filter q all) (filter q ys) fewer
      (λ k. filter-comm (at k) q all ∙ ap (filter q) (same k) ∙ filter-comm q (at k) ys) in
      let both = IsPermutation-append (filter p all) (filter p ys) (filter q all) (filter q ys)
      (subst (λ l. IsPermutation (filter p all) l) (same (key x)) (IsPermutation-refl (filter p all))) rest in
      IsPermutation-trans all (filter p all ++ filter q all) ys
      (IsPermutation-filter_both p q (λ y. refl) all)
      (IsPermutation-trans (filter p all ++ filter q all) (filter p ys ++ filter q ys) ys both
      (IsPermutation-sym ys (filter p ys ++ filter q ys) (IsPermutation-filter_both p q (λ y. refl) ys)))
