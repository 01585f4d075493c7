-- Two ascending lists as one.
use Rattle.std.proofs.Common.{inl, inr, ◌≡◌, ◌≢◌, ◌⊎◌, ℕ, ◌<◌, ◌≤◌, List, [], ◌∷◌, length, Bool, true, false, refl, ap, ◌∙◌, ⊎_elim, arith, if◌then◌else◌}
use Rattle.std.specs.Prelude.{nat_le}
use Rattle.std.proofs.lemmas.Bool.{leb-true, leb-false}
use native.Mathlib.Decide.{dec_le}
use Rattle.shared_book.specs.Lists.{IsIn, Ascends}
use Rattle.shared_book.specs.Joins.{first_of, placed, merged}

-- what is in a list with a number at its place
placed_case : (k x y : ℕ) (ys : List ℕ) (b : Bool) → (IsIn k (placed x ys) → (k ≡ x) ⊎ IsIn k ys)
    → IsIn k (if b then x ∷ y ∷ ys else y ∷ placed x ys) → (k ≡ x) ⊎ IsIn k (y ∷ ys)
placed_case k x y ys true h p = p
placed_case k x y ys false h p = ⊎_elim (λ e. inr (inl e)) (λ q. ⊎_elim (λ e. inl e) (λ r. inr (inr r)) (h q)) p

-- it is the number, or was in the list
in_placed : (k x : ℕ) (ys : List ℕ) → IsIn k (placed x ys) → (k ≡ x) ⊎ IsIn k ys
in_placed k x [] p = p
in_placed k x (y ∷ ys) p = placed_case k x y ys (nat_le x y) (in_placed k x ys) p

-- and back, in either case
back_case : (k x y : ℕ) (ys : List ℕ) (b : Bool) → ((k ≡ x) ⊎ IsIn k ys → IsIn k (placed x ys)) → (k ≡ x) ⊎ IsIn k (y ∷ ys)
    → IsIn k (if b then x ∷ y ∷ ys else y ∷ placed x ys)
back_case k x y ys true h p = p
back_case k x y ys false h p =
    ⊎_elim (λ e. inr (h (inl e))) (λ q. ⊎_elim (λ e. inl e) (λ r. inr (h (inr r))) q) p

-- the number, and what was in the list, is in it
placed_in : (k x : ℕ) (ys : List ℕ) → (k ≡ x) ⊎ IsIn k ys → IsIn k (placed x ys)
placed_in k x [] p = p
placed_in k x (y ∷ ys) p = back_case k x y ys (nat_le x y) (placed_in k x ys) p

-- a number at its place, in either case
ascends_case : (x y : ℕ) (ys : List ℕ) (b : Bool) → nat_le x y ≡ b → Ascends (y ∷ ys) → (x ≢ y) → Ascends (placed x ys)
    → Ascends (if b then x ∷ y ∷ ys else y ∷ placed x ys)
ascends_case x y ys true e r n q =
    let h : x < y = let l = leb-true x y e in omega (arith, l, n) in
    ((λ k p. ⊎_elim (λ s. omega (arith, s, h)) (λ s. omega (arith, r.0 k s, h)) p), r)
ascends_case x y ys false e r n q =
    let h : y < x = let l = leb-false x y e in omega (arith, l, n) in
    ((λ k p. ⊎_elim (λ s. omega (arith, s, h)) (λ s. r.0 k s) (in_placed k x ys p)), q)

-- a list ascends with a number at its place that was not in it
placed_ascends : (x : ℕ) (ys : List ℕ) → Ascends ys → (IsIn x ys → ⊥) → Ascends (placed x ys)
placed_ascends x [] r n = ((λ k p. absurd p), tt)
placed_ascends x (y ∷ ys) r n =
    ascends_case x y ys (nat_le x y) refl r (λ e. n (inl e)) (placed_ascends x ys r.1 (λ p. n (inr p)))

-- what is in two lists as one is in one of them
pub in_merged : (k : ℕ) (xs ys : List ℕ) → IsIn k (merged xs ys) → IsIn k xs ⊎ IsIn k ys
in_merged k xs [] p = inl p
in_merged k xs (y ∷ ys) p = ⊎_elim
    (λ e. inr (inl e))
    (λ q. ⊎_elim (λ a. inl a) (λ b. inr (inr b)) (in_merged k xs ys q))
    (in_placed k y (merged xs ys) p)

-- what is in the first is in both as one
pub merged_left : (k : ℕ) (xs ys : List ℕ) → IsIn k xs → IsIn k (merged xs ys)
merged_left k xs [] p = p
merged_left k xs (y ∷ ys) p = placed_in k y (merged xs ys) (inr (merged_left k xs ys p))

-- what is in the second is in both as one
pub merged_right : (k : ℕ) (xs ys : List ℕ) → IsIn k ys → IsIn k (merged xs ys)
merged_right k xs [] p = absurd p
merged_right k xs (y ∷ ys) p =
    placed_in k y (merged xs ys) (⊎_elim (λ e. inl e) (λ q. inr (merged_right k xs ys q)) p)

-- two ascending lists that share nothing ascend as one
pub merged_ascends : (xs ys : List ℕ) → Ascends xs → Ascends ys → ((k : ℕ) → IsIn k xs → IsIn k ys → ⊥) → Ascends (merged xs ys)
merged_ascends xs [] p q h = p
merged_ascends xs (y ∷ ys) p q h =
    placed_ascends y (merged xs ys) (merged_ascends xs ys p q.1 (λ k a b. h k a (inr b)))
    (λ r. ⊎_elim (λ a. h y a (inl refl)) (λ b. let l = q.0 y b in omega (arith, l)) (in_merged y xs ys r))

-- ---- the first of two lists as one is the lesser of their firsts

-- the first of a list, or 0
abbrev head : List ℕ → ℕ
head [] = 0
head (k ∷ ks) = k

-- what is first, in either case
first_case : (x y : ℕ) (ys : List ℕ) (b : Bool)
    → first_of (if b then x ∷ y ∷ ys else y ∷ placed x ys) ≡ (if b then x else y) ∷ []
first_case x y ys true = refl
first_case x y ys false = refl

-- a number that is not above the first comes first
placed_low : (x y : ℕ) (l : List ℕ) → first_of l ≡ y ∷ [] → x ≤ y → first_of (placed x l) ≡ x ∷ []
placed_low x y [] e h = refl
placed_low x y (z ∷ l) e h = first_case x z l (nat_le x z) ∙ ap (λ k. k ∷ []) (low (nat_le x z) refl)
  where
    low : (b : Bool) → nat_le x z ≡ b → (if b then x else z) ≡ x
    low true q = refl
    low false q = let l = leb-false x z q in omega (arith, l, ap head e, h)

-- a number above the first does not
placed_high : (x y : ℕ) (l : List ℕ) → first_of l ≡ y ∷ [] → y < x → first_of (placed x l) ≡ y ∷ []
placed_high x y [] e h = absurd (empty e)
  where
    empty : [] ≡ y ∷ [] → ⊥
    empty p = let q : 0 ≡ 1 = ap length p in omega (arith, q)
placed_high x y (z ∷ l) e h = first_case x z l (nat_le x z) ∙ ap (λ k. k ∷ []) (high (nat_le x z) refl)
  where
    high : (b : Bool) → nat_le x z ≡ b → (if b then x else z) ≡ y
    high true q = let l = leb-true x z q in omega (arith, l, ap head e, h)
    high false q = ap head e

-- where all of the second are above the first's first
merged_low : (a : ℕ) (xs ys : List ℕ) → first_of xs ≡ a ∷ [] → ((k : ℕ) → IsIn k ys → a < k) → first_of (merged xs ys) ≡ a ∷ []
merged_low a xs [] e h = e
merged_low a xs (y ∷ ys) e h =
    placed_high y a (merged xs ys) (merged_low a xs ys e (λ k p. h k (inr p))) (h y (inl refl))

-- one of two is not above the other
le_or : (m n : ℕ) → (m ≤ n) ⊎ (n < m)
le_or m n = by_dec (dec_le m n)
  where
    by_dec : Dec (m ≤ n) → (m ≤ n) ⊎ (n < m)
    by_dec (yes l) = inl l
    by_dec (no l) = inr (omega (arith, l))

-- where the first of the second is not above
merged_high : (a b : ℕ) (xs ys : List ℕ) → first_of xs ≡ a ∷ [] → b ≤ a → Ascends (b ∷ ys) → first_of (merged xs (b ∷ ys)) ≡ b ∷ []
merged_high a b xs [] e h r = placed_low b a xs e h
merged_high a b xs (y ∷ ys) e h r = ⊎_elim
    (λ l. let q = r.0 y (inl refl) in
    placed_low b y (merged xs (y ∷ ys)) (merged_high a y xs ys e l r.1) (omega (arith, q)))
    (λ l. placed_low b a (merged xs (y ∷ ys))
    (merged_low a xs (y ∷ ys) e (λ k p. ⊎_elim (λ z. omega (arith, z, l)) (λ z. let q = r.1.0 k z in omega (arith, q, l)) p)) h)
    (le_or y a)

-- the second's first, where it is not above
pub joined_high : (a b : ℕ) (xs ys : List ℕ) → first_of xs ≡ a ∷ [] → first_of ys ≡ b ∷ [] → b ≤ a → Ascends ys
    → first_of (merged xs ys) ≡ b ∷ []
joined_high a b xs [] e f h r = absurd (let q : 0 ≡ 1 = ap length f in omega (arith, q))
joined_high a b xs (y ∷ ys) e f h r =
    let z : y ≡ b = ap head f in merged_high a y xs ys e (omega (arith, z, h)) r ∙ ap (λ k. k ∷ []) z

-- the first's, where it is below
joined_low : (a b : ℕ) (xs ys : List ℕ) → first_of xs ≡ a ∷ [] → first_of ys ≡ b ∷ [] → a < b → Ascends ys
    → first_of (merged xs ys) ≡ a ∷ []
joined_low a b xs [] e f h r = absurd (let q : 0 ≡ 1 = ap length f in omega (arith, q))
joined_low a b xs (y ∷ ys) e f h r =
    let z : y ≡ b = ap head f in
    merged_low a xs (y ∷ ys) e (λ k p. ⊎_elim (λ q. omega (arith, q, z, h)) (λ q. let l = r.0 k q in omega (arith, l, z, h)) p)

-- the first's, where it is not above
pub joined_even : (a b : ℕ) (xs ys : List ℕ) → first_of xs ≡ a ∷ [] → first_of ys ≡ b ∷ [] → a ≤ b → Ascends ys
    → first_of (merged xs ys) ≡ a ∷ []
joined_even a b xs ys e f h r = ⊎_elim
    (λ l. let z : b ≡ a = omega (arith, l, h) in joined_high a b xs ys e f l r ∙ ap (λ k. k ∷ []) z)
    (λ l. joined_low a b xs ys e f l r)
    (le_or b a)
