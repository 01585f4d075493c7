-- The order of texts, told by the number that their first bytes make.
use Rattle.std.proofs.Common.{Ordering, Less, Equal, Greater, arith, ◌≡◌, ◌≢◌, ◌<◌, ◌≤◌, ◌+◌, ◌*◌, ℕ, zero, suc}
use Rattle.std.proofs.Common.{List, [], ◌∷◌, length, take, drop, replicate, min, slice_index, refl, sym, ap, ◌∙◌, subst, ⊎_elim}
use Rattle.std.specs.Cmp.{nat_cmp_is}
use Rattle.std.specs.Cmp.Lexicographic.{slice_cmp, nat_list_cmp_total}
use Rattle.std.specs.Int.{from_be_bytes, w64, w128}
use Rattle.std.specs.Ordering.{MatchOrdering, nat_cmp, ordering_then, ordering_reverse}
use Rattle.std.proofs.lemmas.Bool.{cases_order}

-- each item is a byte
abbrev pub AreBytes : List ℕ → Type 0
AreBytes items = (at : ℕ) → slice_index items at < 256

-- the number that `a` makes with `n` bytes from the place `at` on, of which those past the end are 0
abbrev pub spelt : ℕ → ℕ → ℕ → List ℕ → ℕ
spelt zero at a xs = a
spelt (suc n) at a xs = spelt n (suc at) (a * 256 + slice_index xs at) xs

-- what a first byte more does to the places
spelt-cons : (n at a x : ℕ) (xs : List ℕ) → spelt n (suc at) a (x ∷ xs) ≡ spelt n at a xs
spelt-cons zero at a x xs = refl
spelt-cons (suc n) at a x xs = spelt-cons n (suc at) (a * 256 + slice_index xs at) x xs

-- the smaller beginning makes the smaller number
rises : (n at a b : ℕ) (xs ys : List ℕ) → AreBytes xs → a < b → spelt n at a xs < spelt n at b ys
rises zero at a b xs ys px l = l
rises (suc n) at a b xs ys px l =
    rises n (suc at) (a * 256 + slice_index xs at) (b * 256 + slice_index ys at) xs ys px (omega (arith, px at))

-- no text has a byte past its end
slice_index-nil : (at : ℕ) → slice_index [] at ≡ 0
slice_index-nil zero = refl
slice_index-nil (suc at) = refl

-- the empty text makes the least number
least : (n at a b : ℕ) (ys : List ℕ) → a ≤ b → spelt n at a [] ≤ spelt n at b ys
least zero at a b ys l = l
least (suc n) at a b ys l =
    least n (suc at) (a * 256 + slice_index [] at) (b * 256 + slice_index ys at) ys (omega (arith, slice_index-nil at))

-- of two texts, that with the smaller number comes first
below : (n a : ℕ) (xs ys : List ℕ) → AreBytes xs → AreBytes ys → spelt n 0 a xs < spelt n 0 a ys → slice_cmp nat_cmp xs ys ≡ Less
below zero a xs ys px py h = absurd (omega arith)
below (suc n) a [] [] px py h = absurd (omega arith)
below (suc n) a [] (y ∷ ys) px py h = refl
below (suc n) a (x ∷ xs) [] px py h = absurd (omega (arith, least n 1 (a * 256 + 0) (a * 256 + x) (x ∷ xs) (omega arith)))
below (suc n) a (x ∷ xs) (y ∷ ys) px py h =
    ⊎_elim (same (below n (a * 256 + x) xs ys (λ k. px (suc k)) (λ k. py (suc k)))) (⊎_elim smaller greater) (cases_order x y)
  where
    smaller : x < y → slice_cmp nat_cmp (x ∷ xs) (y ∷ ys) ≡ Less
    smaller l = ap (λ r. ordering_then r (slice_cmp nat_cmp xs ys)) (sym (nat_cmp_is x y Less l))

    same : (spelt n 0 (a * 256 + x) xs < spelt n 0 (a * 256 + x) ys → slice_cmp nat_cmp xs ys ≡ Less)
        → x ≡ y → slice_cmp nat_cmp (x ∷ xs) (y ∷ ys) ≡ Less
    same rest e =
        let whole : spelt n 1 (a * 256 + x) (x ∷ xs) < spelt n 1 (a * 256 + y) (y ∷ ys) = h in
        let tied = ap (λ r. ordering_then r (slice_cmp nat_cmp xs ys)) (sym (nat_cmp_is x y Equal e)) in
        let left = spelt-cons n 0 (a * 256 + x) x xs in
        let right = spelt-cons n 0 (a * 256 + y) y ys in
        let moved = ap (λ z. spelt n 0 (a * 256 + z) ys) e in
        tied ∙ rest (omega (arith, whole, left, right, moved))

    greater : y < x → slice_cmp nat_cmp (x ∷ xs) (y ∷ ys) ≡ Less
    greater l = absurd (omega (arith, h, rises n 1 (a * 256 + y) (a * 256 + x) (y ∷ ys) (x ∷ xs) py (omega arith)))

-- numbers stand as those one greater do
nat_cmp-suc : (x y : ℕ) → nat_cmp (suc x) (suc y) ≡ nat_cmp x y
nat_cmp-suc x y =
    ⊎_elim (λ e. moved Equal (ap suc e) e) (⊎_elim (λ l. moved Less (omega arith) l) (λ l. moved Greater (omega arith) l))
    (cases_order x y)
  where
    moved : (r : Ordering) → MatchOrdering r (suc x < suc y) (suc x ≡ suc y) (suc y < suc x) → MatchOrdering r (x < y) (x ≡ y) (y < x)
        → nat_cmp (suc x) (suc y) ≡ nat_cmp x y
    moved r more less = sym (nat_cmp_is (suc x) (suc y) r more) ∙ nat_cmp_is x y r less

-- texts that make one number, the shorter of which has no more bytes than it, stand by their lengths
level : (n a : ℕ) (xs ys : List ℕ) → AreBytes xs → AreBytes ys → spelt n 0 a xs ≡ spelt n 0 a ys
    → min (length xs) (length ys) ≤ n → nat_cmp (length xs) (length ys) ≡ slice_cmp nat_cmp xs ys
level n a [] [] px py h few = refl
level n a [] (y ∷ ys) px py h few = sym (nat_cmp_is 0 (suc (length ys)) Less (omega arith))
level n a (x ∷ xs) [] px py h few = sym (nat_cmp_is (suc (length xs)) 0 Greater (omega arith))
level zero a (x ∷ xs) (y ∷ ys) px py h few = absurd (omega arith)
level (suc n) a (x ∷ xs) (y ∷ ys) px py h few =
    ⊎_elim (same (λ e. level n (a * 256 + x) xs ys (λ k. px (suc k)) (λ k. py (suc k)) e (omega arith)))
    (⊎_elim smaller greater) (cases_order x y)
  where
    same : (spelt n 0 (a * 256 + x) xs ≡ spelt n 0 (a * 256 + x) ys → nat_cmp (length xs) (length ys) ≡ slice_cmp nat_cmp xs ys)
        → x ≡ y → nat_cmp (suc (length xs)) (suc (length ys)) ≡ slice_cmp nat_cmp (x ∷ xs) (y ∷ ys)
    same rest e =
        let whole : spelt n 1 (a * 256 + x) (x ∷ xs) ≡ spelt n 1 (a * 256 + y) (y ∷ ys) = h in
        let tied = ap (λ r. ordering_then r (slice_cmp nat_cmp xs ys)) (nat_cmp_is x y Equal e) in
        let left = spelt-cons n 0 (a * 256 + x) x xs in
        let right = spelt-cons n 0 (a * 256 + y) y ys in
        let moved = ap (λ z. spelt n 0 (a * 256 + z) ys) e in
        nat_cmp-suc (length xs) (length ys) ∙ rest (omega (arith, whole, left, right, moved)) ∙ tied

    smaller : x < y → nat_cmp (suc (length xs)) (suc (length ys)) ≡ slice_cmp nat_cmp (x ∷ xs) (y ∷ ys)
    smaller l = absurd (omega (arith, h, rises n 1 (a * 256 + x) (a * 256 + y) (x ∷ xs) (y ∷ ys) px (omega arith)))

    greater : y < x → nat_cmp (suc (length xs)) (suc (length ys)) ≡ slice_cmp nat_cmp (x ∷ xs) (y ∷ ys)
    greater l = absurd (omega (arith, h, rises n 1 (a * 256 + y) (a * 256 + x) (y ∷ ys) (x ∷ xs) py (omega arith)))

-- a list of zeros has no other item
zeros : (k at : ℕ) → slice_index (replicate k 0) at ≡ 0
zeros zero at = slice_index-nil at
zeros (suc k) zero = refl
zeros (suc k) (suc at) = zeros k at

-- where zeros follow the end of a text, its items are those of the whole
padded : (n k : ℕ) (xs : List ℕ) → drop n xs ≡ replicate k 0 → (at : ℕ) → slice_index (take n xs) at ≡ slice_index xs at
padded zero k xs e at = slice_index-nil at ∙ sym (ap (λ l. slice_index l at) e ∙ zeros k at)
padded (suc n) k [] e at = refl
padded (suc n) k (x ∷ xs) e zero = refl
padded (suc n) k (x ∷ xs) e (suc at) = padded n k xs e at

-- the first `n` bytes of a text make this number
pub record IsFront (n : ℕ) (text : List ℕ) (number : ℕ) : Type 0 where
  pub bytes : AreBytes text
  pub made : spelt n 0 0 text ≡ number

-- what is read from the bytes of an array is the front of the text that lies there with zeros after it
module _ (n k number : ℕ) (xs text : List ℕ) (here : take n xs ≡ text) (e : drop n xs ≡ replicate k 0) (small : AreBytes xs) where
  text_bytes : AreBytes (take n xs)
  text_bytes at = subst (λ z. z < 256) (sym (padded n k xs e at)) (small at)

  pub IsFront-8 : number ≡ from_be_bytes w64 xs → IsFront 8 text number
  IsFront-8 read =
      let has = padded n k xs e in
      let all : spelt 8 0 0 (take n xs) ≡ number = omega (arith, read, has 0, has 1, has 2, has 3, has 4, has 5, has 6, has 7) in
      subst (λ t. IsFront 8 t number) here (record { bytes = text_bytes; made = all })

  pub IsFront-16 : number ≡ from_be_bytes w128 xs → IsFront 16 text number
  IsFront-16 read =
      let at = padded n k xs e in
      let all : spelt 16 0 0 (take n xs) ≡ number =
      omega (arith, read, at 0, at 1, at 2, at 3, at 4, at 5, at 6, at 7, at 8, at 9, at 10, at 11, at 12, at 13, at 14, at 15) in
      subst (λ t. IsFront 16 t number) here (record { bytes = text_bytes; made = all })

module _ (n : ℕ) (xs ys : List ℕ) (p q : ℕ) (left : IsFront n xs p) (right : IsFront n ys q) where
  -- texts of two fronts stand as those do
  pub slice_cmp-unlike : p ≢ q → nat_cmp p q ≡ slice_cmp nat_cmp xs ys
  slice_cmp-unlike other = ⊎_elim (λ e. absurd (other e)) (⊎_elim smaller greater) (cases_order p q)
    where
      smaller : p < q → nat_cmp p q ≡ slice_cmp nat_cmp xs ys
      smaller l =
          let sure = below n 0 xs ys left.bytes right.bytes (omega (arith, l, left.made, right.made)) in
          sym (nat_cmp_is p q Less l) ∙ sym sure

      greater : q < p → nat_cmp p q ≡ slice_cmp nat_cmp xs ys
      greater l =
          let turned = below n 0 ys xs right.bytes left.bytes (omega (arith, l, left.made, right.made)) in
          sym (nat_cmp_is p q Greater l) ∙ sym (nat_list_cmp_total.antisymm xs ys ∙ ap ordering_reverse turned)

  -- texts of one front, the shorter of which is within it, stand by their lengths
  pub slice_cmp-alike : p ≡ q → min (length xs) (length ys) ≤ n → nat_cmp (length xs) (length ys) ≡ slice_cmp nat_cmp xs ys
  slice_cmp-alike e few = level n 0 xs ys left.bytes right.bytes (left.made ∙ e ∙ sym right.made) few
