-- Lists that have the same sums have the same elements: they are permutations, as long, of one order, and fold to the same
-- where steps may change places.
use Rattle.std.proofs.Common.{◌≡◌, ℕ, zero, suc, ◌+◌, ◌<◌, Bool, true, false, cond, List, [], ◌∷◌, ◌++◌, length, filter, fold, get_or, refl, sym, ◌∙◌, ap, subst, arith}
use Rattle.std.specs.List.{AllByRecursion}
use Rattle.std.specs.List.Sorted.{IsPermutation, IsSorted}
use Rattle.std.specs.Ordering.{is_eq, is_lt, ordering_reverse}
use Rattle.std.specs.declared.cmp.Ordering.{Ordering}
use Rattle.std.specs.declared.cmp.Ordering.TheVariants.{Less, Equal, Greater}
use Rattle.std.specs.Cmp.{IsTotalOrder, tied_itself}
use Rattle.std.proofs.lemmas.List.Elements.{All-from_get_or, recursion_from_All}
use Rattle.std.proofs.lemmas.List.Sorted.{ranks_by, sorted_far}
use Rattle.list_lemmas.proofs.Filters.{by_keys}
use Rattle.list_lemmas.proofs.Totals.{total, when, total-append, total-length, HaveSameTotals, totals-permuted}

-- ---- permutations

-- some copies of one thing
copies : {X : Type 0} → ℕ → X → List X
copies zero x = []
copies (suc n) x = x ∷ copies n x

module _ {X : Type 0} (same : X → X → Bool) (tells : (x y : X) → same x y ≡ true → x ≡ y) (itself : (x : X) → same x x ≡ true) where
  -- what passes as one thing are copies of it
  filter-copies : (k : X) (xs : List X) → filter (same k) xs ≡ copies (total (λ x. when (same k x) 1) xs) k
  unfolding copies
  filter-copies k [] = refl
  filter-copies k (x ∷ xs) = elim (same k x) as
      (λ b. same k x ≡ b → cond b (x ∷ filter (same k) xs) (filter (same k) xs) ≡ copies (when b 1 + total (λ x. when (same k x) 1) xs) k) [
        | true ↦ λ e.
            let one_more : suc (total (λ x. when (same k x) 1) xs) ≡ 1 + total (λ x. when (same k x) 1) xs = omega arith in
            ap (λ y. y ∷ filter (same k) xs) (sym (tells k x e)) ∙ ap (λ l. k ∷ l) (filter-copies k xs)
            ∙ ap (λ n. copies n k) one_more
        | false ↦ λ e.
            let none : total (λ x. when (same k x) 1) xs ≡ 0 + total (λ x. when (same k x) 1) xs = omega arith in
            filter-copies k xs ∙ ap (λ n. copies n k) none
      ] refl

  -- lists with the same totals have the same elements
  pub totals-permutation : (xs ys : List X) → HaveSameTotals xs ys → IsPermutation xs ys
  totals-permutation xs ys totals =
      by_keys same (λ x. x) itself (length xs) xs ys (omega arith)
      (λ k. filter-copies k xs ∙ ap (λ n. copies n k) (totals (λ x. when (same k x) 1)) ∙ sym (filter-copies k ys))

-- what is in some order has as many
pub permuted-length : {X : Type 0} (xs ys : List X) → IsPermutation xs ys → length ys ≡ length xs
permuted-length xs ys moved = sym (total-length ys) ∙ sym (totals-permuted xs ys moved (λ x. 1)) ∙ total-length xs

-- ---- lists in order

module _ {X : Type 0} (R : X → X → Ordering) (order : IsTotalOrder R) (tells : (x y : X) → is_eq (R x y) ≡ true → x ≡ y) where
  -- nothing in these is less
  abbrev NotLess : X → List X → Type 0
  NotLess x xs = AllByRecursion (λ y. is_lt (R y x) ≡ false) xs

  -- in order, nothing behind the first is less
  head-least : (x : X) (xs : List X) → IsSorted R (x ∷ xs) → NotLess x xs
  head-least x xs sorted =
      recursion_from_All (λ y. is_lt (R y x) ≡ false) xs
      (All-from_get_or (λ y. is_lt (R y x) ≡ false) xs x
      (λ i less. sorted_far (λ y z. is_lt (R y z)) (ranks_by order (λ y. y)) (x ∷ xs) sorted 0 (suc i) x (omega arith)
      (omega (arith, less))))

  -- and the rest is in order
  tail-sorted : (x : X) (xs : List X) → IsSorted R (x ∷ xs) → IsSorted R xs
  tail-sorted x xs sorted = λ k d from to.
      let next : suc k + 1 ≡ suc (k + 1) = omega arith in
      subst (λ n. is_lt (R (get_or (x ∷ xs) n d) (get_or xs k d)) ≡ false) next (sorted (suc k) d (omega arith) (omega (arith, to)))

  -- what is one of a list is not less than what nothing in the list is less than
  one-of : (x y : X) (ys : List X) → NotLess y ys → 0 < total (λ z. when (is_eq (R x z)) 1) ys → is_lt (R x y) ≡ false
  one-of x y [] each some = absurd (omega (arith, some))
  one-of x y (z ∷ zs) each some = elim (is_eq (R x z)) as
      (λ b. is_eq (R x z) ≡ b → 0 < when b 1 + total (λ z. when (is_eq (R x z)) 1) zs → is_lt (R x y) ≡ false) [
        | true ↦ λ e s. subst (λ w. is_lt (R w y) ≡ false) (sym (tells x z e)) each.0
        | false ↦ λ e s. one-of x y zs each.1 (omega (arith, s))
      ] refl some

  -- each ties with itself
  itself : (x : X) → is_eq (R x x) ≡ true
  itself x = ap is_eq (tied_itself order x)

  -- and is not less than itself
  not_itself : (x : X) → is_lt (R x x) ≡ false
  not_itself x = ap is_lt (tied_itself order x)

  -- where neither is less both are one
  neither-less : (x y : X) → is_lt (R x y) ≡ false → is_lt (R y x) ≡ false → x ≡ y
  neither-less x y one other = tells x y (by (R x y) (R y x) (order.antisymm x y) one other)
    where
      by : (a b : Ordering) → a ≡ ordering_reverse b → is_lt a ≡ false → is_lt b ≡ false → is_eq a ≡ true
      by Less b turned e f = absurd cc
      by Equal b turned e f = refl
      by Greater Less turned e f = absurd cc
      by Greater Equal turned e f = absurd cc
      by Greater Greater turned e f = absurd cc

  -- lists in order with the same elements are one list
  pub sorted-same : (xs ys : List X) → IsSorted R xs → IsSorted R ys → HaveSameTotals xs ys → xs ≡ ys
  sorted-same [] [] one other totals = refl
  sorted-same [] (y ∷ ys) one other totals = absurd (omega (arith, totals (λ z. 1)))
  sorted-same (x ∷ xs) [] one other totals = absurd (omega (arith, totals (λ z. 1)))
  sorted-same (x ∷ xs) (y ∷ ys) one other totals =
      let x_here : when (is_eq (R x x)) 1 ≡ 1 = ap (λ b. when b 1) (itself x) in
      let y_here : when (is_eq (R y y)) 1 ≡ 1 = ap (λ b. when b 1) (itself y) in
      let x_there = one-of x y (y ∷ ys) (not_itself y, head-least y ys other)
      (omega (arith, totals (λ z. when (is_eq (R x z)) 1), x_here)) in
      let y_there = one-of y x (x ∷ xs) (not_itself x, head-least x xs one) (omega (arith, totals (λ z. when (is_eq (R y z)) 1), y_here)) in
      let same : x ≡ y = neither-less x y x_there y_there in
      (λ i. same i ∷ sorted-same xs ys (tail-sorted x xs one) (tail-sorted y ys other) (λ g. omega (arith, totals g, ap g same)) i)

-- ---- any fold

module _ {X B : Type 0} (same : X → X → Bool) (tells : (x y : X) → same x y ≡ true → x ≡ y) (itself : (x : X) → same x x ≡ true)
    (f : B → X → B) (swaps : (b : B) (x y : X) → f (f b x) y ≡ f (f b y) x) where
  -- an element of a list, with what is before and behind it
  record IsWithin (x : X) (ys : List X) : Type 0 where
    front : List X
    back : List X
    is : ys ≡ front ++ x ∷ back

  -- what is counted in a list is one of its elements
  within : (x : X) (ys : List X) → 0 < total (λ y. when (same x y) 1) ys → IsWithin x ys
  within x [] some = absurd (omega (arith, some))
  within x (y ∷ ys) some = elim (same x y) as
      (λ b. same x y ≡ b → 0 < when b 1 + total (λ y. when (same x y) 1) ys → IsWithin x (y ∷ ys)) [
        | true ↦ λ e s. record { front = []; back = ys; is = ap (λ z. z ∷ ys) (sym (tells x y e)) }
        | false ↦ λ e s.
            let rest = within x ys (omega (arith, s)) in
            record { front = y ∷ rest.front; back = rest.back; is = ap (λ l. y ∷ l) rest.is }
      ] refl some

  -- an element may as well come first
  fold-front : (b : B) (us : List X) (x : X) (vs : List X) → fold f b (us ++ x ∷ vs) ≡ fold f (f b x) (us ++ vs)
  fold-front b [] x vs = refl
  fold-front b (u ∷ us) x vs = fold-front (f b u) us x vs ∙ ap (λ c. fold f c (us ++ vs)) (swaps b u x)

  -- lists with the same elements fold to the same
  pub fold-same : (xs ys : List X) → HaveSameTotals xs ys → (b : B) → fold f b xs ≡ fold f b ys
  fold-same [] [] totals b = refl
  fold-same [] (y ∷ ys) totals b = absurd (omega (arith, totals (λ x. 1)))
  fold-same (x ∷ xs) ys totals b =
      let here : when (same x x) 1 ≡ 1 = ap (λ c. when c 1) (itself x) in
      let some : 0 < total (λ y. when (same x y) 1) ys = omega (arith, totals (λ y. when (same x y) 1), here) in
      let at = within x ys some in
      fold-same xs (at.front ++ at.back)
      (λ g. omega (arith, totals g, ap (total g) at.is, total-append g at.front (x ∷ at.back), total-append g at.front at.back)) (f b x)
      ∙ sym (ap (fold f b) at.is ∙ fold-front b at.front x at.back)
