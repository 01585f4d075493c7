-- Two strictly ascending lists of the same elements are one; and entries that pass a test stay in order.
use Rattle.std.proofs.Common.{◌≡◌, ◌∙◌, Bool, true, false, cond, List, [], ◌∷◌, refl, sym, ap, subst, inl, inr}
use Rattle.std.specs.Prelude.{filter}
use Rattle.std.specs.List.{AllByRecursion}
use Rattle.std.specs.List.Sorted.{IsStrictlySortedBy}
use Rattle.std.specs.Map.{keys_of}
use Rattle.std.specs.Ordering.{is_lt, ordering_reverse}
use Rattle.std.specs.declared.cmp.Ordering.{Ordering}
use Rattle.std.specs.declared.cmp.Ordering.TheVariants.{Less, Equal, Greater}
use Rattle.world.proofs.scripts.deeds.Members.{IsIn, each-in}

-- what holds of each key holds of each key of the entries that pass
each-passing : {K X : Type 0} (P : K → Type 0) (test : K × X → Bool) (es : List (K × X)) → AllByRecursion P (keys_of es)
    → AllByRecursion P (keys_of (filter test es))
each-passing P test [] all = tt
each-passing P test (e ∷ es) all =
    elim (test e) as (λ b. AllByRecursion P (keys_of (cond b (e ∷ filter test es) (filter test es)))) [
      | true ↦ (all.0, each-passing P test es all.1)
      | false ↦ each-passing P test es all.1
    ]

-- entries that pass stand in the order of their keys
pub sorted-passing : {K X : Type 0} (R : K → K → Ordering) (test : K × X → Bool) (es : List (K × X))
    → IsStrictlySortedBy R (keys_of es) → IsStrictlySortedBy R (keys_of (filter test es))
unfolding IsStrictlySortedBy
sorted-passing R test [] sorted = tt
sorted-passing R test (e ∷ es) sorted =
    elim (test e) as (λ b. IsStrictlySortedBy R (keys_of (cond b (e ∷ filter test es) (filter test es)))) [
      | true ↦ (each-passing (λ k. R e.0 k ≡ Less) test es sorted.0, sorted-passing R test es sorted.1)
      | false ↦ sorted-passing R test es sorted.1
    ]

-- an order and its reverse are not both less
not-both : (o : Ordering) → o ≡ Less → ordering_reverse o ≡ Less → ⊥
not-both Less less more = let t : is_lt Greater ≡ is_lt Less = ap is_lt more in cc
not-both Equal less more = let t : is_lt Equal ≡ is_lt Less = ap is_lt less in cc
not-both Greater less more = let t : is_lt Greater ≡ is_lt Less = ap is_lt less in cc

module _ {A : Type 0} (R : A → A → Ordering) (turns : (a b : A) → R a b ≡ ordering_reverse (R b a)) where
  -- of two, not each is below the other
  apart : (a b : A) → R a b ≡ Less → R b a ≡ Less → ⊥
  apart a b one other = not-both (R b a) other (sym (turns a b) ∙ one)

  -- the heads are the same
  same-head : (x y : A) (xs ys : List A) → AllByRecursion (λ z. R x z ≡ Less) xs → AllByRecursion (λ z. R y z ≡ Less) ys
      → IsIn x (y ∷ ys) → IsIn y (x ∷ xs) → x ≡ y
  same-head x y xs ys below above (inl same) back = same
  same-head x y xs ys below above (inr later) (inl same) = sym same
  same-head x y xs ys below above (inr later) (inr other) =
      absurd (apart x y (each-in (λ z. R x z ≡ Less) y xs below other) (each-in (λ z. R y z ≡ Less) x ys above later))

  -- what is behind a head is behind the other
  behind : (x y : A) (xs ys : List A) → x ≡ y → AllByRecursion (λ z. R x z ≡ Less) xs → (z : A) → IsIn z xs → IsIn z (y ∷ ys)
      → IsIn z ys
  behind x y xs ys same below z there (inr later) = later
  behind x y xs ys same below z there (inl head) =
      let self = subst (λ w. R x w ≡ Less) (head ∙ sym same) (each-in (λ w. R x w ≡ Less) z xs below there) in
      absurd (apart x x self self)

  -- the lists are the same
  pub same-ascending : (xs ys : List A) → IsStrictlySortedBy R xs → IsStrictlySortedBy R ys → ((x : A) → IsIn x xs → IsIn x ys)
      → ((y : A) → IsIn y ys → IsIn y xs) → xs ≡ ys
  unfolding IsStrictlySortedBy
  same-ascending [] [] one other to from = refl
  same-ascending [] (y ∷ ys) one other to from = absurd (from y (inl refl))
  same-ascending (x ∷ xs) [] one other to from = absurd (to x (inl refl))
  same-ascending (x ∷ xs) (y ∷ ys) one other to from =
      let same = same-head x y xs ys one.0 other.0 (to x (inl refl)) (from y (inl refl)) in
      ap (λ z. z ∷ xs) same ∙ ap (λ zs. y ∷ zs) (same-ascending xs ys one.1 other.1
      (λ z there. behind x y xs ys same one.0 z there (to z (inr there)))
      (λ z there. behind y x ys xs (sym same) other.0 z there (from z (inr there))))
