-- Membership, ascending lists, and reading a list of views at a place.
use Rattle.std.proofs.Common.{inl, inr, ◌≡◌, ◌⊎◌, ℕ, zero, suc, ◌<◌, List, [], ◌∷◌, ◌++◌, length, drop, refl, sym, ap, subst, ⊎_elim, arith}
use mathlib.Core.Option.{some, some-injective, some-ne-none}
use lib.ListN.{get_elem?}
use Rattle.shared_book.specs.Lists.{IsIn, Ascends, AreDistinct}

module _ {A : Type 0} where
  -- a place that has something is one of the list
  pub at_bound : (l : List A) (k : ℕ) (a : A) → get_elem? l k ≡ some a → k < length l
  at_bound [] k a e = absurd (some-ne-none a (sym e))
  at_bound (x ∷ xs) zero a e = omega arith
  at_bound (x ∷ xs) (suc k) a e = let h = at_bound xs k a e in omega arith

  -- what stands in a list with one more is the one more, or stood there before
  pub at_end : (l : List A) (a b : A) (j : ℕ) → get_elem? (l ++ a ∷ []) j ≡ some b
      → (get_elem? l j ≡ some b) ⊎ ((j ≡ length l) × (a ≡ b))
  at_end [] a b zero e = inr (refl, some-injective a b e)
  at_end [] a b (suc j) e = absurd (some-ne-none b (sym e))
  at_end (x ∷ xs) a b zero e = inl e
  at_end (x ∷ xs) a b (suc j) e = ⊎_elim (λ p. inl p) (λ p. inr (ap suc p.0, p.1)) (at_end xs a b j e)

  -- what is left behind a beginning
  pub drop_front : (a b : List A) → drop (length a) (a ++ b) ≡ b
  drop_front [] b = refl
  drop_front (x ∷ xs) b = drop_front xs b

  -- what is in two lists together is in one of them
  pub in_append : (x : A) (xs ys : List A) → IsIn x (xs ++ ys) → IsIn x xs ⊎ IsIn x ys
  in_append x [] ys p = inr p
  in_append x (y ∷ xs) ys p =
      ⊎_elim (λ e. inl (inl e)) (λ q. ⊎_elim (λ r. inl (inr r)) (λ r. inr r) (in_append x xs ys q)) p

  -- what is in the first is in both together
  pub in_left : (x : A) (xs ys : List A) → IsIn x xs → IsIn x (xs ++ ys)
  in_left x [] ys p = absurd p
  in_left x (y ∷ xs) ys p = ⊎_elim (λ e. inl e) (λ q. inr (in_left x xs ys q)) p

  -- what is in the second is in both together
  pub in_right : (x : A) (xs ys : List A) → IsIn x ys → IsIn x (xs ++ ys)
  in_right x [] ys p = p
  in_right x (y ∷ xs) ys p = inr (in_right x xs ys p)

-- an ascending list goes on with a number above all of it
pub ascends_push : (xs : List ℕ) (n : ℕ) → Ascends xs → ((x : ℕ) → IsIn x xs → x < n) → Ascends (xs ++ n ∷ [])
ascends_push [] n r h = ((λ y p. absurd p), tt)
ascends_push (x ∷ xs) n r h = (
  (λ y p. ⊎_elim
      (λ q. r.0 y q)
      (λ q. ⊎_elim (λ e. subst (λ (z : ℕ). x < z) (sym e) (h x (inl refl))) (λ e. absurd e) q)
      (in_append y xs (n ∷ []) p)),
  ascends_push xs n r.1 (λ y p. h y (inr p)),
)

-- two lists without a number twice have none twice together where none is in both
pub distinct_append : (xs ys : List ℕ) → AreDistinct xs → AreDistinct ys → ((x : ℕ) → IsIn x xs → IsIn x ys → ⊥)
    → AreDistinct (xs ++ ys)
distinct_append [] ys p q h = q
distinct_append (x ∷ xs) ys p q h = (
  (λ i. ⊎_elim (λ j. p.0 j) (λ j. h x (inl refl) j) (in_append x xs ys i)),
  distinct_append xs ys p.1 q (λ y a b. h y (inr a) b),
)

-- a list in which nothing is, is empty
pub no_members : (xs : List ℕ) → ((k : ℕ) → IsIn k xs → ⊥) → xs ≡ []
no_members [] h = refl
no_members (x ∷ xs) h = absurd (h x (inl refl))
