-- What is picked from a list by an order: the least of it, and the first that passes a test.
use Rattle.std.proofs.Common.{◌≡◌, ◌∙◌, Bool, true, false, cond, List, [], ◌∷◌, fold, refl, sym, ap, subst, inl, inr, is_gt, is_lt}
use Rattle.std.specs.Prelude.{◌⊎◌, None, Some, find}
use Rattle.std.specs.Cmp.{IsTotalOrder, tied_itself, upto}
use Rattle.std.specs.List.{reduce}
use Rattle.std.specs.List.Sorted.{IsStrictlySortedBy}
use Rattle.std.specs.Map.{keys_of}
use Rattle.std.specs.Ordering.{min_by_ordering, ordering_reverse}
use Rattle.std.specs.declared.cmp.Ordering.{Ordering}
use Rattle.std.specs.declared.cmp.Ordering.TheVariants.{Less, Equal, Greater}
use Rattle.list_lemmas.proofs.Lists.{none_some, some_same}
use Rattle.world.proofs.scripts.deeds.Members.{IsIn, each-in}

-- one of a list is not above any other of it
pub record IsPicked {A : Type 0} (R : A → A → Ordering) (xs : List A) (x : A) : Type 0 where
  pub there : IsIn x xs
  pub least : (y : A) → IsIn y xs → is_gt (R x y) ≡ false

module _ {A : Type 0} {R : A → A → Ordering} (o : IsTotalOrder R) where
  -- none is above itself
  not-above : (x : A) → is_gt (R x x) ≡ false
  not-above x = ap is_gt (tied_itself o x)

  -- the lesser of two is one of them
  lesser-either : (a b : A) (r : Ordering) → (min_by_ordering r a b ≡ a) ⊎ (min_by_ordering r a b ≡ b)
  lesser-either a b Less = inl refl
  lesser-either a b Equal = inl refl
  lesser-either a b Greater = inr refl

  -- it is not above the first
  lesser-first : (a b : A) (r : Ordering) → R a b ≡ r → is_gt (R (min_by_ordering r a b) a) ≡ false
  lesser-first a b Less is = not-above a
  lesser-first a b Equal is = not-above a
  lesser-first a b Greater is = ap is_gt (o.antisymm b a ∙ ap ordering_reverse is)

  -- nor above the second
  lesser-second : (a b : A) (r : Ordering) → R a b ≡ r → is_gt (R (min_by_ordering r a b) b) ≡ false
  lesser-second a b Less is = ap is_gt is
  lesser-second a b Equal is = ap is_gt is
  lesser-second a b Greater is = not-above b

  -- the least so far, and of what follows
  fold-picks : (acc : A) (xs : List A) → IsPicked R (acc ∷ xs) (fold (λ a b. min_by_ordering (R a b) a b) acc xs)
  fold-picks acc [] = record {
    there = inl refl;
    least = λ y place. elim place [
      | inl same ↦ ap (λ z. is_gt (R acc z)) same ∙ not-above acc
      | inr none ↦ absurd none
    ];
  }
  fold-picks acc (y ∷ ys) =
      let mid = min_by_ordering (R acc y) acc y in
      let rest = fold-picks mid ys in
      let found = fold (λ a b. min_by_ordering (R a b) a b) mid ys in
      let below = rest.least mid (inl refl) in record {
        there = elim rest.there [
          | inl same ↦ elim (lesser-either acc y (R acc y)) [
            | inl first ↦ inl (same ∙ first)
            | inr second ↦ inr (inl (same ∙ second))
          ]
          | inr later ↦ inr (inr later)
        ];
        least = λ z place. elim place [
          | inl first ↦ ap (λ w. is_gt (R found w)) first ∙ upto o found mid acc below (lesser-first acc y (R acc y) refl)
          | inr (inl second) ↦ ap (λ w. is_gt (R found w)) second ∙ upto o found mid y below (lesser-second acc y (R acc y) refl)
          | inr (inr later) ↦ rest.least z (inr later)
        ];
      }

  -- the least of a list
  pub reduce-picks : (xs : List A) (x : A) → reduce (λ a b. min_by_ordering (R a b) a b) xs ≡ Some x → IsPicked R xs x
  reduce-picks [] x is = absurd (none_some x is)
  reduce-picks (y ∷ ys) x is = subst (IsPicked R (y ∷ ys)) (some_same _ x is) (fold-picks y ys)

  -- a list that has something has a least
  pub reduce-some : (xs : List A) (x : A) → IsIn x xs → (y : A) × (reduce (λ a b. min_by_ordering (R a b) a b) xs ≡ Some y)
  reduce-some [] x here = absurd here
  reduce-some (y ∷ ys) x here = (fold (λ a b. min_by_ordering (R a b) a b) y ys, refl)

-- the key of an entry is one of the keys
in-keys : {K X : Type 0} (z : K × X) (zs : List (K × X)) → IsIn z zs → IsIn z.0 (keys_of zs)
in-keys z [] here = absurd here
in-keys {K} {X} z (w ∷ ws) (inl same) = inl (ap (λ (e : K × X). e.0) same)
in-keys z (w ∷ ws) (inr later) = inr (in-keys z ws later)

-- one of a list of entries passes a test, and none before it by key does
pub record IsFirstPassing {K X : Type 0} (R : K → K → Ordering) (test : K × X → Bool) (xs : List (K × X)) (x : K × X) : Type 0 where
  pub there : IsIn x xs
  pub passes : test x ≡ true
  pub first : (y : K × X) → IsIn y xs → test y ≡ true → is_lt (R y.0 x.0) ≡ false

module _ {K X : Type 0} {R : K → K → Ordering} (o : IsTotalOrder R) (test : K × X → Bool) where
  -- what is above is not below
  not-below : (a b : K) → R b a ≡ Less → is_lt (R a b) ≡ false
  not-below a b less = ap is_lt (o.antisymm a b ∙ ap ordering_reverse less)

  -- what is found first
  pub find-picks : (xs : List (K × X)) (x : K × X) → IsStrictlySortedBy R (keys_of xs) → find test xs ≡ Some x
      → IsFirstPassing R test xs x
  unfolding IsStrictlySortedBy
  find-picks [] x sorted is = absurd (none_some x is)
  find-picks (y ∷ ys) x sorted is = elim (test y) as (λ b. test y ≡ b → cond b (Some y) (find test ys) ≡ Some x
      → IsFirstPassing R test (y ∷ ys) x) [
        | true ↦ λ passes found. let same = some_same y x found in record {
          there = inl (sym same);
          passes = ap test (sym same) ∙ passes;
          first = λ z place _. ap (λ (e : K × X). is_lt (R z.0 e.0)) (sym same) ∙ elim place [
            | inl head ↦ ap (λ (e : K × X). is_lt (R e.0 y.0)) head ∙ ap is_lt (tied_itself o y.0)
            | inr later ↦ not-below z.0 y.0 (each-in (λ (k : K). R y.0 k ≡ Less) z.0 (keys_of ys) sorted.0 (in-keys z ys later))
          ];
        }
        | false ↦ λ fails found. let rest = find-picks ys x sorted.1 found in record {
          there = inr rest.there;
          passes = rest.passes;
          first = λ z place passes. elim place [
            | inl head ↦ absurd (let e : true ≡ false = sym passes ∙ ap test head ∙ fails in cc)
            | inr later ↦ rest.first z later passes
          ];
        }
      ] refl is

  -- where nothing is found nothing passes
  pub find-none : (xs : List (K × X)) → find test xs ≡ None → (y : K × X) → IsIn y xs → test y ≡ true → ⊥
  find-none [] none y here passes = here
  find-none (x ∷ xs) none y here passes = elim (test x) as (λ b. test x ≡ b → cond b (Some x) (find test xs) ≡ None
      → IsIn y (x ∷ xs) → ⊥) [
        | true ↦ λ is found place. none_some x (sym found)
        | false ↦ λ is found place. elim place [
          | inl same ↦ let e : true ≡ false = sym passes ∙ ap test same ∙ is in cc
          | inr later ↦ find-none xs found y later passes
        ]
      ] refl none here
