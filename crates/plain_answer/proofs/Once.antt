-- What stands once each in a list, and what is found of it under one key.
use Rattle.std.proofs.Common.{◌≡◌, ◌||◌, not, Bool, true, false, cond, List, [], ◌∷◌, filter, refl, ◌∙◌, ap, subst}
use Rattle.std.specs.List.{list_any}
use Rattle.std.proofs.lemmas.Bool.{both_ways}
use Rattle.list_lemmas.proofs.Filters.{filter-comm}
use Rattle.plain_answer.specs.Plain.{once_each}

-- ---- once each

module _ {X : Type 0} (same : X → X → Bool) (tells : (x y : X) → same x y ≡ true → x ≡ y) (itself : (x : X) → same x x ≡ true) where
  -- a key that passes is left out of those that are not it
  no-key : (k : X) (xs : List X) → filter (same k) (filter (λ y. not (same k y)) xs) ≡ []
  no-key k [] = refl
  no-key k (x ∷ xs) = elim (same k x) as
      (λ b. same k x ≡ b → filter (same k) (cond (not b) (x ∷ filter (λ y. not (same k y)) xs) (filter (λ y. not (same k y)) xs)) ≡ []) [
        | true ↦ λ e. no-key k xs
        | false ↦ λ e. ap (λ b. cond b (x ∷ filter (same k) (filter (λ y. not (same k y)) xs))
            (filter (same k) (filter (λ y. not (same k y)) xs))) e
            ∙ no-key k xs
      ] refl

  -- under its key it stands once, where it stands at all
  pub filter-once : (k : X) (xs : List X) → filter (same k) (once_each same xs) ≡ cond (list_any (same k) xs) (k ∷ []) []
  filter-once k [] = refl
  filter-once k (x ∷ xs) = elim (same k x) as
      (λ b. same k x ≡ b
      → cond b (x ∷ filter (same k) (filter (λ y. not (same x y)) (once_each same xs)))
      (filter (same k) (filter (λ y. not (same x y)) (once_each same xs)))
      ≡ cond (b || list_any (same k) xs) (k ∷ []) []) [
        | true ↦ λ e.
            subst (λ z. z ∷ filter (same k) (filter (λ y. not (same z y)) (once_each same xs)) ≡ k ∷ []) (tells k x e)
            (ap (λ l. k ∷ l) (no-key k (once_each same xs)))
        | false ↦ λ e.
            let apart : same x k ≡ false = back x e in
            filter-comm (same k) (λ y. not (same x y)) (once_each same xs)
            ∙ ap (filter (λ y. not (same x y))) (filter-once k xs)
            ∙ kept x apart (list_any (same k) xs)
      ] refl
    where
      back : (x : X) → same k x ≡ false → same x k ≡ false
      back x e = elim (same x k) as (λ b. same x k ≡ b → b ≡ false) [
        | true ↦ λ f. absurd (both_ways (same k x) e (ap (same k) (tells x k f) ∙ itself k))
        | false ↦ λ f. refl
      ] refl

      kept : (x : X) → same x k ≡ false → (b : Bool) → filter (λ y. not (same x y)) (cond b (k ∷ []) []) ≡ cond b (k ∷ []) []
      kept x apart true = ap (λ b. cond (not b) (k ∷ []) []) apart
      kept x apart false = refl
