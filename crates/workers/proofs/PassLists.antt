-- Lists of new passes.
use Rattle.std.proofs.Common.{◌≡◌, ◌+◌, ◌++◌, ◌∷◌, ◌<◌, ℕ, suc, List, [], length, refl, sym, ap, subst, arith, length-append}
use Rattle.std.specs.Prelude.{get_or, slice_set}
use Rattle.workers.specs.PassLists.{AllFrom}

-- the first in a list is another
pub first-set : {X : Type 0} (fact : ℕ → X → Type 0) (from : ℕ) (xs : List X) (y : X) → 0 < length xs → fact from y
    → AllFrom fact from xs → AllFrom fact from (slice_set xs 0 y)
first-set fact from [] y some is all = all
first-set fact from (x ∷ xs) y some is all = (is, all.1)

-- one more
pub from-push : {X : Type 0} (fact : ℕ → X → Type 0) (from : ℕ) (xs : List X) (y : X) (n : ℕ) → n ≡ from + length xs → fact n y
    → AllFrom fact from xs → AllFrom fact from (xs ++ y ∷ [])
from-push {X = X} fact from [] y n at is all = (subst (λ (k : ℕ). fact k y) (omega (arith, at)) is, tt)
from-push {X = X} fact from (x ∷ xs) y n at is all = (all.0, from-push fact (suc from) xs y n (omega (arith, at)) is all.1)

-- the first in a list
pub first-of : {X : Type 0} (fact : ℕ → X → Type 0) (from : ℕ) (xs : List X) (was : X) → 0 < length xs → was ≡ get_or xs 0 was
    → AllFrom fact from xs → fact from was
first-of fact from [] was some is all = absurd (omega (arith, some))
first-of {X = X} fact from (x ∷ xs) was some is all = subst (λ (y : X). fact from y) (sym is) all.0

set-length : {X : Type 0} (xs : List X) (y : X) → length (slice_set xs 0 y) ≡ length xs
set-length [] y = refl
set-length (x ∷ xs) y = refl

-- one more, once the first has changed
pub dealt : {X : Type 0} (fact : ℕ → X → Type 0) (xs new : List X) (y z : X) (n : ℕ) → length xs ≡ n → 0 < n → fact 0 y → fact n z
    → AllFrom fact 0 xs → new ≡ slice_set xs 0 y ++ z ∷ [] → AllFrom fact 0 new × (length new ≡ n + 1)
dealt {X = X} fact xs new y z n many some first next all is = (
  subst (λ (l : List X). AllFrom fact 0 l) (sym is)
      (from-push fact 0 (slice_set xs 0 y) z n (let same = set-length xs y in omega (arith, many, same)) next
      (first-set fact 0 xs y (omega (arith, many, some)) first all)),
  let same = set-length xs y in
      let more = ap length is in
      omega (arith, many, same, more, length-append (slice_set xs 0 y) (z ∷ [])),
)
