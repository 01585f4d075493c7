-- Which stamps an `Oldest` holds, for its callers.
use Rattle.std.proofs.Common.{◌≡◌, ℕ, suc, ◌<◌, List, [], ◌∷◌, length, Contains, refl, subst, arith, inl, inr}
use Rattle.std.proofs.lemmas.Bool.{cases_lt}
use Rattle.std.proofs.lemmas.List.Sorted.{Contains-permutation}
use Rattle.std.specs.List.Sorted.{IsPermutation}
use Rattle.mw_types.specs.declared.TheConstants.{END}
use Rattle.run_history.specs.Watermarks.{least}

-- a stamp that was added is held
pub held-added : (stamp : ℕ) (old new : List ℕ) → IsPermutation (stamp ∷ old) new → Contains new stamp
held-added stamp old new added =
    let some : 0 < length (stamp ∷ old) = omega arith in
    Contains-permutation (stamp ∷ old) new stamp added (0, some, refl)

-- the least is held, unless it is the end
pub held-least : (stamps : List ℕ) → least stamps < END → Contains stamps (least stamps)
held-least [] below = absurd (omega (arith, below))
held-least (s ∷ ss) below = elim (cases_lt s (least ss)) [
  | inl first ↦
      let same : s ≡ least (s ∷ ss) = omega (arith, first) in
      let some : 0 < length (s ∷ ss) = omega arith in
      subst (Contains (s ∷ ss)) same (0, some, refl)
  | inr other ↦
      let same : least ss ≡ least (s ∷ ss) = omega (arith, other) in
      let rest : least ss < END = omega (arith, other, below) in
      let later = held-least ss rest in
      let within : suc later.0 < length (s ∷ ss) = omega (arith, later.1) in
      subst (Contains (s ∷ ss)) same (suc later.0, within, later.2)
]
