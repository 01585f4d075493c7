-- The passes of a new mailbox, in the order of their places. Own.
use Rattle.std.specs.Prelude.{◌≡◌, ◌∷◌, [], ℕ, suc, true, List, Option, ⊤}
use Rattle.crossbeam_queue.specs.Passes.{IsPassOf, Pass, view}
use Rattle.crossbeam_queue.specs.declared.array_queue.Doing.{Doing}
use Rattle.crossbeam_queue.specs.declared.array_queue.Slotted.{Slotted}
use Rattle.workers.specs.declared.hand.Hand.{Hand}

-- a pass of this queue, at this place, that has put and taken nothing
pub record IsNewPass {T Q A : Type 0} (line : Slotted (Option T) (Doing T Hand) Q A) (place : ℕ)
    (pass : Pass T Hand) (at : ℕ) : Type 0 where
  pub of_line : IsPassOf line pass
  pub at_place : at ≡ place
  pub no_puts : (view pass).puts ≡ 0
  pub no_takes : (view pass).takes ≡ 0

-- a pass of this queue is the only one
abbrev pub IsLonePass : {T Q A : Type 0} → Slotted (Option T) (Doing T Hand) Q A → Pass T Hand → Type 0
IsLonePass line pass = (view pass).alone ≡ true

-- a fact holds of each in a list, and of its number, the first of which is this one
abbrev pub AllFrom : {X : Type 0} → (ℕ → X → Type 0) → ℕ → List X → Type 0
AllFrom fact from [] = ⊤
AllFrom fact from (x ∷ xs) = fact from x × AllFrom fact (suc from) xs
