-- How a text is read line by line. No public clause cites this module.
use Rattle.std.specs.Prelude.{◌≡◌, ◌≢◌, ℕ, List, ◌++◌, Option, Result, Ok, Err}
use Rattle.mw_types.specs.declared.refusal.PlanRefusal.{PlanRefusal}
use Rattle.mw_types.specs.declared.refusal.PlanRefusal.TheVariants.{NoMemory}
use Rattle.text_lines.specs.Readings.{with_line}

-- what was said so far, and then what follows it
abbrev pub followed_by : {X : Type 0} → List X → Result (List X) PlanRefusal → Result (List X) PlanRefusal
followed_by said (Ok rest) = Ok (said ++ rest)
followed_by said (Err refusal) = Err refusal

-- what was said so far with what the line of this number says is the new, whatever follows
abbrev pub TakesIn : {X : Type 0} → (List ℕ → Option X) → ℕ → List ℕ → List X → List X → Type 0
TakesIn reading n line old new = (rest : Result (List _) PlanRefusal) →
    followed_by old (with_line reading n line rest) ≡ followed_by new rest

-- a refusal is what the line of this number says, whatever follows, unless memory ran out
abbrev pub Refuses : {X : Type 0} → (List ℕ → Option X) → ℕ → List ℕ → PlanRefusal → Type 0
Refuses reading n line refusal = (rest : Result (List _) PlanRefusal) →
    refusal ≢ NoMemory → with_line reading n line rest ≡ Err refusal
