-- What the lines of a text say together, where each says one thing by itself. Own.
use Rattle.std.specs.Prelude.{ℕ, ◌+◌, ◌==◌, if◌then◌else◌, Bool, true, List, [], ◌∷◌, Option, Some, None, Result, Ok, Err}
use Rattle.mw_types.specs.declared.refusal.PlanRefusal.{PlanRefusal}
use Rattle.mw_types.specs.declared.refusal.PlanRefusal.TheVariants.{Line}
use Rattle.text_lines.specs.Lines.{lines_of}

-- whether a line says nothing: an empty one, or a comment
abbrev pub is_skipped : List ℕ → Bool
is_skipped [] = true
is_skipped (b ∷ bs) = b == 35

-- what a line says before others, or the line of this number as the first that is out of form
abbrev pub with_said : {X : Type 0} → ℕ → Option X → Result (List X) PlanRefusal → Result (List X) PlanRefusal
with_said n None rest = Err (Line n)
with_said n (Some x) (Err refusal) = Err refusal
with_said n (Some x) (Ok rest) = Ok (x ∷ rest)

-- what the line of this number says before the rest: nothing where it is skipped, else what is read of it
abbrev pub with_line :
    {X : Type 0} → (List ℕ → Option X) → ℕ → List ℕ → Result (List X) PlanRefusal → Result (List X) PlanRefusal
with_line reading n line rest = if is_skipped line then rest else with_said n (reading line) rest

-- what the lines from this number on say, or the first that is out of form
abbrev pub read_from : {X : Type 0} → (List ℕ → Option X) → ℕ → List (List ℕ) → Result (List X) PlanRefusal
read_from reading n [] = Ok []
read_from reading n (line ∷ lines) = with_line reading n line (read_from reading (n + 1) lines)

-- what the lines of a text say, or its first line, from 1, that is out of form
abbrev pub lines_read : {X : Type 0} → (List ℕ → Option X) → List ℕ → Result (List X) PlanRefusal
lines_read reading bytes = read_from reading 1 (lines_of bytes)
