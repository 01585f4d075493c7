-- What the reader's own functions say. No public clause cites this module.
use Rattle.std.specs.Prelude.{◌≡◌, Option, Some, None, Result, MatchResult}
use Rattle.command_line.specs.declared.refusal.WordsRefusal.{WordsRefusal}
use Rattle.command_line.specs.declared.refusal.WordsRefusal.TheVariants as refusals

-- an answer is what was looked for, seen so, and a refusal for the words comes only where there is none
abbrev pub Answers : {X Y : Type 0} → (X → Y) → Option Y → Result X WordsRefusal → Type 0
Answers seen sought result = MatchResult result (λ found. sought ≡ Some (seen found))
    (λ refusal. refusal ≡ refusals.Usage → sought ≡ None)
