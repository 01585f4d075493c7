-- Which entry of a choice may come next after a history. Own.
use Rattle.std.specs.Prelude.{◌≡◌, List, Option, Some, None}
use Rattle.mw_types.specs.declared.entry.Entry.{Entry}
use Rattle.run_history.specs.Cases.{CaseShape}
use Rattle.run_history.specs.Runs.{run_of}
use Rattle.run_history.specs.Legal.{MayFollow}
use Rattle.run_history.specs.Fences.{IsUnderLastClaim}
use Rattle.trace_lines.specs.declared.choice.Choice.{Choice}
use Rattle.trace_lines.specs.Choices.{choice_of}

-- an entry is a lawful one after a history: it may follow, and is under the last claim of its row's interval
pub record MayCome (case : CaseShape) (history : List Entry) (entry : Entry) : Type 0 where
  pub may : MayFollow case (run_of case.topology history) entry
  pub under : IsUnderLastClaim case.topology history entry

-- the lawful entry of a choice, or none where no lawful entry has the choice
abbrev pub IsChosen : CaseShape → List Entry → Choice → Option Entry → Type 0
IsChosen case history choice None =
    (entry : Entry) → choice_of entry ≡ choice → MayCome case history entry → ⊥
IsChosen case history choice (Some entry) = (choice_of entry ≡ choice) × MayCome case history entry
