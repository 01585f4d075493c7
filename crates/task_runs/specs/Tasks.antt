-- What a task names before its drain, and what is to be written of it. Own.
use Rattle.std.specs.Prelude.{ℕ, Bool, true, false, if◌then◌else◌, All}
use Rattle.command_line.specs.Grammar.{AreSizes}
use Rattle.topology.specs.Shapes.{Shape}
use Rattle.plans.specs.Steps.{IsStep}
use Rattle.plans.specs.Plans.{IsAction}
use Rattle.task_runs.specs.declared.task.Before.{Before}
use Rattle.task_runs.specs.declared.task.Before.TheVariants.{Steps, Rounds}
use Rattle.task_runs.specs.declared.task.Wanted.{Wanted}
use Rattle.task_runs.specs.declared.task.Wanted.TheVariants as wanted

-- what comes before the drain names parts, intervals, workers and relays that are there, of which relays there
-- are so many, and its numbers are within their limits
abbrev pub AreThere : Shape → ℕ → Before → Type 0
AreThere shape weaks (Steps steps) = All (IsStep shape weaks) steps
AreThere shape weaks (Rounds workers rounds actions) =
    AreSizes workers rounds × All (IsAction shape workers rounds) actions

-- whether it is rounds of workers
abbrev pub is_rounds : Before → Bool
is_rounds (Steps steps) = false
is_rounds (Rounds workers rounds actions) = true

-- ---- what is to be done

-- each result is written at once where that is asked for, and else the lines of the history before its result
-- where these are
abbrev pub wanted_of : Bool → Bool → Wanted
wanted_of history live = if live then wanted.EachAtOnce
    else if history then wanted.HistoryFirst else wanted.ResultAlone

-- whether each result is to be written at once
abbrev pub is_at_once : Wanted → Bool
is_at_once wanted.EachAtOnce = true
is_at_once _ = false
