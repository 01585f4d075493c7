-- When a run is at its end. Own.
use Rattle.std.specs.Prelude.{◌≤◌, ◌^◌, List, length}
use Rattle.mw_types.specs.declared.entry.Entry.{Entry}
use Rattle.run_history.specs.Cases.{CaseShape}
use Rattle.run_history.specs.Finished.{IsFinished}
use Rattle.run_history.specs.Legal.{IsLegal}
use Rattle.run_history.specs.Runs.{run_of}

-- a history is that of a run at its end: it is legal, has at most 2^32 entries, and leaves no work
pub record IsFinishedRun (case : CaseShape) (history : List Entry) : Type 0 where
  pub legal : IsLegal case history
  pub finished : IsFinished case (run_of case.topology history)
  pub few : length history ≤ 2 ^ 32
