-- What is seen of a history that is followed. Own.
use Rattle.std.specs.Prelude.{List}
use Rattle.mw_types.specs.declared.entry.Entry.{Entry}
use Rattle.run_history.specs.Cases.{CaseShape}

-- the case of a run, and its history so far
pub record StandingView : Type 0 where
  pub case : CaseShape
  pub history : List Entry
