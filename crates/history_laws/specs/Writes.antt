-- A write that was worked out on a beginning of the history. Own.
use Rattle.std.specs.Prelude.{ℕ, List, ◌++◌}
use Rattle.mw_types.specs.declared.entry.Entry.{Entry}
use Rattle.run_history.specs.Cases.{CaseShape}
use Rattle.run_history.specs.Runs.{run_of}
use Rattle.run_history.specs.Legal.{MayFollow, IsLegal}
use Rattle.run_history.specs.Fences.{IsFenced, HasSeen, IsWriteUnder}

-- the history is legal and fenced
pub record IsLegalAndFenced (case : CaseShape) (history : List Entry) : Type 0 where
  pub legal : IsLegal case history
  pub fenced : IsFenced case.topology history

-- an entry was worked out on a beginning of a legal and fenced history that has seen the last claim of an
-- interval: it is a write under that claim, and may follow the beginning
pub record IsSeenWrite (case : CaseShape) (front rest : List Entry) (interval seq : ℕ)
    (entry : Entry) : Type 0 where
  pub history : IsLegalAndFenced case (front ++ rest)
  pub seen : HasSeen interval seq front rest
  pub under : IsWriteUnder case.topology interval seq entry
  pub may : MayFollow case (run_of case.topology front) entry
