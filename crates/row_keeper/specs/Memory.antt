-- What the keeper in memory is. Own.
use Rattle.std.specs.Prelude.{◌≡◌, ◌↔◌, ℕ, List, Result, Contains, IsErrOf}
use Rattle.mw_types.specs.Causes.{raised, Counts}
use Rattle.row_keeper.specs.Rows.{Rows}
use Rattle.row_keeper.specs.declared.keeper.KeeperFault.{KeeperFault}
use Rattle.row_keeper.specs.declared.keeper.KeeperFault.TheVariants as faults

-- a keeper in memory: its rows, the numbers of the calls that fail, how many calls there were,
-- and how many failed
pub record KeeperView : Type 0 where
  pub rows : Rows
  pub failing : List ℕ
  pub calls : ℕ
  pub faults : ℕ

-- a call fails exactly where its number is one of those that do; each call counts, and each
-- failure once
pub record CountsCall {T : Type 0} (old new : KeeperView) (result : Result T KeeperFault) : Type 0 where
  pub failed : IsErrOf result faults.Failed ↔ Contains old.failing old.calls
  pub calls : new.calls ≡ raised old.calls
  pub faults : Counts (IsErrOf result faults.Failed) old.faults new.faults
  pub failing : new.failing ≡ old.failing
