-- The steps of a sweep. No public clause cites this module.
use Rattle.std.specs.Prelude.{◌≡◌, ◌<◌, ◌++◌, ℕ, true, List, Option, Some, IfSome, All, Any, Contains}
use Rattle.std.specs.Ordering.{is_eq}
use Rattle.mw_types.specs.declared.identity.RowName.{RowName}
use Rattle.row_parts.specs.Contents.{ArePending, Contents}
use Rattle.run_history.specs.Runs.{cached, row_in}
use Rattle.holdings.specs.Holding.{HeldView, held_at}
use Rattle.holdings.specs.Pendings.{IsPendingAmong}
use Rattle.holdings.specs.declared.pending.Sent.{Sent}
use Rattle.node.specs.Answers.{IsSweep, again_cmp}

-- ---- what is pending

-- a record is pending in a row that is held of an interval
pub record IsPendingAt (all : List (Option HeldView)) (interval : ℕ) (sent : Sent) : Type 0 where
  pub held : HeldView
  pub there : held_at all interval ≡ Some held
  pub pending : IsPendingAmong held.rows sent

-- what is pending in a row that is cached can be kept
abbrev pub IsVouchedRow : HeldView → RowName → Type 0
IsVouchedRow held name = IfSome (row_in (cached held.rows) name) (λ (row : Contents). ArePending row.pending)

-- what is pending in the row of a record's sender can be kept
abbrev pub IsVouched : HeldView → Sent → Type 0
IsVouched held sent = IsVouchedRow held sent.sender

-- a record is pending in a row that is held of an interval, and can be kept
pub record IsFoundAt (all : List (Option HeldView)) (interval : ℕ) (sent : Sent) : Type 0 where
  pub at : IsPendingAt all interval sent
  pub vouched : IsVouched at.held sent

-- all that is pending in what is held of an interval stands behind what was there
pub record HasFoundAt (all : List (Option HeldView)) (interval : ℕ) (before after : List Sent) : Type 0 where
  pub found : List Sent
  pub appended : after ≡ before ++ found
  pub each : All (IsFoundAt all interval) found
  pub every : (sent : Sent) → IsPendingAt all interval sent → Contains found sent

-- all that is pending in what is held of the first intervals, and nothing else
pub record AreFoundBelow (all : List (Option HeldView)) (count : ℕ) (found : List Sent) : Type 0 where
  pub each : All (λ (sent : Sent). (interval : ℕ) × IsFoundAt all interval sent) found
  pub every : (interval : ℕ) (sent : Sent) → interval < count → IsPendingAt all interval sent →
      Contains found sent

-- ---- each once

-- of records that have the same place in the order one is left, and no other is there
pub record IsOnceOf (before after : List Sent) : Type 0 where
  pub each : (sent : Sent) → Contains after sent → Contains before sent
  pub every : (sent : Sent) → Contains before sent →
      Any (λ (other : Sent). is_eq (again_cmp sent other) ≡ true) after

-- ---- what is sent again

-- records are sent again as in a sweep, and each can be kept
pub record AreAgain (all : List (Option HeldView)) (again : List Sent) : Type 0 where
  pub sweep : IsSweep all again
  pub each : All (λ (sent : Sent). (interval : ℕ) × IsFoundAt all interval sent) again
