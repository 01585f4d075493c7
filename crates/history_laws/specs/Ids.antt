-- What the ids of a history tell. Own.
use Rattle.std.specs.Prelude.{◌≡◌, ◌≤◌, ◌⊎◌, ℕ, Bool, false, not, List, filter, slice_get, Some, All, Any, Contains, IsTrue, IsSome}
use Rattle.mw_types.specs.declared.identity.RecordId.{RecordId}
use Rattle.mw_types.specs.declared.identity.RowName.{RowName}
use Rattle.mw_types.specs.declared.delivery.Delivery.{Delivery}
use Rattle.mw_types.specs.declared.entry.Entry.{Entry}
use Rattle.topology.specs.Shapes.{Shape, feeds_of}
use Rattle.row_parts.specs.Contents.{found_delivery}
use Rattle.run_history.specs.Made.{row_written}
use Rattle.run_history.specs.Runs.{Run, row_of}
use Rattle.run_history.specs.Finished.{is_handled, is_acknowledged}

-- whether a delivery is not handled in a history
abbrev pub is_left : List Entry → Delivery → Bool
is_left history d = not (is_handled d.id history)

-- whether a delivery is not acknowledged in a history
abbrev pub is_unacknowledged : List Entry → Delivery → Bool
is_unacknowledged history d = not (is_acknowledged d.id history)

-- each record that is handled was made, and what waits is what was made and is not handled
pub record TellsWhatWaits (history : List Entry) (run : Run) : Type 0 where
  pub handled : (id : RecordId) → IsTrue (is_handled id history) → IsSome (found_delivery id run.made)
  pub waiting : run.unhandled ≡ filter (is_left history) run.made

-- a delivery is pending in a row, of a part that feeds the part to which it goes
pub record IsSentBy (shape : Shape) (run : Run) (d : Delivery) : Type 0 where
  pub sender : RowName
  pub pending : found_delivery d.id (row_of shape run sender).pending ≡ Some d
  pub feeds : Contains (feeds_of shape d.to.part) sender.part

-- the entry that made a delivery is on this row
pub record IsMadeOn (history : List Entry) (name : RowName) (d : Delivery) : Type 0 where
  pub entry : Entry
  pub numbered : slice_get history d.id.commit ≡ Some entry
  pub on_row : row_written entry ≡ Some name

-- the floor is at most the commit number of each delivery that was made and is not acknowledged, and is
-- that of one of them, or the next number where there is none
pub record IsFloor (history : List Entry) (run : Run) (floor : ℕ) : Type 0 where
  pub at_most : All (λ (d : Delivery). is_acknowledged d.id history ≡ false → floor ≤ d.id.commit)
      run.made
  pub reached : (floor ≡ run.next)
      ⊎ Any (λ (d : Delivery). (is_acknowledged d.id history ≡ false) × (d.id.commit ≡ floor))
      run.made
