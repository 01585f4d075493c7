-- What a worker's seat is between two calls. No public clause cites this module.
use Rattle.atomic_table.specs.Seated.{TableId}
use Rattle.atomic_table.specs.declared.shared.Seat.{Seat}
use Rattle.run_history.specs.Cases.{CaseShape}
use Rattle.shared_book.specs.declared.views.View.{View}
use Rattle.shared_book.specs.FenceLaw.{Slot}
use Rattle.shared_book.specs.Turns.{IsHere, IsIdle}

-- a seat of this table that holds no turn
pub record IsSeated (id : TableId) (case : CaseShape) (seat : Seat Slot View) : Type 0 where
  pub here : IsHere id case seat
  pub idle : IsIdle seat.me
