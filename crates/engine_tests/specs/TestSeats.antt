-- The seats of the tests. Only tests cite this module.
use Rattle.std.specs.Prelude.{◌≡◌, ◌<◌, ◌≤◌, ℕ, List, Some, length, slice_get, true}
use Rattle.atomic_table.specs.Seated.{TableId}
use Rattle.key_intervals.specs.declared.bounds.Bounds.{Bounds}
use Rattle.topology.specs.Shapes.{Shape, parts_of}
use Rattle.run_history.specs.Cases.{CaseShape, intervals_of}
use Rattle.run_history.specs.Runs.{Run}
use Rattle.run_history.specs.Watermarks.{low_watermark}
use Rattle.watermark.specs.Marks.{mark_of}
use Rattle.book.specs.Books.{LeaseView}
use Rattle.book.specs.Desks.{DeskView}
use Rattle.shared_book.specs.declared.views.View.{View}
use Rattle.shared_book.specs.FenceLaw.{Slot}
use Rattle.shared_book.specs.Lists.{IsIn}
use Rattle.atomic_table.specs.declared.shared.Seat.{Seat}
use Rattle.shared_book.specs.Turns.{IsHere, IsIdle}

-- a seat of this table that holds no turn, of so many seats, with these numbers
pub record IsAtRest (id : TableId) (shape : CaseShape) (seats : ℕ) (numbers : List ℕ)
    (seat : Seat Slot View) : Type 0 where
  pub here : IsHere id shape seat
  pub idle : IsIdle seat.me
  pub of_seats : seat.me.0.basis.seats ≡ seats
  pub has_numbers : seat.me.0.numbers ≡ numbers

-- a desk went on: it is of the same case, tells as much as before, and may still use the leases that it could
pub record GoesOn (old new : DeskView) : Type 0 where
  pub case : new.case ≡ old.case
  pub told : new.told ≡ old.told
  pub leases : (lease : LeaseView) → old.leases lease ≡ true → new.leases lease ≡ true

-- a seat went on: its book tells as much as before, and it has seen no less and has the leases that it had
pub record HasGoneOn (old new : View) : Type 0 where
  pub told : new.basis.told ≡ old.basis.told
  pub grown : length old.front ≤ length new.front
  pub leases : (lease : LeaseView) → IsIn lease old.leases → IsIn lease new.leases

-- ---- marks that a seat had loaded

-- a mark is at most each mark that was loaded of a part's intervals
abbrev pub IsUnderLoaded : Shape → List ℕ → ℕ → ℕ → Type 0
IsUnderLoaded shape marks part mark = (interval : ℕ) (bounds : Bounds) →
    slice_get (intervals_of shape) interval ≡ Some bounds → bounds.part ≡ part → mark ≤ mark_of marks interval

-- each such mark is at most the part's low watermark
abbrev pub AreLoadedUnderLow : CaseShape → Run → List ℕ → Type 0
AreLoadedUnderLow case run marks = (part mark : ℕ) → part < parts_of case.topology →
    IsUnderLoaded case.topology marks part mark → mark ≤ low_watermark case run part
