-- What the steps on marks and on the floor do to the view of the seat that makes them: each is one load, or one
-- raise of a word to the greater of two numbers.
-- Akidau et al., VLDB 2013, section 4.5, where each worker reports on its intervals. Own: a mark is a word, which
-- a seat raises without the turn.
use Rattle.std.specs.Prelude.{◌≡◌, ◌≤◌, ◌-◌, ℕ, suc, max, take, slice_get, Some, IfSome}
use Rattle.atomic_table.specs.Table.{Step}
use Rattle.key_intervals.specs.declared.bounds.Bounds.{Bounds}
use Rattle.run_history.specs.Cases.{intervals_of}
use Rattle.run_history.specs.Runs.{run_of}
use Rattle.run_history.specs.Legal.{floor_of}
use Rattle.run_history.specs.Marks.{own_work}
use Rattle.watermark.specs.Marks.{mark_of}
use Rattle.book.specs.Books.{LeaseView}
use Rattle.shared_book.specs.declared.views.View.{View}
use Rattle.shared_book.specs.Lists.{IsIn}
use Rattle.shared_book.specs.FenceLaw.{Slot}
use Rattle.shared_book.specs.Places.{input_under, place_of, with_mark_loaded, with_floor_loaded}
use Rattle.shared_book.specs.Steps.{SeatView, idle}

-- ---- a mark

-- a seat loads a mark, whose word is behind the first three: it is not below what the seat had loaded
abbrev pub LoadsMark : Step Slot → SeatView → ℕ → SeatView → Type 0
LoadsMark step seat found after = (3 ≤ step.word) × (step.first ≡ 0) × (mark_of seat.0.marks (step.word - 3) ≤ found)
    × (after ≡ (with_mark_loaded seat.0 (step.word - 3) found, seat.1))

-- a number may be raised to by a lease: it is at most the lesser of the own work by what is settled, and of the input
-- mark
pub record MayRaise (v : View) (lease : LeaseView) (mark : ℕ) : Type 0 where
  pub held : IsIn lease v.leases
  pub input : mark ≤ input_under v lease
  pub own : IfSome v.basis.told (λ _. (bounds : Bounds) →
      slice_get (intervals_of v.basis.case.topology) lease.interval ≡ Some bounds →
      mark ≤ own_work v.basis.case
      (run_of v.basis.case.topology (take (place_of v.settled lease.interval).base v.front)) bounds)

-- a seat raises the mark of a lease's interval, to what it may
abbrev pub RaisesMark : Step Slot → SeatView → ℕ → SeatView → Type 0
RaisesMark step seat found after = (3 ≤ step.word) × (mark_of seat.0.marks (step.word - 3) ≤ found)
    × ((lease : LeaseView) × (lease.interval ≡ step.word - 3) × MayRaise seat.0 lease step.first)
    × (after ≡ (with_mark_loaded seat.0 (step.word - 3) (max found step.first), seat.1))

-- ---- the floor

-- a seat loads the floor: it is not below what the seat had loaded
abbrev pub LoadsFloor : Step Slot → SeatView → ℕ → SeatView → Type 0
LoadsFloor step seat found after = (step.word ≡ 2) × (step.first ≡ 0) × (seat.0.floor ≤ found)
    × (after ≡ (with_floor_loaded seat.0 found, seat.1))

-- the seat with the turn raises the floor to that of the history, which is then the word
abbrev pub RaisesFloor : Step Slot → SeatView → ℕ → SeatView → Type 0
RaisesFloor step seat found after = (step.word ≡ 2)
    × (step.first ≡ floor_of (run_of seat.0.basis.case.topology seat.0.front)) × (found ≤ step.first)
    × (after ≡ (with_floor_loaded seat.0 step.first, seat.1))

-- the view of a seat that raised the floor and gave the turn back
abbrev pub released : View → View
released v = idle (with_floor_loaded v (floor_of (run_of v.basis.case.topology v.front)))

-- ---- what a raise asks

-- what is handed in is the own work of a lease's interval by its settled rows, where told and where the seat has no
-- newer lease of it
abbrev pub IsOwnSettled : View → LeaseView → ℕ → Type 0
IsOwnSettled v lease own = IfSome v.basis.told (λ _. (bounds : Bounds) →
    slice_get (intervals_of v.basis.case.topology) lease.interval ≡ Some bounds →
    (place_of v.settled lease.interval).claim ≡ suc lease.seq →
    own ≡ own_work v.basis.case
    (run_of v.basis.case.topology (take (place_of v.settled lease.interval).base v.front)) bounds)
