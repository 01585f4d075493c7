-- What holds of marks and of the floor between any two atomic steps, whoever raised them.
-- Akidau et al., VLDB 2013, section 4.5: each worker reports on its intervals, and a low watermark is the least of the
-- oldest work and of the inputs' marks. Own: marks are words that only rise, and a seat raises one by what it settled
-- when it last gave the turn back.
use Rattle.std.specs.Prelude.{◌≡◌, ◌≤◌, ℕ, suc, min, List, take, length, slice_get, Some, IfSome, All}
use Rattle.mw_types.specs.declared.entry.Entry.{Entry}
use Rattle.key_intervals.specs.declared.bounds.Bounds.{Bounds}
use Rattle.topology.specs.Shapes.{feeds_of}
use Rattle.run_history.specs.Cases.{CaseShape, intervals_of}
use Rattle.run_history.specs.Runs.{run_of}
use Rattle.run_history.specs.Legal.{floor_of}
use Rattle.run_history.specs.Fences.{IsCurrent}
use Rattle.run_history.specs.Marks.{own_work, work_above}
use Rattle.watermark.specs.Marks.{mark_of}
use Rattle.book.specs.Marks.{AreSafe}
use Rattle.shared_book.specs.declared.views.Basis.{Basis}
use Rattle.shared_book.specs.declared.views.Settled.{Settled}
use Rattle.shared_book.specs.declared.views.View.{View}
use Rattle.shared_book.specs.Lists.{Everywhere}
use Rattle.shared_book.specs.Places.{place_of}

-- what is settled of an interval is vouched for: the own work has not fallen below the lesser of what it was then and
-- of the input mark, and the input mark is at most the work of each part that feeds the interval
pub record IsVouched (case : CaseShape) (history : List Entry) (bounds : Bounds) (place : Settled) : Type 0 where
  pub own : min (own_work case (run_of case.topology (take place.base history)) bounds) place.input
      ≤ own_work case (run_of case.topology history) bounds
  pub inputs : All (λ (feeding : ℕ). place.input ≤ work_above case (run_of case.topology history) feeding)
      (feeds_of case.topology bounds.part)

-- what is settled of one interval, by one who has seen so much
pub record IsSettled (basis : Basis) (history front : List Entry) (interval : ℕ) (place : Settled) : Type 0 where
  -- it was seen
  pub within : place.base ≤ length front
  -- its lease was the last of the interval then: so the rows by that much of the history are the lease's
  pub last : (seq : ℕ) → place.claim ≡ suc seq → IsCurrent interval seq (take place.base front)
  pub vouched : IfSome basis.told (λ _. (bounds : Bounds) →
      slice_get (intervals_of basis.case.topology) interval ≡ Some bounds → IsVouched basis.case history bounds place)

-- what a view has settled
abbrev pub HasSettled : Basis → List Entry → View → Type 0
HasSettled basis history v = (interval : ℕ) → IsSettled basis history v.front interval (place_of v.settled interval)

-- what a view has loaded is at most the words
pub record HasLoaded (floor : ℕ) (marks : List ℕ) (v : View) : Type 0 where
  pub each : (interval : ℕ) → mark_of v.marks interval ≤ mark_of marks interval
  pub low : v.floor ≤ floor

-- the law of marks: each mark is safe where a contract can see the keeper's rows, the floor is at most the history's,
-- what was loaded is at most the words, and what was settled is vouched for
pub record MarksLaw (basis : Basis) (history : List Entry) (floor : ℕ) (marks : List ℕ)
    (views : List View) : Type 0 where
  pub under_floor : floor ≤ floor_of (run_of basis.case.topology history)
  pub safe : IfSome basis.told (λ _. AreSafe basis.case (run_of basis.case.topology history) marks)
  pub loaded : Everywhere views (HasLoaded floor marks)
  pub settled : Everywhere views (HasSettled basis history)
