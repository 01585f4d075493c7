-- The steps by which a node finds the timer that fires. Of this module public clauses cite which timer it may
-- fire, that the rows that are cached lie in their intervals, and what a handler leaves of a timer of a row.
use Rattle.std.specs.Prelude.{◌≡◌, ◌<◌, ℕ, Bool, true, false, List, Option, Some, None, if◌then◌else◌, nat_le, slice_get}
use Rattle.std.specs.Ordering.{is_lt}
use Rattle.mw_types.specs.Outcomes.{EffectsView}
use Rattle.mw_types.specs.declared.identity.RowName.{RowName}
use Rattle.mw_types.specs.declared.timer.Timer.{Timer}
use Rattle.key_intervals.specs.declared.bounds.Bounds.{Bounds}
use Rattle.topology.specs.Shapes.{Shape}
use Rattle.row_parts.specs.Contents.{Contents}
use Rattle.run_history.specs.Cases.{CaseShape}
use Rattle.computations.specs.Handlers.{OfTimer}
use Rattle.run_history.specs.Legal.{outcome_of}
use Rattle.run_history.specs.Runs.{cached, row_in}
use Rattle.holdings.specs.Firsts.{HasPicked}
use Rattle.holdings.specs.Holding.{HeldView, held_at}
use Rattle.holdings.specs.Timers.{due_cmp, pair_of, timer_of}
use Rattle.holdings.specs.declared.first_timer.RowTimer.{RowTimer}
use Rattle.node.specs.Asking.{IsNextTimer}
use Rattle.node.specs.PurgeSteps.{AreRowsWithin}
use Rattle.node.specs.Workers.{NodeView}
use Rattle.node.specs.Works.{IsStateThere}

-- the next timer of a part that a node may fire under a mark, or none where it may fire none
abbrev pub IsTimerToFire : Shape → NodeView → ℕ → ℕ → Option RowTimer → Type 0
IsTimerToFire shape node part mark None = (name : RowName) (timer : Timer) →
    IsNextTimer shape node part mark name timer → ⊥
IsTimerToFire shape node part mark (Some found) = IsNextTimer shape node part mark found.name found.timer

-- the rows that are cached of each interval lie in it
abbrev pub AreAllWithin : Shape → List (Option HeldView) → Type 0
AreAllWithin shape all = (interval : ℕ) → AreRowsWithin shape interval (held_at all interval)

-- ---- the least of some timers

-- of some timers the least, or none where there is none
abbrev pub IsLeastTimer : (RowName × Timer → Type 0) → Option RowTimer → Type 0
IsLeastTimer IsOne None = (other : RowName × Timer) → IsOne other → ⊥
IsLeastTimer IsOne (Some found) = IsOne (pair_of found)
    × ((other : RowName × Timer) → IsOne other → is_lt (due_cmp other (pair_of found)) ≡ false)

-- of two timers the one that is before
abbrev pub lesser_timer : RowTimer → RowTimer → RowTimer
lesser_timer one other = if is_lt (due_cmp (pair_of other) (pair_of one)) then other else one

-- of two timers, where they are there, the one that is before
abbrev pub earlier_timer : Option RowTimer → Option RowTimer → Option RowTimer
earlier_timer one None = one
earlier_timer None (Some other) = Some other
earlier_timer (Some one) (Some other) = Some (lesser_timer one other)

-- a timer, where it is due under a mark
abbrev pub due_under : ℕ → Option RowTimer → Option RowTimer
due_under mark None = None
due_under mark (Some found) = if nat_le found.timer.time mark then Some found else None

-- ---- the timers of a part

-- a timer is the first of a row of an interval, if that one counts and is held
pub record IsTimerIn (counts : Bool) (all : List (Option HeldView)) (interval : ℕ)
    (found : RowName × Timer) : Type 0 where
  pub counted : counts ≡ true
  pub held : HeldView
  pub there : held_at all interval ≡ Some held
  pub picked : HasPicked timer_of held.rows found

-- a timer is the first of a row of one of the first intervals, which is of a part and is held
pub record IsTimerOf (intervals : List Bounds) (all : List (Option HeldView)) (part count : ℕ)
    (found : RowName × Timer) : Type 0 where
  pub interval : ℕ
  pub early : interval < count
  pub bounds : Bounds
  pub numbered : slice_get intervals interval ≡ Some bounds
  pub of_part : bounds.part ≡ part
  pub set : IsTimerIn true all interval found

-- the least timer of an interval, if that one counts and is held
abbrev pub IsFirstIn : Bool → List (Option HeldView) → ℕ → Option RowTimer → Type 0
IsFirstIn counts all interval found = IsLeastTimer (IsTimerIn counts all interval) found

-- the least timer of a part, of its intervals below a number
abbrev pub IsLeastTimerBelow : List Bounds → List (Option HeldView) → ℕ → ℕ → Option RowTimer → Type 0
IsLeastTimerBelow intervals all part count found = IsLeastTimer (IsTimerOf intervals all part count) found

-- ---- a timer that fires

-- a row that is held of an interval has a timer as its first, and a state of its part's kind
pub record IsSetAt (shape : Shape) (all : List (Option HeldView)) (interval : ℕ) (name : RowName)
    (timer : Timer) : Type 0 where
  pub held : HeldView
  pub there : held_at all interval ≡ Some held
  pub row : Contents
  pub row_there : row_in (cached held.rows) name ≡ Some row
  pub first : slice_get row.timers 0 ≡ Some timer
  pub state : IsStateThere shape name.part row.state

-- a handler left these effects of a timer of a row that is held of an interval
abbrev pub IsLeftByHandler : CaseShape → List (Option HeldView) → ℕ → RowName → Timer → EffectsView → Type 0
IsLeftByHandler case all interval name timer effects = (set : IsSetAt case.topology all interval name timer) →
    outcome_of case name set.row (OfTimer timer) ≡ Some effects
