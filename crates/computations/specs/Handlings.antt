-- A handler at work: what it was given, and what it has set and produced. Own.
use Rattle.std.specs.Prelude.{ℕ, ◌≤◌, Bool, List, [], All}
use Rattle.mw_types.specs.declared.TheConstants.{MAX_STAMP}
use Rattle.mw_types.specs.declared.state.State.{State}
use Rattle.mw_types.specs.declared.record.Production.{Production}
use Rattle.mw_types.specs.declared.timer.Timer.{Timer}
use Rattle.mw_types.specs.Outcomes.{EffectsView}
use Rattle.computations.specs.Handlers.{Cause, stamp_of, is_late_cause, is_record}

-- the row's key and state, the cause's timestamp, whether it is late and a record, and what was made so far
pub record Handling : Type 0 where
  pub key : List ℕ
  pub state : State
  pub stamp : ℕ
  pub late : Bool
  pub of_record : Bool
  pub timers : List Timer
  pub productions : List Production

-- a handler that begins has made nothing yet
abbrev pub begun_by : List ℕ → State → Cause → Handling
begun_by key state cause = record {
  key = key;
  state = state;
  stamp = stamp_of cause;
  late = is_late_cause cause;
  of_record = is_record cause;
  timers = [];
  productions = [];
}

-- what the handler leaves if it ends here
abbrev pub effects_made : Handling → EffectsView
effects_made h = record { state = h.state; timers = h.timers; productions = h.productions }

-- the handler, where it ends with this outcome
abbrev pub ended_with : Handling → EffectsView → Handling
ended_with h o = record h { state = o.state; timers = o.timers; productions = o.productions }

-- nothing that was made is above the greatest timestamp
pub record IsInTime (timers : List Timer) (productions : List Production) : Type 0 where
  pub times : All (λ (t : Timer). t.time ≤ MAX_STAMP) timers
  pub stamps : All (λ (p : Production). p.stamp ≤ MAX_STAMP) productions
