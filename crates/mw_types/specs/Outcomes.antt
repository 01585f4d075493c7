-- What a handler leaves. Own.
use Rattle.std.specs.Prelude.{List, All, ◌≤◌}
use Rattle.mw_types.specs.declared.TheConstants.{MAX_STAMP}
use Rattle.mw_types.specs.declared.state.State.{State}
use Rattle.mw_types.specs.declared.timer.Timer.{Timer}
use Rattle.mw_types.specs.declared.record.Production.{Production}
use Rattle.mw_types.specs.Bounds.{IsWithin}

-- the key's new state, the timers that were set and the records that were produced, in order
pub record EffectsView : Type 0 where
  pub state : State
  pub timers : List Timer
  pub productions : List Production

-- what a handler leaves can be kept: its state is within bounds, and nothing is above the greatest timestamp
pub record AreEffects (state : State) (timers : List Timer) (productions : List Production) : Type 0 where
  pub state_within : IsWithin state
  pub times : All (λ (t : Timer). t.time ≤ MAX_STAMP) timers
  pub stamps : All (λ (p : Production). p.stamp ≤ MAX_STAMP) productions
