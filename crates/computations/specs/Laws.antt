-- What every computation keeps to, whatever its handlers do. Own.
use Rattle.std.specs.Prelude.{◌≡◌, ℕ, ◌<◌, ◌≤◌, ◌^◌, false, List, [], length, All, ⊤}
use Rattle.mw_types.specs.declared.TheConstants.{MAX_STAMP}
use Rattle.mw_types.specs.declared.state.State.{State}
use Rattle.mw_types.specs.declared.state.State.TheVariants as states
use Rattle.mw_types.specs.declared.record.Production.{Production}
use Rattle.mw_types.specs.declared.timer.Timer.{Timer}
use Rattle.mw_types.specs.Bounds.{IsWithin}
use Rattle.mw_types.specs.Outcomes.{EffectsView, AreEffects}
use Rattle.computations.specs.Handlers.{Cause, stamp_of, is_late_cause, is_record}

-- no list of the state has grown too long to be kept
abbrev pub IsShort : State → Type 0
IsShort (states.Count late windows) = length windows < 2 ^ 32
IsShort (states.Spike late held known) = length held < 2 ^ 32
IsShort _ = ⊤

-- what the handlers of a topology's parts do: which states the rows of a part may have,
-- and what a part leaves of a cause, by its row's key and state
pub record Doings : Type 1 where
  pub has : ℕ → State → Type 0
  pub gives : ℕ → List ℕ → State → Cause → EffectsView

-- what a cause may bring about in a row that may have such states
pub record IsLawful (cause : Cause) (MayHave : State → Type 0) (o : EffectsView) : Type 0 where
  -- the row may have the new state, and it is within bounds unless a list has grown too long
  pub kept : MayHave o.state
  pub within : IsShort o.state → AreEffects o.state o.timers o.productions
  -- timers are due no earlier than the cause, and are as late
  pub timers_after : All (λ (t : Timer). stamp_of cause ≤ t.time) o.timers
  pub timers_as_late : All (λ (t : Timer). t.late ≡ is_late_cause cause) o.timers
  pub few_timers : length o.timers ≤ 8
  -- productions are no earlier than the cause
  pub productions_after : All (λ (p : Production). stamp_of cause ≤ p.stamp) o.productions
  pub few_productions : length o.productions ≤ 8

-- what each cause leaves is lawful, in a row that is within bounds and may have its state
abbrev pub AreLawful : {C : Type 0} → (C → Doings) → Type 0
AreLawful {C} does = (c : C) (part : ℕ) (key : List ℕ) (state : State) (cause : Cause) →
    (does c).has part state → IsWithin state → stamp_of cause ≤ MAX_STAMP →
    IsLawful cause ((does c).has part) ((does c).gives part key state cause)

-- what is no record sets no timer
abbrev pub SetNoneUnlessRecords : {C : Type 0} → (C → Doings) → Type 0
SetNoneUnlessRecords {C} does = (c : C) (part : ℕ) (key : List ℕ) (state : State) (cause : Cause) →
    (does c).has part state → IsWithin state → stamp_of cause ≤ MAX_STAMP → is_record cause ≡ false →
    ((does c).gives part key state cause).timers ≡ []
