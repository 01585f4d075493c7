-- What handlers of every kind keep to, whatever they do with a record or a timer.
-- Own; that a computation sets timers and produces no earlier than its cause is of Akidau et al., VLDB 2013,
-- sections 4.4 and 4.5.
use Rattle.std.specs.Prelude.{◌≡◌, ◌<◌, ◌≤◌, ◌+◌, ◌^◌, ℕ, ℤ, true, false, List, [], length, FitsSigned, ⊤}
use Rattle.std.specs.Int.{w64}
use Rattle.std.specs.List.{AllByRecursion}
use Rattle.mw_types.specs.declared.TheConstants.{MAX_STAMP}
use Rattle.mw_types.specs.declared.kind.Kind.{Kind}
use Rattle.mw_types.specs.declared.state.State.{State}
use Rattle.mw_types.specs.declared.state.State.TheVariants as states
use Rattle.mw_types.specs.declared.state.Window.{Window}
use Rattle.mw_types.specs.declared.state.HeldTotal.{HeldTotal}
use Rattle.mw_types.specs.declared.record.Production.{Production}
use Rattle.mw_types.specs.declared.timer.Timer.{Timer}
use Rattle.mw_types.specs.Kinds.{IsKind}
use Rattle.mw_types.specs.Bounds.{IsKey, IsWithin}
use Rattle.mw_types.specs.Outcomes.{EffectsView}
use Rattle.computations.specs.Handlers.{Cause, OfRecord, OfTimer, stamp_of, is_late_cause, is_record, has_kind}
use Rattle.computations.specs.Laws.{IsShort}

-- how many elements the list of a state has that grows, or how far its cursor is
abbrev pub size_of : State → ℕ
size_of (states.Injector cursor) = cursor
size_of (states.Count late windows) = length windows
size_of (states.Spike late held known) = length held
size_of (states.Pass late) = 0

-- a value of 64 bits
abbrev pub Fits : ℤ → Type 0
Fits value = FitsSigned w64 value

-- no count of a state is above the greatest timestamp, and its values have 64 bits
abbrev pub HasValues : State → Type 0
HasValues (states.Count late windows) = AllByRecursion (λ (w : Window). w.count ≤ MAX_STAMP) windows
HasValues (states.Spike late held known) =
    AllByRecursion (λ (h : HeldTotal). Fits h.value) held × AllByRecursion Fits known
HasValues _ = ⊤

-- the value of a record has 64 bits
abbrev pub HasValue : Cause → Type 0
HasValue (OfRecord item) = Fits item.value
HasValue (OfTimer timer) = ⊤

-- the key of a record is one
abbrev pub HasKey : Cause → Type 0
HasKey (OfRecord item) = IsKey item.key
HasKey (OfTimer timer) = ⊤

-- a production with this timestamp may come of a cause: of a record within 2^40 microseconds, of a timer by its time
abbrev pub IsNear : Cause → ℕ → Type 0
IsNear (OfRecord item) stamp = stamp ≤ item.stamp + 2 ^ 40
IsNear (OfTimer timer) stamp = stamp ≤ timer.time

-- a timer that a cause may set: no earlier, by the greatest timestamp, within 2^40 microseconds, and as late
pub record IsTimerAfter (cause : Cause) (t : Timer) : Type 0 where
  pub after : stamp_of cause ≤ t.time
  pub in_time : t.time ≤ MAX_STAMP
  pub near : t.time ≤ stamp_of cause + 2 ^ 40
  pub as_late : t.late ≡ is_late_cause cause

-- a production that a cause may bring about: no earlier, by the greatest timestamp, and near
pub record IsProductionAfter (cause : Cause) (p : Production) : Type 0 where
  pub after : stamp_of cause ≤ p.stamp
  pub in_time : p.stamp ≤ MAX_STAMP
  pub near : IsNear cause p.stamp

-- the state that a cause leaves: no list has grown by more than one, it is of the kind, within bounds unless it has
-- grown too long, and its values have 64 bits
pub record IsStateLeft (kind : Kind) (state : State) (cause : Cause) (left : State) : Type 0 where
  pub size : size_of left ≤ size_of state + 1
  pub kept : has_kind kind state ≡ true → has_kind kind left ≡ true
  pub within : IsKind kind → has_kind kind state ≡ true → stamp_of cause ≤ MAX_STAMP → IsWithin state →
      IsShort left → IsWithin left
  pub values : HasValues state → HasValue cause → HasValues left

-- the timers that a cause sets: each may come of it, they are few, their tags have 64 bits, and only a record sets any
pub record AreTimersLeft (kind : Kind) (cause : Cause) (timers : List Timer) : Type 0 where
  pub each : IsKind kind → stamp_of cause ≤ MAX_STAMP → AllByRecursion (IsTimerAfter cause) timers
  pub few : length timers ≤ 8
  pub tags : AllByRecursion (λ (t : Timer). t.tag < 2 ^ 64) timers
  pub none : is_record cause ≡ false → timers ≡ []

-- what a cause produces: each may come of it, they are few, their keys are the row's or the record's,
-- and their values have 64 bits
pub record AreProductionsLeft (kind : Kind) (key : List ℕ) (state : State) (cause : Cause)
    (productions : List Production) : Type 0 where
  pub each : IsKind kind → stamp_of cause ≤ MAX_STAMP → AllByRecursion (IsProductionAfter cause) productions
  pub few : length productions ≤ 8
  pub keys : IsKey key → HasKey cause → AllByRecursion (λ (p : Production). IsKey p.key) productions
  pub values : HasValues state → HasValue cause → AllByRecursion (λ (p : Production). Fits p.value) productions

-- what a handler of a kind may leave of a cause, in a row with this key and state
pub record Leaves (kind : Kind) (key : List ℕ) (state : State) (cause : Cause) (o : EffectsView) : Type 0 where
  pub left : IsStateLeft kind state cause o.state
  pub timers : AreTimersLeft kind cause o.timers
  pub productions : AreProductionsLeft kind key state cause o.productions
