-- The state of each row of a legal history is within bounds, where the history is not too long.
use Rattle.std.proofs.Common.{◌≡◌, ◌+◌, ◌<◌, ◌≤◌, ◌^◌, Option, Some, None, List, sym, subst, arith}
use Rattle.std.specs.Option.{option_map_or}
use Rattle.mw_types.specs.declared.identity.RowName.{RowName}
use Rattle.mw_types.specs.declared.kind.Kind.{Kind}
use Rattle.mw_types.specs.declared.kind.Kind.TheVariants as kinds
use Rattle.mw_types.specs.declared.state.State.{State}
use Rattle.mw_types.specs.declared.state.State.TheVariants as states
use Rattle.mw_types.specs.declared.delivery.Delivery.{Delivery}
use Rattle.mw_types.specs.declared.entry.Entry.{Entry}
use Rattle.mw_types.specs.declared.entry.Entry.TheVariants.{Inject, Handle, Fire}
use Rattle.mw_types.specs.Bounds.{IsWithin}
use Rattle.mw_types.specs.Outcomes.{EffectsView}
use Rattle.topology.specs.Shapes.{kind_of}
use Rattle.computations.specs.Handlers.{Cause, fresh_state}
use Rattle.computations.specs.Laws.{IsShort}
use Rattle.computations.specs.Leaving.{size_of}
use Rattle.row_parts.specs.Contents.{Contents}
use Rattle.run_history.specs.Cases.{CaseShape}
use Rattle.run_history.specs.Made.{row_written, deliveries_of}
use Rattle.run_history.specs.Runs.{Run, run_of, row_of, followed, changed, advanced}
use Rattle.run_history.specs.Legal.{MayFollow, IsLegal}
use Rattle.run_history.specs.Inputs.{IsRunnable}
use Rattle.run_history.proofs.Fitting.{IsWithin-fresh_state}
use Rattle.history_laws.proofs.Along.{along_history}
use Rattle.history_laws.proofs.FeedLaws.{kind-ranged}
use Rattle.history_laws.proofs.FitLaws.{AreOfKind, AreOfKind-followed, of_kind, AreOfKind-empty}
use Rattle.history_laws.proofs.Caused.{IsCaused, caused-handle, caused-fire}
use Rattle.history_laws.proofs.RowSteps.{row_of-step}
use Rattle.history_laws.proofs.StampLaws.{AreInTime, AreInTime-followed, caused-in_time}

-- a state of few elements is short
short-few : (state : State) → size_of state < 2 ^ 32 → IsShort state
short-few (states.Injector cursor) few = tt
short-few (states.Count late windows) few = few
short-few (states.Spike late held known) few = few
short-few (states.Pass late) few = tt

-- ---- all together

-- no state has more elements than there are entries, and each is within bounds where there are few entries
pub record AreStatesWithin (case : CaseShape) (run : Run) : Type 0 where
  pub sizes : (name : RowName) → size_of (row_of case.topology run name).state ≤ run.next
  pub within : (name : RowName) → run.next < 2 ^ 32 → IsWithin (row_of case.topology run name).state

-- an injector's next state has one more line
advanced-size : (state : State) → size_of (advanced state) ≤ size_of state + 1
advanced-size (states.Injector cursor) = omega arith
advanced-size (states.Count late windows) = omega arith
advanced-size (states.Spike late held known) = omega arith
advanced-size (states.Pass late) = omega arith

-- the state that a cause leaves has at most one more element
caused-size : (case : CaseShape) (run : Run) (entry : Entry) (sent : List Delivery) (name : RowName) (cause : Cause)
    (effects : EffectsView) → IsCaused case run entry name cause effects
    → size_of (changed entry sent (row_of case.topology run name)).state ≤ size_of (row_of case.topology run name).state + 1
caused-size case run entry sent name cause effects caused =
    subst (λ (s : State). size_of s ≤ size_of (row_of case.topology run name).state + 1)
    (sym (caused.left sent (row_of case.topology run name))) caused.outcome.leaves.left.size

-- the state that an entry leaves has at most one more element
changed-size : (case : CaseShape) (run : Run) (entry : Entry) (sent : List Delivery) (name : RowName) → MayFollow case run entry
    → row_written entry ≡ Some name
    → size_of (changed entry sent (row_of case.topology run name)).state ≤ size_of (row_of case.topology run name).state + 1
changed-size case run (Inject seq part line item) sent name may written = advanced-size (row_of case.topology run name).state
changed-size case run (Handle seq row id effects) sent name may written =
    caused-size case run _ sent name _ effects (caused-handle case run seq row id effects name may written)
changed-size case run (Fire seq row timer mark effects) sent name may written =
    caused-size case run _ sent name _ effects (caused-fire case run seq row timer mark effects name may written)
changed-size case run _ sent name may written = omega arith

-- an injector's next state is within bounds where its cursor is
advanced-within : (state : State) → IsWithin state → size_of (advanced state) < 2 ^ 32 → IsWithin (advanced state)
advanced-within (states.Injector cursor) within few = few
advanced-within (states.Count late windows) within few = within
advanced-within (states.Spike late held known) within few = within
advanced-within (states.Pass late) within few = within

-- the state that a cause leaves is within bounds, where it is short
caused-within : (case : CaseShape) (run : Run) (entry : Entry) (sent : List Delivery) (name : RowName) (cause : Cause)
    (effects : EffectsView) → IsCaused case run entry name cause effects → IsRunnable case → AreOfKind case run → AreInTime run
    → IsWithin (row_of case.topology run name).state → size_of (changed entry sent (row_of case.topology run name)).state < 2 ^ 32
    → IsWithin (changed entry sent (row_of case.topology run name)).state
caused-within case run entry sent name cause effects caused runs are in_time within few =
    let row : Contents = row_of case.topology run name in
    let outcome = caused.outcome in
    let same = caused.left sent row in
    let few_left = subst (λ (s : State). size_of s < 2 ^ 32) same few in
    subst IsWithin (sym same)
    (outcome.leaves.left.within (kind-ranged case.topology name.part outcome.kind runs.topology outcome.of_part)
    (of_kind case.topology name.part outcome.kind row.state outcome.of_part (are.states name))
    (caused-in_time case run entry name cause effects in_time caused) within (short-few effects.state few_left))

-- the state that an entry leaves is within bounds, where it is short
changed-within : (case : CaseShape) (run : Run) (entry : Entry) (sent : List Delivery) (name : RowName) → IsRunnable case
    → AreOfKind case run → AreInTime run → MayFollow case run entry
    → row_written entry ≡ Some name → ((row : RowName) → IsWithin (row_of case.topology run row).state)
    → size_of (changed entry sent (row_of case.topology run name)).state < 2 ^ 32
    → IsWithin (changed entry sent (row_of case.topology run name)).state
changed-within case run (Inject seq part line item) sent name runs are in_time may written within few = advanced-within
    (row_of case.topology run name).state (within name) few
changed-within case run (Handle seq row id effects) sent name runs are in_time may written within few =
    caused-within case run _ sent name _ effects (caused-handle case run seq row id effects name may written) runs are in_time (within name)
    few
changed-within case run (Fire seq row timer mark effects) sent name runs are in_time may written within few =
    caused-within case run _ sent name _ effects (caused-fire case run seq row timer mark effects name may written) runs are in_time
    (within name) few
changed-within case run _ sent name runs are in_time may written within few = within name

-- what stands after a history, for its states
pub record AreBounded (case : CaseShape) (run : Run) : Type 0 where
  pub kinds : AreOfKind case run
  pub in_time : AreInTime run
  pub states : AreStatesWithin case run

-- one more entry keeps states within bounds
AreBounded-followed : (case : CaseShape) (run : Run) (entry : Entry) → IsRunnable case → AreBounded case run → MayFollow case run entry
    → AreBounded case (followed case.topology run entry)
AreBounded-followed case run entry runs are may = record {
  kinds = AreOfKind-followed case run entry are.kinds may;
  in_time = AreInTime-followed case run entry runs are.in_time may;
  states = record { sizes = after_size; within = after_within };
}
  where
    sent : List Delivery
    sent = deliveries_of case.topology run.made run.next entry

    after_size : (name : RowName) → size_of (row_of case.topology (followed case.topology run entry) name).state ≤ run.next + 1
    after_size name = row_of-step case.topology run entry name (λ (c : Contents). size_of c.state ≤ run.next + 1)
        (let old = are.states.sizes name in omega (arith, old))
        (λ written. let old = are.states.sizes name in let more = changed-size case run entry sent name may written in
        omega (arith, old, more))

    after_within : (name : RowName) → run.next + 1 < 2 ^ 32 → IsWithin (row_of case.topology (followed case.topology run entry) name).state
    after_within name few = row_of-step case.topology run entry name (λ (c : Contents). IsWithin c.state)
        (are.states.within name (omega (arith, few)))
        (λ written. changed-within case run entry sent name runs are.kinds are.in_time may written
        (λ row. are.states.within row (omega (arith, few)))
        (let old = are.states.sizes name in let more = changed-size case run entry sent name may written in omega (arith, old, more, few)))

-- a fresh state has no elements
fresh-size : (kind : Kind) → size_of (fresh_state kind) ≤ 0
fresh-size (kinds.Count size) = omega arith
fresh-size (kinds.Spike last times) = omega arith
fresh-size kinds.Pass = omega arith

-- after each legal history no state has more elements than there are entries, and each is within bounds where there are few entries
pub legal-bounded : (case : CaseShape) (history : List Entry) → IsRunnable case → IsLegal case history
    → AreBounded case (run_of case.topology history)
legal-bounded case history runs = along_history case (λ done run. AreBounded case run)
    (λ done run entry are may. AreBounded-followed case run entry runs are may)
    (record {
      kinds = AreOfKind-empty case;
      in_time = record { made = tt; waiting = tt; timers = tt };
      states = record {
        sizes = λ name. first_size (kind_of case.topology name.part);
        within = λ name few. first_within
            (kind_of case.topology name.part);
      };
    }) history
  where
    first_size : (o : Option Kind) → size_of (option_map_or fresh_state o (states.Injector 0)) ≤ 0
    first_size None = omega arith
    first_size (Some kind) = fresh-size kind

    first_within : (o : Option Kind) → IsWithin (option_map_or fresh_state o (states.Injector 0))
    first_within None = omega arith
    first_within (Some kind) = IsWithin-fresh_state kind
