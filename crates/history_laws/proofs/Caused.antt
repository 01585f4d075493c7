-- What a record or a timer brings about in a row: what entries of both kinds have in common.
use Rattle.std.proofs.Common.{◌≡◌, ◌<◌, ◌≤◌, ℕ, false, true, List, [], ◌∷◌, ◌++◌, length, refl, sym, ap, subst}
use Rattle.std.specs.Prelude.{Option, Some, not, slice_get}
use Rattle.std.specs.List.{AllByRecursion}
use Rattle.std.specs.Option.{option_map_or}
use Rattle.std.specs.Ordering.{match_ordering}
use Rattle.std.specs.declared.cmp.Ordering.TheVariants.{Less, Equal, Greater}
use Rattle.std.proofs.lemmas.Map.Lookups.{exact_unsigned}
use Rattle.list_lemmas.proofs.Lists.{some_same, each-filter, find-each}
use Rattle.list_lemmas.proofs.Places.{each-at}
use Rattle.mw_types.specs.declared.identity.RecordId.{RecordId}
use Rattle.mw_types.specs.declared.identity.RowName.{RowName}
use Rattle.mw_types.specs.declared.record.Record.{Record}
use Rattle.mw_types.specs.declared.record.Production.{Production}
use Rattle.mw_types.specs.declared.timer.Timer.{Timer}
use Rattle.mw_types.specs.declared.kind.Kind.{Kind}
use Rattle.mw_types.specs.declared.delivery.Delivery.{Delivery}
use Rattle.mw_types.specs.declared.entry.Entry.{Entry}
use Rattle.mw_types.specs.declared.entry.Entry.TheVariants.{Handle, Fire}
use Rattle.mw_types.specs.Orders.{timer_cmp}
use Rattle.mw_types.specs.Outcomes.{EffectsView}
use Rattle.topology.specs.Shapes.{parts_of, kind_of}
use Rattle.computations.specs.Handlers.{Cause, OfRecord, OfTimer, is_late_cause, effects_of}
use Rattle.computations.specs.Leaving.{Leaves}
use Rattle.computations.specs.LeavingLaws.{effects-leave}
use Rattle.row_parts.specs.Contents.{Contents, found_delivery, is_timer, same_id, set_again, with_timer}
use Rattle.run_history.specs.Cases.{CaseShape, is_injector}
use Rattle.run_history.specs.Made.{row_written, late_cause, productions_of, deliveries_of, deliveries_made}
use Rattle.run_history.specs.Runs.{Run, row_of, changed, with_timers}
use Rattle.run_history.specs.Legal.{MayFollow, outcome_of}
use Rattle.history_laws.proofs.FeedLaws.{injector-no_kind}
use Rattle.history_laws.proofs.IdLaws.{AreIds, waits_as_made}
use Rattle.history_laws.proofs.PendingLaws.{was_some, kind-there}
use Rattle.history_laws.proofs.RowSteps.{both_Equal}

-- ---- what a handler leaves

-- what a computation's handler leaves of a cause in a row of this name
pub record IsOutcome (case : CaseShape) (name : RowName) (row : Contents) (cause : Cause) (o : EffectsView) : Type 0 where
  pub kind : Kind
  pub of_part : kind_of case.topology name.part ≡ Some kind
  pub leaves : Leaves kind name.key row.state cause o

-- an outcome is that of the part's kind
pub IsOutcome-does : (case : CaseShape) (name : RowName) (row : Contents) (cause : Cause) (o : EffectsView)
    → outcome_of case name row cause ≡ Some o → IsOutcome case name row cause o
IsOutcome-does case name row cause o does =
    let kind = was_some (λ (kind : Kind). effects_of kind name.key row.state cause) (kind_of case.topology name.part) o does in record {
      kind = kind.0;
      of_part = kind.1;
      leaves = subst (Leaves kind.0 name.key row.state cause) kind.2 (effects-leave kind.0 name.key row.state cause);
    }

-- a part that has an outcome is there
pub outcome-there : (case : CaseShape) (name : RowName) (row : Contents) (cause : Cause) (o : EffectsView)
    → IsOutcome case name row cause o → name.part < parts_of case.topology
outcome-there case name row cause o outcome = kind-there case.topology name.part outcome.kind outcome.of_part

-- and is no injector
pub outcome-no_injector : (case : CaseShape) (name : RowName) (row : Contents) (cause : Cause) (o : EffectsView)
    → IsOutcome case name row cause o → is_injector case.topology name.part ≡ true → ⊥
outcome-no_injector case name row cause o outcome is =
    injector-no_kind case.topology name.part outcome.kind is outcome.of_part

-- ---- what stands before

-- a record stands in a delivery to the row that waits, a timer is the first of the row's
abbrev pub StandsBefore : CaseShape → Run → RowName → Cause → Type 0
StandsBefore case run name (OfRecord item) =
    (id : RecordId) × (d : Delivery) × (found_delivery id run.unhandled ≡ Some d) × (d.to ≡ name) × (d.item ≡ item)
StandsBefore case run name (OfTimer timer) = slice_get (row_of case.topology run name).timers 0 ≡ Some timer

-- what holds of each delivery that waits and of each timer of the row holds of what stands before
pub of_standing : (case : CaseShape) (run : Run) (name : RowName) (cause : Cause) (P : Delivery → Type 0) (Q : Timer → Type 0)
    (R : Cause → Type 0) → AllByRecursion P run.unhandled → AllByRecursion Q (row_of case.topology run name).timers
    → ((d : Delivery) → d.to ≡ name → P d → R (OfRecord d.item)) → ((t : Timer) → Q t → R (OfTimer t))
    → StandsBefore case run name cause → R cause
of_standing case run name (OfRecord item) P Q R waiting timers record_so timer_so (id, d, waits, to, same) =
    subst (λ (i : Record). R (OfRecord i)) same
    (record_so d to (find-each P (λ (e : Delivery). same_id e.id id) run.unhandled d waiting waits))
of_standing case run name (OfTimer timer) P Q R waiting timers record_so timer_so first =
    timer_so timer (each-at Q (row_of case.topology run name).timers 0 timer timers first)

-- ---- timers that are set

-- timers that tie are due at one time
tie_time : (a b : Timer) → timer_cmp a b ≡ Equal → a.time ≡ b.time
tie_time a b e = exact_unsigned a.time b.time (both_Equal _ _ e).0

-- a fact of timers holds of one that is set again where it holds of both settings
abbrev pub IsKeptAgain : (Timer → Type 0) → Type 0
IsKeptAgain P = (t u : Timer) → t.time ≡ u.time → P t → P u → P (set_again t u)

-- what holds of a timer and of those that are set holds of all behind it
with_timer-each : (P : Timer → Type 0) → IsKeptAgain P → (t : Timer) (ts : List Timer) → P t → AllByRecursion P ts
    → AllByRecursion P (with_timer t ts)
with_timer-each P again t [] new each = (new, tt)
with_timer-each P again t (u ∷ us) new each =
    elim (timer_cmp t u) as (λ r. timer_cmp t u ≡ r
    → AllByRecursion P (match_ordering r (t ∷ u ∷ us) (set_again t u ∷ us) (u ∷ with_timer t us))) [
      | Less ↦ λ e. (new, each)
      | Equal ↦ λ e. (again t u (tie_time t u e) new each.0, each.1)
      | Greater ↦ λ e. (each.0, with_timer-each P again t us new each.1)
    ] refl

-- and of several, set one after another
pub with_timers-each : (P : Timer → Type 0) → IsKeptAgain P → (set ts : List Timer) → AllByRecursion P set → AllByRecursion P ts
    → AllByRecursion P (with_timers set ts)
with_timers-each P again [] ts new each = each
with_timers-each P again (t ∷ set) ts new each = with_timers-each P again set (with_timer t ts) new.1
    (with_timer-each P again t ts new.0 each)

-- ---- entries that a cause brought about

-- an entry that a cause brought about in the row of this name, with what the row's handler left
pub record IsCaused (case : CaseShape) (run : Run) (entry : Entry) (name : RowName) (cause : Cause) (effects : EffectsView) : Type 1 where
  pub outcome : IsOutcome case name (row_of case.topology run name) cause effects
  pub stands : StandsBefore case run name cause
  pub written : row_written entry ≡ Some name
  -- what it makes is what the handler produced, as late as the cause
  pub makes : productions_of entry ≡ effects.productions
  pub late : (history : List Entry) → AreIds history run → late_cause run.made entry ≡ is_late_cause cause
  -- the row has the handler's state, what was made is pending, and no timers are set but its own and the handler's
  pub left : (sent : List Delivery) (row : Contents) → (changed entry sent row).state ≡ effects.state
  pub pending : (sent : List Delivery) (row : Contents) → (changed entry sent row).pending ≡ row.pending ++ sent
  pub timers : (P : Timer → Type 0) → IsKeptAgain P → (sent : List Delivery) (row : Contents) → AllByRecursion P effects.timers
      → AllByRecursion P row.timers → AllByRecursion P (changed entry sent row).timers

-- a handled record brought its entry about
caused-handle_here : (case : CaseShape) (run : Run) (seq : ℕ) (row : RowName) (id : RecordId) (effects : EffectsView)
    → (may : MayFollow case run (Handle seq row id effects))
    → IsCaused case run (Handle seq row id effects) row (OfRecord may.delivery.item) effects
caused-handle_here case run seq row id effects may = record {
  outcome = IsOutcome-does case row (row_of case.topology run row) (OfRecord may.delivery.item) effects may.does;
  stands = (id, may.delivery, may.waits, may.to_row, refl);
  written = refl;
  makes = refl;
  late = λ history ids. ap (λ o. option_map_or (λ (d : Delivery). d.item.late) o false)
      (waits_as_made history run id may.delivery ids may.waits);
  left = λ sent c. refl;
  pending = λ sent c. refl;
  timers = λ P again sent c new old. with_timers-each P again effects.timers c.timers new old;
}

-- a timer that fired brought its entry about
caused-fire_here : (case : CaseShape) (run : Run) (seq : ℕ) (row : RowName) (timer : Timer) (mark : ℕ) (effects : EffectsView)
    → MayFollow case run (Fire seq row timer mark effects)
    → IsCaused case run (Fire seq row timer mark effects) row (OfTimer timer) effects
caused-fire_here case run seq row timer mark effects may = record {
  outcome = IsOutcome-does case row (row_of case.topology run row) (OfTimer timer) effects may.does;
  stands = may.least_timer;
  written = refl;
  makes = refl;
  late = λ history ids. refl;
  left = λ sent c. refl;
  pending = λ sent c. refl;
  timers = λ P again sent c new old. each-filter P (λ t. not (is_timer timer.tag timer.time t)) c.timers old;
}

-- the same of the row by another name for it
pub caused-handle : (case : CaseShape) (run : Run) (seq : ℕ) (row : RowName) (id : RecordId) (effects : EffectsView) (name : RowName)
    → (may : MayFollow case run (Handle seq row id effects)) → row_written (Handle seq row id effects) ≡ Some name
    → IsCaused case run (Handle seq row id effects) name (OfRecord may.delivery.item) effects
caused-handle case run seq row id effects name may written =
    subst (λ (n : RowName). IsCaused case run (Handle seq row id effects) n (OfRecord may.delivery.item) effects)
    (some_same row name written) (caused-handle_here case run seq row id effects may)

pub caused-fire : (case : CaseShape) (run : Run) (seq : ℕ) (row : RowName) (timer : Timer) (mark : ℕ) (effects : EffectsView) (name : RowName)
    → MayFollow case run (Fire seq row timer mark effects) → row_written (Fire seq row timer mark effects) ≡ Some name
    → IsCaused case run (Fire seq row timer mark effects) name (OfTimer timer) effects
caused-fire case run seq row timer mark effects name may written =
    subst (λ (n : RowName). IsCaused case run (Fire seq row timer mark effects) n (OfTimer timer) effects)
    (some_same row name written) (caused-fire_here case run seq row timer mark effects may)

module _ (case : CaseShape) (run : Run) (entry : Entry) (name : RowName) (cause : Cause) (effects : EffectsView)
    (caused : IsCaused case run entry name cause effects) where
  -- its part is there
  pub caused-there : name.part < parts_of case.topology
  caused-there = outcome-there case name (row_of case.topology run name) cause effects caused.outcome

  -- and is no injector
  pub caused-no_injector : is_injector case.topology name.part ≡ true → ⊥
  caused-no_injector = outcome-no_injector case name (row_of case.topology run name) cause effects caused.outcome

  -- it produced few records
  pub caused-few : length (productions_of entry) ≤ 8
  caused-few = subst (λ (ps : List Production). length ps ≤ 8) (sym caused.makes) caused.outcome.leaves.productions.few

  -- what it makes are the deliveries of what the handler produced
  pub caused-sent : (P : Delivery → Type 0)
      → AllByRecursion P (deliveries_made case.topology name.part effects.productions (late_cause run.made entry) run.next)
      → AllByRecursion P (deliveries_of case.topology run.made run.next entry)
  caused-sent P sent =
      subst (λ (w : Option RowName). AllByRecursion P (option_map_or (λ (row : RowName).
      deliveries_made case.topology row.part (productions_of entry) (late_cause run.made entry) run.next) w [])) (sym caused.written)
      (subst (λ (ps : List Production). AllByRecursion P
      (deliveries_made case.topology name.part ps (late_cause run.made entry) run.next)) (sym caused.makes) sent)
