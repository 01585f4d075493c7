-- What a legal history makes has values of 64 bits, and so have the states of its rows and the tags of their timers.
use Rattle.std.proofs.Common.{◌≡◌, ◌<◌, ◌^◌, ℕ, Bool, List, [], ◌∷◌, refl, sym, subst, arith}
use Rattle.std.specs.Prelude.{⊤, Option, Some, None, All, slice_get, unwrap_or, not}
use Rattle.std.specs.Option.{option_map, option_map_or}
use Rattle.std.specs.List.{AllByRecursion}
use Rattle.std.proofs.lemmas.List.Elements.{All-get_or}
use Rattle.std.proofs.lemmas.Option.{get_or_from_slice_get, slice_get_within}
use Rattle.mw_types.specs.declared.identity.RowName.{RowName}
use Rattle.mw_types.specs.declared.record.Record.{Record}
use Rattle.mw_types.specs.declared.record.Production.{Production}
use Rattle.mw_types.specs.declared.timer.Timer.{Timer}
use Rattle.mw_types.specs.declared.kind.Kind.{Kind}
use Rattle.mw_types.specs.declared.kind.Kind.TheVariants as kinds
use Rattle.mw_types.specs.declared.state.State.{State}
use Rattle.mw_types.specs.declared.state.State.TheVariants as states
use Rattle.mw_types.specs.declared.delivery.Delivery.{Delivery}
use Rattle.mw_types.specs.declared.entry.Entry.{Entry}
use Rattle.mw_types.specs.declared.entry.Entry.TheVariants.{Inject, Handle, Fire}
use Rattle.mw_types.specs.Outcomes.{EffectsView}
use Rattle.injector.specs.Sources.{Source, SourceLine, item_at}
use Rattle.topology.specs.Shapes.{consumers_of, kind_of}
use Rattle.computations.specs.Handlers.{Cause, fresh_state}
use Rattle.computations.specs.Leaving.{Fits, HasValues, HasValue}
use Rattle.row_parts.specs.Contents.{Contents}
use Rattle.run_history.specs.Cases.{CaseShape, record_of, source_of}
use Rattle.run_history.specs.Finished.{handles}
use Rattle.run_history.specs.Legal.{IsLegal, MayFollow}
use Rattle.run_history.specs.Made.{deliveries_made, deliveries_of, late_cause}
use Rattle.run_history.specs.Runs.{Run, advanced, changed, followed, row_of, run_of, still_unhandled}
use Rattle.list_lemmas.proofs.Lists.{each-all, each-append, each-filter}
use Rattle.history_laws.proofs.Along.{along_history}
use Rattle.history_laws.proofs.Caused.{IsCaused, of_standing, caused-handle, caused-fire, caused-sent}
use Rattle.history_laws.proofs.IdLaws.{still_unhandled-filter}
use Rattle.history_laws.proofs.Made.{deliveries_made-each}
use Rattle.history_laws.proofs.RowSteps.{each_row-followed, row_of-each}
use Rattle.history_laws.proofs.StampLaws.{line_of, line-each}
use Rattle.trace_lines.specs.Values.{AreValued}

-- a row's state has such values, and its timers have such tags
abbrev pub HasRowValues : Contents → Type 0
HasRowValues row = HasValues row.state × AllByRecursion (λ (t : Timer). t.tag < 2 ^ 64) row.timers

-- what waits has values of 64 bits, and so has each row
pub record AreValues (run : Run) : Type 0 where
  pub waiting : AllByRecursion (λ (d : Delivery). Fits d.item.value) run.unhandled
  pub rows : AllByRecursion (λ (r : RowName × Contents). HasRowValues r.1) run.rows

-- the row of a name does
pub row_of-values : (case : CaseShape) (run : Run) (name : RowName) → AreValues run → HasRowValues (row_of case.topology run name)
row_of-values case run name are =
    row_of-each case.topology run name HasRowValues are.rows (fresh_values (kind_of case.topology name.part), tt)
  where
    of_kind : (kind : Kind) → HasValues (fresh_state kind)
    of_kind (kinds.Count size) = tt
    of_kind (kinds.Spike last times) = (tt, tt)
    of_kind kinds.Pass = tt

    fresh_values : (o : Option Kind) → HasValues (option_map_or fresh_state o (states.Injector 0))
    fresh_values None = tt
    fresh_values (Some kind) = of_kind kind

-- an injector's next state has no values
advanced-values : (state : State) → HasValues state → HasValues (advanced state)
advanced-values (states.Injector cursor) has = tt
advanced-values (states.Count late windows) has = has
advanced-values (states.Spike late held known) has = has
advanced-values (states.Pass late) has = has

-- an injected record is as the records of all lines are
pub injected-each : (P : Record → Type 0) (case : CaseShape) (part line : ℕ) (item : Record)
    → All (λ (source : Source). All (λ (l : SourceLine). P (record_of l.item)) source) case.sources
    → option_map record_of (item_at (source_of case part) line) ≡ Some item → P item
injected-each P case part line item each of =
    let l = line_of (source_of case part) line item of in
    subst P l.2 (line-each Holds (source_of case part) line l.0 (by_source (slice_get case.sources part) refl) l.1)
  where
    Holds : SourceLine → Type 0
    Holds l = P (record_of l.item)

    by_source : (o : Option Source) → slice_get case.sources part ≡ o → All Holds (unwrap_or o [])
    by_source None at = λ k d less. absurd (omega (arith, less))
    by_source (Some source) at = subst (All Holds) (get_or_from_slice_get case.sources part source source at)
        (All-get_or (All Holds) case.sources part source (slice_get_within case.sources part source at) each)

-- the deliveries of productions that have such values
made-values : (case : CaseShape) (part : ℕ) (productions : List Production) (late : Bool) (commit : ℕ)
    → AllByRecursion (λ (p : Production). Fits p.value) productions
    → AllByRecursion (λ (d : Delivery). Fits d.item.value) (deliveries_made case.topology part productions late commit)
made-values case part productions late commit each =
    deliveries_made-each case.topology part productions late commit (λ s. ⊤) (λ (p : Production). Fits p.value)
    (λ to item. Fits item.value) (λ s p _ is. is) (each-all (λ s. ⊤) (λ s. tt) (consumers_of case.topology part)) each

-- ---- one more entry

module _ (case : CaseShape) (run : Run) (entry : Entry) (name : RowName) (cause : Cause) (effects : EffectsView)
    (caused : IsCaused case run entry name cause effects) (are : AreValues run) where
  -- a cause has a value of 64 bits
  pub caused-value : HasValue cause
  caused-value = of_standing case run name cause (λ (d : Delivery). Fits d.item.value)
      (λ (t : Timer). t.tag < 2 ^ 64) HasValue
      are.waiting (row_of-values case run name are).1 (λ d to is. is) (λ t is. tt) caused.stands

  -- the row that it leaves
  caused-row : (sent : List Delivery) (row : Contents) → HasRowValues row → HasRowValues (changed entry sent row)
  caused-row sent row old =
      let leaves = caused.outcome.leaves in (
        subst HasValues (sym (caused.left sent row))
            (leaves.left.values (row_of-values case run name are).0 caused-value),
        caused.timers (λ (t : Timer). t.tag < 2 ^ 64) (λ t u same p q. q) sent row leaves.timers.tags old.1,
      )

  -- and what it makes
  caused-made : AllByRecursion (λ (d : Delivery). Fits d.item.value)
      (deliveries_of case.topology run.made run.next entry)
  caused-made = caused-sent case run entry name cause effects caused (λ (d : Delivery). Fits d.item.value)
      (made-values case name.part effects.productions (late_cause run.made entry) run.next
      (caused.outcome.leaves.productions.values (row_of-values case run name are).0 caused-value))

-- the row that an entry leaves
changed-values : (case : CaseShape) (run : Run) (entry : Entry) (sent : List Delivery) (row : Contents) → AreValues run
    → MayFollow case run entry → HasRowValues row → HasRowValues (changed entry sent row)
changed-values case run (Inject seq part line item) sent row are may old = (advanced-values row.state old.0, old.1)
changed-values case run (Handle seq name id effects) sent row are may old =
    caused-row case run (Handle seq name id effects) name _ effects
    (caused-handle case run seq name id effects name may refl) are sent row old
changed-values case run (Fire seq name timer mark effects) sent row are may old =
    caused-row case run (Fire seq name timer mark effects) name _ effects
    (caused-fire case run seq name timer mark effects name may refl) are sent row old
changed-values case run _ sent row are may old = old

-- what an entry makes
sent-values : (case : CaseShape) (run : Run) (entry : Entry) → AreValued case → AreValues run → MayFollow case run entry
    → AllByRecursion (λ (d : Delivery). Fits d.item.value) (deliveries_of case.topology run.made run.next entry)
sent-values case run (Inject seq part line item) valued are may =
    made-values case part (record { key = item.key; stamp = item.stamp; value = item.value } ∷ []) item.late run.next
    (injected-each (λ (r : Record). Fits r.value) case part line item valued may.of_line, tt)
sent-values case run (Handle seq name id effects) valued are may =
    caused-made case run (Handle seq name id effects) name _ effects
    (caused-handle case run seq name id effects name may refl) are
sent-values case run (Fire seq name timer mark effects) valued are may =
    caused-made case run (Fire seq name timer mark effects) name _ effects
    (caused-fire case run seq name timer mark effects name may refl) are
sent-values case run _ valued are may = tt

-- one more entry keeps values
AreValues-followed : (case : CaseShape) (run : Run) (entry : Entry) → AreValued case → AreValues run → MayFollow case run entry
    → AreValues (followed case.topology run entry)
AreValues-followed case run entry valued are may = record {
  waiting = each-append (λ (d : Delivery). Fits d.item.value) (still_unhandled entry run.unhandled) _
      (subst (AllByRecursion (λ (d : Delivery). Fits d.item.value)) (sym (still_unhandled-filter entry run.unhandled))
      (each-filter (λ (d : Delivery). Fits d.item.value) (λ (d : Delivery). not (handles d.id entry)) run.unhandled are.waiting))
      (sent-values case run entry valued are may);
  rows = each_row-followed case.topology run entry HasRowValues HasRowValues are.rows (λ c p. p)
      (λ name written. changed-values case run entry (deliveries_of case.topology run.made run.next entry)
      (row_of case.topology run name) are may (row_of-values case run name are));
}

-- after each legal history values have 64 bits
pub legal-values : (case : CaseShape) (history : List Entry) → AreValued case → IsLegal case history
    → AreValues (run_of case.topology history)
legal-values case history valued = along_history case (λ done run. AreValues run)
    (λ done run entry are may. AreValues-followed case run entry valued are may) (record { waiting = tt; rows = tt }) history
