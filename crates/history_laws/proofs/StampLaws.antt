-- No timestamp of a legal history is above the greatest.
use Rattle.std.proofs.Common.{◌≡◌, ℕ, ◌≤◌, Bool, List, [], ◌∷◌, refl, sym, ◌∙◌, ap, subst, arith}
use Rattle.std.specs.Prelude.{⊤, Option, Some, None, All, not, slice_get, unwrap_or}
use Rattle.std.specs.Option.{option_map}
use Rattle.std.specs.List.{AllByRecursion}
use Rattle.std.proofs.lemmas.List.Elements.{All-get_or}
use Rattle.std.proofs.lemmas.Option.{slice_get_within, get_or_from_slice_get}
use Rattle.mw_types.specs.declared.TheConstants.{MAX_STAMP, INPUT_MAX}
use Rattle.mw_types.specs.declared.identity.RowName.{RowName}
use Rattle.mw_types.specs.declared.record.Record.{Record}
use Rattle.mw_types.specs.declared.record.Production.{Production}
use Rattle.mw_types.specs.declared.timer.Timer.{Timer}
use Rattle.mw_types.specs.declared.delivery.Delivery.{Delivery}
use Rattle.mw_types.specs.declared.entry.Entry.{Entry}
use Rattle.mw_types.specs.declared.entry.Entry.TheVariants.{Inject, Handle, Fire}
use Rattle.mw_types.specs.Outcomes.{EffectsView}
use Rattle.injector.specs.Sources.{Source, SourceLine, IsSource, item_at}
use Rattle.topology.specs.Shapes.{Shape, consumers_of}
use Rattle.computations.specs.Handlers.{Cause, stamp_of}
use Rattle.computations.specs.Leaving.{IsTimerAfter, IsProductionAfter}
use Rattle.row_parts.specs.Contents.{Contents}
use Rattle.run_history.specs.Cases.{CaseShape, source_of, record_of}
use Rattle.run_history.specs.Made.{late_cause, deliveries_of, deliveries_made}
use Rattle.run_history.specs.Runs.{Run, run_of, row_of, followed, changed, still_unhandled}
use Rattle.run_history.specs.Legal.{MayFollow, IsLegal}
use Rattle.run_history.specs.Inputs.{IsRunnable}
use Rattle.run_history.specs.Finished.{handles}
use Rattle.list_lemmas.proofs.Lists.{each-append, each-all, each-weaker, each-filter}
use Rattle.history_laws.proofs.Along.{along_history}
use Rattle.history_laws.proofs.Made.{deliveries_made-each}
use Rattle.history_laws.proofs.FeedLaws.{kind-ranged}
use Rattle.history_laws.proofs.PendingLaws.{was_some}
use Rattle.history_laws.proofs.Caused.{IsCaused, of_standing, caused-handle, caused-fire, caused-sent}
use Rattle.history_laws.proofs.IdLaws.{still_unhandled-filter}
use Rattle.history_laws.proofs.RowSteps.{each_row-followed, row_of-each}

-- ---- sources

-- a source without lines keeps the rules of a source
empty_source : IsSource []
empty_source = record {
  stamps = λ k d less. absurd (omega (arith, less));
  marks = λ k d less. absurd (omega (arith, less));
  rising = λ i j d le less. absurd (omega (arith, less));
  lateness = λ k d less. absurd (omega (arith, less));
}

-- the source of each part keeps the rules of a source
pub source_of-source : (case : CaseShape) (part : ℕ) → IsRunnable case → IsSource (source_of case part)
source_of-source case part runs = by_source (slice_get case.sources part) refl
  where
    by_source : (o : Option Source) → slice_get case.sources part ≡ o → IsSource (unwrap_or o [])
    by_source None at = empty_source
    by_source (Some source) at = subst IsSource (get_or_from_slice_get case.sources part source source at)
        (All-get_or IsSource case.sources part source (slice_get_within case.sources part source at) runs.sources)

-- the line from which a record was injected
pub line_of : (source : Source) (line : ℕ) (item : Record) → option_map record_of (item_at source line) ≡ Some item
    → (l : SourceLine) × (slice_get source line ≡ Some l) × (record_of l.item ≡ item)
line_of source line item of =
    let one = was_some record_of (item_at source line) item of in
    let two = was_some (λ (l : SourceLine). l.item) (slice_get source line) one.0 one.1 in
    (two.0, two.1, ap record_of two.2 ∙ one.2)

-- what holds of each line holds of a line that is found
pub line-each : (P : SourceLine → Type 0) (source : Source) (line : ℕ) (l : SourceLine) → All P source → slice_get source line ≡ Some l
    → P l
line-each P source line l each at = subst P (get_or_from_slice_get source line l l at)
    (All-get_or P source line l (slice_get_within source line l at) each)

-- an injected record has an input's timestamp
pub injected-in_time : (source : Source) (line : ℕ) (item : Record) → IsSource source
    → option_map record_of (item_at source line) ≡ Some item → item.stamp ≤ INPUT_MAX
injected-in_time source line item rules of =
    let l = line_of source line item of in
    subst (λ (r : Record). r.stamp ≤ INPUT_MAX) l.2
    (line-each (λ (l : SourceLine). l.item.stamp ≤ INPUT_MAX) source line l.0 rules.stamps l.1)

-- ---- what is in time

-- each of these timers is due by the greatest timestamp
abbrev pub InTime : List Timer → Type 0
InTime = AllByRecursion (λ (t : Timer). t.time ≤ MAX_STAMP)

-- the stamps of all that was made and that waits, and the times of all timers, are at most the greatest timestamp
pub record AreInTime (run : Run) : Type 0 where
  pub made : AllByRecursion (λ (d : Delivery). d.item.stamp ≤ MAX_STAMP) run.made
  pub waiting : AllByRecursion (λ (d : Delivery). d.item.stamp ≤ MAX_STAMP) run.unhandled
  pub timers : AllByRecursion (λ (r : RowName × Contents). InTime r.1.timers) run.rows

-- the timers of the row of a name are in time
pub row_of-in_time : (shape : Shape) (run : Run) (name : RowName) → AreInTime run → InTime (row_of shape run name).timers
row_of-in_time shape run name in_time = row_of-each shape run name (λ (c : Contents). InTime c.timers) in_time.timers tt

module _ (case : CaseShape) (run : Run) (entry : Entry) (name : RowName) (cause : Cause) (effects : EffectsView)
    (in_time : AreInTime run) (caused : IsCaused case run entry name cause effects) where
  -- a cause is in time
  pub caused-in_time : stamp_of cause ≤ MAX_STAMP
  caused-in_time = of_standing case run name cause (λ (d : Delivery). d.item.stamp ≤ MAX_STAMP) (λ (t : Timer). t.time ≤ MAX_STAMP)
      (λ (c : Cause). stamp_of c ≤ MAX_STAMP) in_time.waiting (row_of-in_time case.topology run name in_time)
      (λ d to le. le) (λ t le. le) caused.stands

  -- the timers that it sets are no earlier
  pub caused-timers : IsRunnable case → AllByRecursion (IsTimerAfter cause) effects.timers
  caused-timers runs = caused.outcome.leaves.timers.each
      (kind-ranged case.topology name.part caused.outcome.kind runs.topology caused.outcome.of_part) caused-in_time

  -- and so is what it produces
  pub caused-productions : IsRunnable case → AllByRecursion (IsProductionAfter cause) effects.productions
  caused-productions runs = caused.outcome.leaves.productions.each
      (kind-ranged case.topology name.part caused.outcome.kind runs.topology caused.outcome.of_part) caused-in_time

-- deliveries of productions that are in time are in time
made-in_time : (shape : Shape) (part : ℕ) (productions : List Production) (late : Bool) (commit : ℕ)
    → AllByRecursion (λ (p : Production). p.stamp ≤ MAX_STAMP) productions
    → AllByRecursion (λ (d : Delivery). d.item.stamp ≤ MAX_STAMP) (deliveries_made shape part productions late commit)
made-in_time shape part productions late commit in_time =
    deliveries_made-each shape part productions late commit (λ s. ⊤) (λ (p : Production). p.stamp ≤ MAX_STAMP)
    (λ to item. item.stamp ≤ MAX_STAMP)
    (λ s p _ in_time. in_time) (each-all (λ s. ⊤) (λ s. tt) (consumers_of shape part)) in_time

-- what a cause makes is in time
caused-sent_in_time : (case : CaseShape) (run : Run) (entry : Entry) (name : RowName) (cause : Cause) (effects : EffectsView)
    → AreInTime run → IsCaused case run entry name cause effects → IsRunnable case
    → AllByRecursion (λ (d : Delivery). d.item.stamp ≤ MAX_STAMP) (deliveries_of case.topology run.made run.next entry)
caused-sent_in_time case run entry name cause effects in_time caused runs =
    caused-sent case run entry name cause effects caused (λ (d : Delivery). d.item.stamp ≤ MAX_STAMP)
    (made-in_time case.topology name.part effects.productions (late_cause run.made entry) run.next
    (each-weaker (IsProductionAfter cause) (λ (p : Production). p.stamp ≤ MAX_STAMP) (λ p (after : IsProductionAfter cause p). after.in_time)
    effects.productions (caused-productions case run entry name cause effects in_time caused runs)))

-- what an entry makes is in time
sent-in_time : (case : CaseShape) (run : Run) (entry : Entry) → IsRunnable case → AreInTime run → MayFollow case run entry
    → AllByRecursion (λ (d : Delivery). d.item.stamp ≤ MAX_STAMP) (deliveries_of case.topology run.made run.next entry)
sent-in_time case run (Inject seq part line item) runs in_time may =
    let input = injected-in_time (source_of case part) line item (source_of-source case part runs) may.of_line in
    made-in_time case.topology part (record { key = item.key; stamp = item.stamp; value = item.value } ∷ []) item.late run.next
    (omega (arith, input), tt)
sent-in_time case run (Handle seq row id effects) runs in_time may =
    caused-sent_in_time case run _ row _ effects in_time (caused-handle case run seq row id effects row may refl) runs
sent-in_time case run (Fire seq row timer mark effects) runs in_time may =
    caused-sent_in_time case run _ row _ effects in_time (caused-fire case run seq row timer mark effects row may refl) runs
sent-in_time case run _ runs in_time may = tt

-- the timers that a cause leaves in its row are in time
caused-timers_in_time : (case : CaseShape) (run : Run) (entry : Entry) (name : RowName) (cause : Cause) (effects : EffectsView)
    (sent : List Delivery) (row : Contents) → AreInTime run → IsCaused case run entry name cause effects → IsRunnable case
    → InTime row.timers → InTime (changed entry sent row).timers
caused-timers_in_time case run entry name cause effects sent row in_time caused runs =
    caused.timers (λ (t : Timer). t.time ≤ MAX_STAMP) (λ t u same p q. q) sent row
    (each-weaker (IsTimerAfter cause) (λ (t : Timer). t.time ≤ MAX_STAMP) (λ t (after : IsTimerAfter cause t). after.in_time)
    effects.timers (caused-timers case run entry name cause effects in_time caused runs))

-- the timers that an entry leaves in its row are in time
timers-in_time : (case : CaseShape) (run : Run) (entry : Entry) (sent : List Delivery) (row : Contents) → IsRunnable case → AreInTime run
    → MayFollow case run entry → InTime row.timers → InTime (changed entry sent row).timers
timers-in_time case run (Handle seq name id effects) sent row runs in_time may =
    caused-timers_in_time case run _ name _ effects sent row in_time (caused-handle case run seq name id effects name may refl) runs
timers-in_time case run (Fire seq name timer mark effects) sent row runs in_time may =
    caused-timers_in_time case run _ name _ effects sent row in_time (caused-fire case run seq name timer mark effects name may refl) runs
timers-in_time case run _ sent row runs in_time may = λ old. old

-- one more entry keeps all in time
pub AreInTime-followed : (case : CaseShape) (run : Run) (entry : Entry) → IsRunnable case → AreInTime run → MayFollow case run entry
    → AreInTime (followed case.topology run entry)
AreInTime-followed case run entry runs in_time may =
    let sent = sent-in_time case run entry runs in_time may in record {
      made = each-append (λ (d : Delivery). d.item.stamp ≤ MAX_STAMP) run.made _ in_time.made sent;
      waiting = each-append (λ (d : Delivery). d.item.stamp ≤ MAX_STAMP) (still_unhandled entry run.unhandled) _
          (subst (AllByRecursion (λ (d : Delivery). d.item.stamp ≤ MAX_STAMP)) (sym (still_unhandled-filter entry run.unhandled))
          (each-filter (λ (d : Delivery). d.item.stamp ≤ MAX_STAMP)
          (λ (d : Delivery). not (handles d.id entry)) run.unhandled in_time.waiting)) sent;
      timers = each_row-followed case.topology run entry (λ (c : Contents). InTime c.timers)
          (λ (c : Contents). InTime c.timers) in_time.timers (λ c p. p)
          (λ name written. timers-in_time case run entry (deliveries_of case.topology run.made run.next entry)
          (row_of case.topology run name) runs in_time may
          (row_of-in_time case.topology run name in_time));
    }

-- after each legal history all is in time
pub legal-in_time : (case : CaseShape) (history : List Entry) → IsRunnable case → IsLegal case history
    → AreInTime (run_of case.topology history)
legal-in_time case history runs = along_history case (λ done run. AreInTime run)
    (λ done run entry in_time may. AreInTime-followed case run entry runs in_time may)
    (record { made = tt; waiting = tt; timers = tt }) history
