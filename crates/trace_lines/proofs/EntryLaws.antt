-- Each entry of a lawful history is within the bounds of its types.
use Rattle.std.proofs.Common.{◌≡◌, ℕ, ◌+◌, ◌<◌, ◌≤◌, ◌^◌, true, cond, List, [], ◌∷◌, ◌++◌, length, length-append, map, refl, sym, ap, ◌∙◌, subst, arith, append_assoc}
use Rattle.std.specs.Prelude.{⊤, All, Option, Some, None, IsSome, IfSome, slice_get}
use Rattle.std.specs.Option.{option_map_or, option_and_then}
use Rattle.std.specs.List.{AllByRecursion, flat_map}
use Rattle.std.specs.Map.{lookup}
use Rattle.std.specs.BTreeMap.{insert_entry, is_at}
use Rattle.std.specs.Cmp.{tied_itself}
use Rattle.std.specs.Ordering.{is_eq}
use Rattle.std.proofs.lemmas.List.Elements.{recursion_from_All, All-from_recursion, All-weaker}
use Rattle.std.proofs.lemmas.Option.{slice_get_within}
use Rattle.mw_types.specs.declared.TheConstants.{MAX_STAMP}
use Rattle.mw_types.specs.declared.identity.RowName.{RowName}
use Rattle.mw_types.specs.declared.record.Record.{Record}
use Rattle.mw_types.specs.declared.record.Production.{Production}
use Rattle.mw_types.specs.declared.timer.Timer.{Timer}
use Rattle.mw_types.specs.declared.state.State.{State}
use Rattle.mw_types.specs.declared.state.State.TheVariants as states
use Rattle.mw_types.specs.declared.state.HeldTotal.{HeldTotal}
use Rattle.mw_types.specs.declared.delivery.Delivery.{Delivery}
use Rattle.mw_types.specs.declared.entry.Entry.{Entry}
use Rattle.mw_types.specs.declared.entry.Entry.TheVariants.{Claim, Inject, Handle, Fire, Ack, Purge}
use Rattle.mw_types.specs.Bounds.{IsWithin, IsKey}
use Rattle.mw_types.specs.Orders.{row_cmp}
use Rattle.mw_types.specs.Outcomes.{EffectsView}
use Rattle.mw_types.proofs.OrderLaws.{row_cmp-total}
use Rattle.topology.specs.Shapes.{Shape, parts_of}
use Rattle.computations.specs.Handlers.{Cause, OfTimer}
use Rattle.computations.specs.Leaving.{Fits, HasValues, HasKey, IsTimerAfter, IsProductionAfter}
use Rattle.row_parts.specs.Contents.{Contents, cursor_in}
use Rattle.row_parts.specs.Spelling.{FitsBytes}
use Rattle.run_history.specs.Cases.{CaseShape, source_of}
use Rattle.run_history.specs.Fences.{IsUnderLastClaim, interval_of, last_claim, sequencer_of}
use Rattle.run_history.specs.Inputs.{IsRunnable}
use Rattle.run_history.specs.Legal.{IsLegal, MayFollow, floor_of}
use Rattle.run_history.specs.Made.{row_written, deliveries_of}
use Rattle.run_history.specs.Printing.{IsOnPart}
use Rattle.run_history.specs.Runs.{Run, empty_run, followed, row_in, row_of, run_of}
use Rattle.run_history.proofs.Claims.{last_claim-within}
use Rattle.run_history.proofs.Lookups.{lookup-insert_entry}
use Rattle.run_history.proofs.RunLaws.{IsLegal-push, next-length, run_of-push}
use Rattle.list_lemmas.proofs.Lists.{each-all, each-both, each-filter, none_some}
use Rattle.list_lemmas.proofs.Places.{each-at, each-behind}
use Rattle.history_laws.specs.Ids.{is_left}
use Rattle.history_laws.specs.Keys.{AreKeyed}
use Rattle.history_laws.specs.Writes.{IsLegalAndFenced}
use Rattle.history_laws.proofs.Along.{AreLegal-apart}
use Rattle.history_laws.proofs.Caused.{IsCaused, of_standing, caused-handle, caused-fire}
use Rattle.history_laws.proofs.IdLaws.{legal-tells}
use Rattle.history_laws.proofs.KeyLaws.{legal-keys}
use Rattle.history_laws.proofs.LowLaws.{low_under-end}
use Rattle.history_laws.proofs.PrintLaws.{legal-on_parts}
use Rattle.history_laws.proofs.RowSteps.{made_row, row_of-here}
use Rattle.history_laws.proofs.StampLaws.{caused-in_time, caused-timers, caused-productions, injected-in_time, legal-in_time, source_of-source}
use Rattle.history_laws.proofs.StateLaws.{legal-bounded}
use Rattle.history_laws.proofs.FloorLaws.{fold_min-bound}
use Rattle.trace_lines.specs.Entries.{IsRowName, IsRecord, IsProduction, IsOutcome, IsEntry}
use Rattle.trace_lines.specs.Choices.{choice_of, choice_at}
use Rattle.trace_lines.specs.Lines.{text_of_entry}
use Rattle.trace_lines.specs.Values.{AreValued}
use Rattle.trace_lines.proofs.Choosing.{choice_at-entry}
use Rattle.trace_lines.proofs.IdBounds.{pending-id, waiting-id}
use Rattle.trace_lines.proofs.ValueLaws.{caused-value, injected-each, legal-values, row_of-values}

-- ---- what is fixed by the history alone

-- the case and a lawful history of it, and an entry that may come next
record IsNext (case : CaseShape) (history : List Entry) (entry : Entry) : Type 0 where
  runs : IsRunnable case
  keyed : AreKeyed case
  valued : AreValued case
  legal : IsLegal case history
  short : length history + 1 < 2 ^ 32
  may : MayFollow case (run_of case.topology history) entry
  under : IsUnderLastClaim case.topology history entry

-- the history with the entry is legal
more-legal : (case : CaseShape) (history : List Entry) (entry : Entry) → IsNext case history entry → IsLegal case (history ++ entry ∷ [])
more-legal case history entry next = IsLegal-push case history entry next.legal next.may

-- a sequencer is the number of an entry before it
seq-small : (case : CaseShape) (history : List Entry) (entry : Entry) (name : RowName) (seq : ℕ) → IsNext case history entry
    → row_written entry ≡ Some name → sequencer_of entry ≡ Some seq → seq < 2 ^ 64
seq-small case history entry name seq next written carries =
    by_interval (interval_of case.topology name) (next.under name written ∙ carries)
  where
    by_interval : (o : Option ℕ) → option_and_then (λ (i : ℕ). last_claim i history) o ≡ Some seq → seq < 2 ^ 64
    by_interval None last = absurd (none_some seq last)
    by_interval (Some i) last = let within = last_claim-within i seq history last in let short = next.short in omega (arith, within, short)

-- the row that an entry is on is there after it
row_in-here : (shape : Shape) (run : Run) (entry : Entry) (row : RowName) → row_written entry ≡ Some row
    → row_in (followed shape run entry) row ≡ Some (made_row shape run entry row)
row_in-here shape run entry row written =
    ap (λ w. lookup (is_at (row_cmp row))
    (option_map_or (λ (n : RowName). insert_entry row_cmp run.rows n (made_row shape run entry n)) w run.rows)) written
    ∙ lookup-insert_entry row_cmp-total run.rows row (made_row shape run entry row) row
    ∙ ap (λ b. cond b (Some (made_row shape run entry row)) (row_in run row)) tie
  where
    tie : is_at (row_cmp row) row ≡ true
    tie = ap is_eq (tied_itself row_cmp-total row)

-- that row is of a part that is there, and stands under a key
written-name : (case : CaseShape) (history : List Entry) (entry : Entry) (row : RowName) → IsNext case history entry
    → row_written entry ≡ Some row → IsRowName row
written-name case history entry row next written =
    let run = run_of case.topology history in
    let legal = more-legal case history entry next in
    let on_part : IsOnPart case.topology entry = (each-behind (IsOnPart case.topology) history (entry ∷ [])
    (legal-on_parts case (history ++ entry ∷ []) legal).entries).0 in
    let part : row.part < parts_of case.topology =
    subst (λ o. IfSome o (λ (r : RowName). r.part < parts_of case.topology)) written on_part in
    let injectors = next.runs.topology.few_injectors in
    let computations = next.runs.topology.few_computations in
    let there : IsSome (row_in (followed case.topology run entry) row) =
    subst IsSome (sym (row_in-here case.topology run entry row written)) refl in record {
      part = omega (arith, part, injectors, computations);
      key = (legal-keys case (history ++ entry ∷ []) next.keyed legal).rows row
          (subst (λ (r : Run). IsSome (row_in r row)) (sym (run_of-push case.topology history entry)) there);
    }

-- the state that an entry leaves is within bounds
left-within : (case : CaseShape) (history : List Entry) (entry : Entry) (row : RowName) → IsNext case history entry
    → row_written entry ≡ Some row → IsWithin (made_row case.topology (run_of case.topology history) entry row).state
left-within case history entry row next written =
    let more = history ++ entry ∷ [] in
    let number = next-length case.topology more in
    let long = length-append history (entry ∷ []) in
    let short = next.short in
    let bounded = legal-bounded case more next.runs (more-legal case history entry next) in
    let within = bounded.states.within row (omega (arith, number, long, short)) in
    subst (λ (c : Contents). IsWithin c.state)
    (ap (λ (r : Run). row_of case.topology r row) (run_of-push case.topology history entry)
    ∙ row_of-here case.topology (run_of case.topology history) entry row written) within

-- ---- what handlers leave

-- values that fit a state's bytes
values-fit : (state : State) → HasValues state → FitsBytes state
values-fit (states.Injector cursor) has = tt
values-fit (states.Count late windows) has = tt
values-fit (states.Spike late held known) has =
    (All-from_recursion (λ (h : HeldTotal). Fits h.value) held has.0, All-from_recursion Fits known has.1)
values-fit (states.Pass late) has = tt

-- the key of a cause is one
caused-key : (case : CaseShape) (history : List Entry) (entry : Entry) (name : RowName) (cause : Cause)
    (effects : EffectsView)
    → IsNext case history entry → IsCaused case (run_of case.topology history) entry name cause effects → HasKey cause
caused-key case history entry name cause effects next caused =
    let run = run_of case.topology history in
    let waiting = subst (AllByRecursion (λ (d : Delivery). IsKey d.item.key)) (sym (legal-tells case history next.legal).waiting)
    (each-filter (λ (d : Delivery). IsKey d.item.key) (is_left history) run.made
    (recursion_from_All (λ (d : Delivery). IsKey d.item.key) run.made
    (legal-keys case history next.keyed next.legal).records)) in
    of_standing case run name cause (λ (d : Delivery). IsKey d.item.key) (λ (t : Timer). ⊤) HasKey waiting
    (each-all (λ (t : Timer). ⊤) (λ t. tt) (row_of case.topology run name).timers) (λ d to is. is) (λ t is. tt)
    caused.stands

-- what each element of a list is, as a weaker fact of each
each-as : {X : Type 0} (P Q : X → Type 0) → ((x : X) → P x → Q x) → (xs : List X) → AllByRecursion P xs → All Q xs
each-as P Q weaker xs each = All-weaker P Q weaker xs (All-from_recursion P xs each)

-- what a cause leaves is within the bounds of an outcome
caused-outcome : (case : CaseShape) (history : List Entry) (entry : Entry) (name : RowName) (cause : Cause)
    (effects : EffectsView)
    → IsNext case history entry → IsCaused case (run_of case.topology history) entry name cause effects
    → IsOutcome effects
caused-outcome case history entry name cause effects next caused =
    let run = run_of case.topology history in
    let leaves = caused.outcome.leaves in
    let in_time = legal-in_time case history next.runs next.legal in
    let values = legal-values case history next.valued next.legal in
    let has = (row_of-values case run name values).0 in
    let value = caused-value case run entry name cause effects caused values in
    let row_key = (written-name case history entry name next caused.written).key in
    let key = caused-key case history entry name cause effects next caused in record {
      kept = record {
        state_within = subst IsWithin
            (caused.left (deliveries_of case.topology run.made run.next entry) (row_of case.topology run name))
            (left-within case history entry name next caused.written);
        times = each-as (IsTimerAfter cause) (λ (t : Timer). t.time ≤ MAX_STAMP)
            (λ t (is : IsTimerAfter cause t). is.in_time) effects.timers
            (caused-timers case run entry name cause effects in_time caused next.runs);
        stamps = each-as (IsProductionAfter cause) (λ (p : Production). p.stamp ≤ MAX_STAMP)
            (λ p (is : IsProductionAfter cause p). is.in_time) effects.productions
            (caused-productions case run entry name cause effects in_time caused next.runs);
      };
      state = values-fit effects.state (leaves.left.values has value);
      tags = All-from_recursion (λ (t : Timer). t.tag < 2 ^ 64) effects.timers leaves.timers.tags;
      productions = each-as (λ (p : Production). IsKey p.key × Fits p.value) IsProduction
          (λ p (is : IsKey p.key × Fits p.value). record { key = is.0; value = is.1 }) effects.productions
          (each-both (λ (p : Production). IsKey p.key) (λ (p : Production). Fits p.value) effects.productions
          (leaves.productions.keys row_key key) (leaves.productions.values has value));
    }

-- a timer that fires has numbers of 64 bits
fire-timer : (case : CaseShape) (history : List Entry) (seq : ℕ) (row : RowName) (timer : Timer) (mark : ℕ) (effects : EffectsView)
    → IsNext case history (Fire seq row timer mark effects) → (timer.tag < 2 ^ 64) × (timer.time < 2 ^ 64)
fire-timer case history seq row timer mark effects next =
    let run = run_of case.topology history in
    let in_time : timer.time ≤ MAX_STAMP = caused-in_time case run _ row (OfTimer timer) effects
    (legal-in_time case history next.runs next.legal)
    (caused-fire case run seq row timer mark effects row next.may refl) in (
      each-at (λ (t : Timer). t.tag < 2 ^ 64) (row_of case.topology run row).timers 0 timer
          (row_of-values case run row (legal-values case history next.valued next.legal)).1 next.may.least_timer,
      omega (arith, in_time),
    )

-- ---- injected records

-- a cursor of a state that is within bounds has 32 bits
cursor-small : (state : State) → IsWithin state → cursor_in state < 2 ^ 32
cursor-small (states.Injector cursor) within = within
cursor-small (states.Count late windows) within = omega arith
cursor-small (states.Spike late held known) within = omega arith
cursor-small (states.Pass late) within = omega arith

-- the record of the next line is within bounds, and so is the line's number
inject-line : (case : CaseShape) (history : List Entry) (seq part line : ℕ) (item : Record)
    → IsNext case history (Inject seq part line item) → (line < 2 ^ 32) × IsRecord item
inject-line case history seq part line item next =
    let run = run_of case.topology history in
    let name : RowName = record { part = part; key = [] } in
    let number = next-length case.topology history in
    let short = next.short in
    let within = (legal-bounded case history next.runs next.legal).states.within name (omega (arith, number, short)) in
    let cursor = cursor-small (row_of case.topology run name).state within in
    let is = next.may.next_line in
    let in_time = injected-in_time (source_of case part) line item (source_of-source case part next.runs) next.may.of_line in (
      subst (λ n. n < 2 ^ 32) (sym is) cursor,
      record {
        key = injected-each (λ (r : Record). IsKey r.key) case part line item next.keyed next.may.of_line;
        stamp = omega (arith, in_time);
        value = injected-each (λ (r : Record). Fits r.value) case part line item next.valued next.may.of_line;
      },
    )

-- ---- floors

-- a floor is at most the next commit number
floor-small : (run : Run) → floor_of run ≤ run.next
floor-small run = fold_min-bound run.next
    (map (λ (d : Delivery). d.id.commit) (flat_map (λ (r : RowName × Contents). r.1.pending) run.rows))

-- ---- the entries

-- an entry that may come next is within the bounds of its types
IsEntry-next : (case : CaseShape) (history : List Entry) (entry : Entry) → IsNext case history entry → IsEntry entry
IsEntry-next case history (Claim worker interval) next =
    let few = next.runs.topology.few_intervals in
    let worker_there = next.may.worker_there in
    let interval_there = next.may.interval_there in
    (omega (arith, worker_there), omega (arith, interval_there, few))
IsEntry-next case history (Inject seq part line item) next =
    let entry = Inject seq part line item in
    let name : RowName = record { part = part; key = [] } in
    let of_line = inject-line case history seq part line item next in
    (seq-small case history entry name seq next refl refl, (written-name case history entry name next refl).part, of_line.0, of_line.1)
IsEntry-next case history (Handle seq row id effects) next =
    let entry = Handle seq row id effects in
    let short = next.short in (
      seq-small case history entry row seq next refl refl,
      written-name case history entry row next refl,
      waiting-id case history id next.may.delivery next.runs next.legal (omega (arith, short)) next.may.waits,
      caused-outcome case history entry row _ effects next
          (caused-handle case (run_of case.topology history) seq row id effects row next.may refl),
    )
IsEntry-next case history (Fire seq row timer mark effects) next =
    let entry = Fire seq row timer mark effects in
    let run = run_of case.topology history in
    let low = low_under-end case run (parts_of case.topology) row.part in
    let under = next.may.under_watermark in (
      seq-small case history entry row seq next refl refl,
      written-name case history entry row next refl,
      fire-timer case history seq row timer mark effects next,
      omega (arith, under, low),
      caused-outcome case history entry row _ effects next
          (caused-fire case run seq row timer mark effects row next.may refl),
    )
IsEntry-next case history (Ack seq row id) next =
    let entry = Ack seq row id in
    let short = next.short in (
      seq-small case history entry row seq next refl refl,
      written-name case history entry row next refl,
      pending-id case history row id next.runs next.legal (omega (arith, short)) next.may.pending,
    )
IsEntry-next case history (Purge seq row floor) next =
    let entry = Purge seq row floor in
    let short = next.short in
    let most = floor-small (run_of case.topology history) in
    let number = next-length case.topology history in
    let finished = next.may.finished in (
      seq-small case history entry row seq next refl refl,
      written-name case history entry row next refl,
      omega (arith, finished, most, number, short),
    )

-- the same, in the words of the law
pub next-entry : (case : CaseShape) (history : List Entry) (entry : Entry) → IsRunnable case → AreKeyed case → AreValued case
    → IsLegal case history → length history + 1 < 2 ^ 32 → MayFollow case (run_of case.topology history) entry
    → IsUnderLastClaim case.topology history entry → IsEntry entry
next-entry case history entry runs keyed valued legal short may under = IsEntry-next case history entry
    (record { runs = runs; keyed = keyed; valued = valued; legal = legal; short = short; may = may; under = under })

-- each entry behind some of a lawful history
behind-entries : (case : CaseShape) (front rest : List Entry) → IsRunnable case → AreKeyed case → AreValued case
    → IsLegalAndFenced case (front ++ rest) → length (front ++ rest) < 2 ^ 32 → AllByRecursion IsEntry rest
behind-entries case front [] runs keyed valued lawful short = tt
behind-entries case front (e ∷ es) runs keyed valued lawful short =
    let parts = AreLegal-apart case front (e ∷ es) empty_run lawful.legal in
    let long = length-append front (e ∷ es) in
    let same : (front ++ e ∷ []) ++ es ≡ front ++ e ∷ es = append_assoc front (e ∷ []) es in (
      next-entry case front e runs keyed valued parts.0 (omega (arith, long, short)) parts.1.0 (lawful.fenced front e (es, same)),
      behind-entries case (front ++ e ∷ []) es runs keyed valued (subst (IsLegalAndFenced case) (sym same) lawful)
          (subst (λ (h : List Entry). length h < 2 ^ 32) (sym same) short),
    )

-- each entry of a lawful history
pub legal-entries : (case : CaseShape) (history : List Entry) → IsRunnable case → AreKeyed case → AreValued case
    → IsLegalAndFenced case history → length history < 2 ^ 32 → AllByRecursion IsEntry history
legal-entries case history = behind-entries case [] history

-- so the line of each tells its choice
pub legal-told : (case : CaseShape) (history : List Entry) (n : ℕ) (entry : Entry) → IsRunnable case → AreKeyed case → AreValued case
    → IsLegalAndFenced case history → length history < 2 ^ 32 → slice_get history n ≡ Some entry
    → choice_at (text_of_entry n entry) ≡ Some (choice_of entry)
legal-told case history n entry runs keyed valued lawful short at =
    let within = slice_get_within history n entry at in
    choice_at-entry n entry (omega (arith, within, short))
    (each-at IsEntry history n entry (legal-entries case history runs keyed valued lawful short) at)
