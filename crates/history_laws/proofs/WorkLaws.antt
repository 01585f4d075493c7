-- Work that is not late never gets older: what one more entry makes of a bound of it.
use Rattle.std.proofs.Common.{◌≡◌, ℕ, zero, suc, ◌+◌, ◌<◌, ◌≤◌, ◌==◌, ◌&&◌, Bool, true, false, List, [], ◌∷◌, map, refl, sym, ◌∙◌, ap, subst, arith, inl, inr}
use Rattle.std.specs.Prelude.{◌⊎◌, Option, Some, None, Contains, MatchBool, not, nat_lt, slice_get}
use Rattle.std.specs.Option.{option_map_or}
use Rattle.std.specs.List.{AllByRecursion}
use Rattle.std.specs.Cmp.{first_so, second_so}
use Rattle.std.proofs.lemmas.Bool.{eqb-true, eq-eqb, ltb-false}
use Rattle.std.proofs.lemmas.List.Elements.{All-contains, All-from_recursion}
use Rattle.mw_types.specs.declared.TheConstants.{INPUT_MAX, END}
use Rattle.mw_types.specs.declared.identity.RecordId.{RecordId}
use Rattle.mw_types.specs.declared.identity.RowName.{RowName}
use Rattle.mw_types.specs.declared.record.Record.{Record}
use Rattle.mw_types.specs.declared.record.Production.{Production}
use Rattle.mw_types.specs.declared.timer.Timer.{Timer}
use Rattle.mw_types.specs.declared.kind.Kind.{Kind}
use Rattle.mw_types.specs.declared.state.State.{State}
use Rattle.mw_types.specs.declared.state.State.TheVariants as states
use Rattle.mw_types.specs.declared.delivery.Delivery.{Delivery}
use Rattle.mw_types.specs.declared.entry.Entry.{Entry}
use Rattle.mw_types.specs.declared.entry.Entry.TheVariants.{Inject, Handle, Fire}
use Rattle.mw_types.specs.Outcomes.{EffectsView}
use Rattle.injector.specs.Sources.{Source, SourceLine, IsSource, stated_at}
use Rattle.topology.specs.declared.subscription.Subscription.{Subscription}
use Rattle.topology.specs.Shapes.{Shape, parts_of, injectors_of, feeds_of, kind_of}
use Rattle.computations.specs.Handlers.{Cause, stamp_of, is_late_cause}
use Rattle.computations.specs.Leaving.{IsTimerAfter, IsProductionAfter}
use Rattle.row_parts.specs.Contents.{Contents, set_again, cursor_in}
use Rattle.run_history.specs.Cases.{CaseShape, is_injector, source_of}
use Rattle.run_history.specs.Made.{row_written, late_cause, deliveries_of, deliveries_made}
use Rattle.run_history.specs.Runs.{Run, row_of, followed, changed, advanced, still_unhandled}
use Rattle.run_history.specs.Watermarks.{cursor_of, source_mark}
use Rattle.run_history.specs.Legal.{MayFollow}
use Rattle.run_history.specs.Finished.{handles}
use Rattle.run_history.specs.Inputs.{IsRunnable}
use Rattle.list_lemmas.proofs.Lists.{none_some, some_same, each-append, each-weaker, each-filter}
use Rattle.history_laws.proofs.Made.{deliveries_made-each}
use Rattle.history_laws.proofs.FeedLaws.{consumers-fed, injector-no_kind}
use Rattle.history_laws.proofs.IdLaws.{AreIds, waits_as_made, still_unhandled-filter}
use Rattle.history_laws.proofs.RowSteps.{row_of-step}
use Rattle.history_laws.proofs.StampLaws.{AreInTime, source_of-source, line_of, line-each, caused-timers, caused-productions}
use Rattle.history_laws.proofs.Caused.{IsCaused, of_standing, caused-handle, caused-fire, caused-sent, caused-there, caused-no_injector}

-- a delivery, where it goes to this part and is not late, has at least this timestamp
abbrev pub WaitsFrom : ℕ → ℕ → Delivery → Type 0
WaitsFrom x part d = ((d.to.part == part) && not d.item.late) ≡ true → x ≤ d.item.stamp

-- a timer, where it is not late, is due at this time or later
abbrev pub DueFrom : ℕ → Timer → Type 0
DueFrom x t = not t.late ≡ true → x ≤ t.time

-- the work of a part that is not late is no older than this
pub record IsWorkFrom (shape : Shape) (run : Run) (x part : ℕ) : Type 0 where
  pub waiting : AllByRecursion (WaitsFrom x part) run.unhandled
  pub timers : (name : RowName) → name.part ≡ part → AllByRecursion (DueFrom x) (row_of shape run name).timers

-- a feeding part states no earlier watermark, or has no older work that is not late
abbrev pub FeedsFrom : CaseShape → Run → ℕ → (ℕ → Type 0) → ℕ → Type 0
FeedsFrom case run x Work part = MatchBool (is_injector case.topology part) (x ≤ source_mark case run part) (Work part)

-- ---- the cause of an entry, where its row's part feeds another part

-- a feeding injector states no earlier watermark
feeding-injector : (case : CaseShape) (run : Run) (x : ℕ) (Work : ℕ → Type 0) (part : ℕ) → is_injector case.topology part ≡ true
    → FeedsFrom case run x Work part → x ≤ source_mark case run part
feeding-injector case run x Work part is from = subst (λ b. MatchBool b (x ≤ source_mark case run part) (Work part)) is from

-- a feeding computation has no older work
feeding-computation : (case : CaseShape) (run : Run) (x : ℕ) (Work : ℕ → Type 0) (part : ℕ) (kind : Kind)
    → kind_of case.topology part ≡ Some kind
    → FeedsFrom case run x Work part → Work part
feeding-computation case run x Work part kind of from =
    elim (is_injector case.topology part) as (λ b. is_injector case.topology part ≡ b
    → MatchBool b (x ≤ source_mark case run part) (Work part) → Work part) [
      | true ↦ λ e f. absurd (injector-no_kind case.topology part kind e of)
      | false ↦ λ e f. f
    ] refl from

-- what is made of productions goes on from a bound, where the bound holds of them if the part feeds the reader and they are not late
made-from : (shape : Shape) (part : ℕ) (productions : List Production) (late : Bool) (commit x reader : ℕ) → part < parts_of shape
    → (Contains (feeds_of shape reader) part → not late ≡ true → AllByRecursion (λ (p : Production). x ≤ p.stamp) productions)
    → AllByRecursion (WaitsFrom x reader) (deliveries_made shape part productions late commit)
made-from shape part productions late commit x reader there from =
    deliveries_made-each shape part productions late commit (λ (s : Subscription). Contains (feeds_of shape s.to) part)
    (λ (p : Production). Contains (feeds_of shape reader) part → not late ≡ true → x ≤ p.stamp)
    (λ (to : RowName) (item : Record). ((to.part == reader) && not item.late) ≡ true → x ≤ item.stamp)
    (λ s p fed q e. q (subst (λ n. Contains (feeds_of shape n) part) (eqb-true s.to reader (first_so (s.to == reader) (not late) e)) fed)
    (second_so (s.to == reader) (not late) e))
    (consumers-fed shape part there) (each productions from)
  where
    each : (ps : List Production) → (Contains (feeds_of shape reader) part → not late ≡ true
        → AllByRecursion (λ (p : Production). x ≤ p.stamp) ps)
        → AllByRecursion (λ (p : Production). Contains (feeds_of shape reader) part → not late ≡ true → x ≤ p.stamp) ps
    each [] from = tt
    each (p ∷ ps) from = ((λ fed on_time. (from fed on_time).0), each ps (λ fed on_time. (from fed on_time).1))

-- productions that are after a cause are after what the cause is after
pub productions-from : (x : ℕ) (cause : Cause) (productions : List Production) → x ≤ stamp_of cause
    → AllByRecursion (IsProductionAfter cause) productions → AllByRecursion (λ (p : Production). x ≤ p.stamp) productions
productions-from x cause productions from each = each-weaker (IsProductionAfter cause) (λ (p : Production). x ≤ p.stamp)
    (λ p (after : IsProductionAfter cause p). let later = after.after in omega (arith, from, later)) productions each

-- a cause, where it is not late, is no older than the work of its row's part
pub caused-from : (case : CaseShape) (run : Run) (entry : Entry) (x : ℕ) (name : RowName) (cause : Cause) (effects : EffectsView)
    → IsCaused case run entry name cause effects → IsWorkFrom case.topology run x name.part
    → not (is_late_cause cause) ≡ true → x ≤ stamp_of cause
caused-from case run entry x name cause effects caused work =
    of_standing case run name cause (WaitsFrom x name.part) (DueFrom x) (λ (c : Cause). not (is_late_cause c) ≡ true → x ≤ stamp_of c)
    work.waiting (work.timers name refl)
    (λ d to waits on_time. waits
    (ap (λ b. b && not d.item.late) (eq-eqb d.to.part name.part (ap (λ (r : RowName). r.part) to)) ∙ on_time))
    (λ t due. due) caused.stands

-- whether the cause of a handled record is late
pub handled-late : (case : CaseShape) (history : List Entry) (run : Run) (seq : ℕ) (row : RowName) (id : RecordId) (effects : EffectsView)
    → AreIds history run
    → (may : MayFollow case run (Handle seq row id effects)) → late_cause run.made (Handle seq row id effects) ≡ may.delivery.item.late
handled-late case history run seq row id effects ids may =
    ap (λ o. option_map_or (λ (d : Delivery). d.item.late) o false) (waits_as_made history run id may.delivery ids may.waits)

-- a record that an injector injects, where it is not late, is no older than the watermark that its file states
pub injected-from : (case : CaseShape) (run : Run) (seq part line : ℕ) (item : Record) → IsRunnable case
    → (may : MayFollow case run (Inject seq part line item))
    → not item.late ≡ true → source_mark case run part ≤ item.stamp
injected-from case run seq part line item runs may on_time =
    let source = source_of case part in
    let rules = source_of-source case part runs in
    let l = line_of source line item may.of_line in
    let late : item.late ≡ nat_lt item.stamp l.0.stated = subst (λ (r : Record). r.late ≡ nat_lt r.stamp l.0.stated) l.2
    (line-each (λ (l : SourceLine). l.item.late ≡ nat_lt l.item.stamp l.stated) source line l.0 rules.lateness l.1) in
    let stated : source_mark case run part ≡ l.0.stated =
    ap (stated_at source) (sym may.next_line) ∙ ap (λ o. option_map_or (λ (l : SourceLine). l.stated) o END) l.1 in
    let below : l.0.stated ≤ item.stamp = ltb-false item.stamp l.0.stated (sym late ∙ off item.late on_time) in
    omega (arith, stated, below)
  where
    off : (b : Bool) → not b ≡ true → b ≡ false
    off true e = cc
    off false e = refl

-- what a cause makes for a part is no older than a bound of what feeds the part
caused-sent_from : (case : CaseShape) (history : List Entry) (run : Run) (entry : Entry) (x reader : ℕ) (name : RowName) (cause : Cause)
    (effects : EffectsView) → IsCaused case run entry name cause effects → IsRunnable case → AreIds history run → AreInTime run
    → AllByRecursion (FeedsFrom case run x (IsWorkFrom case.topology run x)) (feeds_of case.topology reader)
    → AllByRecursion (WaitsFrom x reader) (deliveries_of case.topology run.made run.next entry)
caused-sent_from case history run entry x reader name cause effects caused runs ids in_time feeds =
    caused-sent case run entry name cause effects caused (WaitsFrom x reader)
    (made-from case.topology name.part effects.productions (late_cause run.made entry) run.next x reader
    (caused-there case run entry name cause effects caused)
    (λ fed on_time.
    let work = feeding-computation case run x (IsWorkFrom case.topology run x) name.part caused.outcome.kind caused.outcome.of_part
    (All-contains (FeedsFrom case run x (IsWorkFrom case.topology run x)) (feeds_of case.topology reader) name.part
    (All-from_recursion (FeedsFrom case run x (IsWorkFrom case.topology run x)) (feeds_of case.topology reader) feeds) fed) in
    productions-from x cause effects.productions
    (caused-from case run entry x name cause effects caused work (sym (ap not (caused.late history ids)) ∙ on_time))
    (caused-productions case run entry name cause effects in_time caused runs)))

-- what an entry makes for a part is no older than a bound of what feeds the part
sent-from : (case : CaseShape) (history : List Entry) (run : Run) (entry : Entry) (x reader : ℕ) → IsRunnable case → AreIds history run
    → AreInTime run → MayFollow case run entry
    → AllByRecursion (FeedsFrom case run x (IsWorkFrom case.topology run x)) (feeds_of case.topology reader)
    → AllByRecursion (WaitsFrom x reader) (deliveries_of case.topology run.made run.next entry)
sent-from case history run (Inject seq part line item) x reader runs ids in_time may feeds =
    let below = Rattle.std.proofs.lemmas.Bool.ltb-true part (injectors_of case.topology) may.injector in
    made-from case.topology part (record { key = item.key; stamp = item.stamp; value = item.value } ∷ []) item.late run.next x reader
    (omega (arith, below))
    (λ fed on_time.
    let from = feeding-injector case run x (IsWorkFrom case.topology run x) part may.injector
    (All-contains (FeedsFrom case run x (IsWorkFrom case.topology run x)) (feeds_of case.topology reader) part
    (All-from_recursion (FeedsFrom case run x (IsWorkFrom case.topology run x)) (feeds_of case.topology reader) feeds) fed) in
    let later = injected-from case run seq part line item runs may on_time in
    (omega (arith, from, later), tt))
sent-from case history run (Handle seq row id effects) x reader runs ids in_time may feeds =
    caused-sent_from case history run _ x reader row _ effects (caused-handle case run seq row id effects row may refl) runs ids in_time feeds
sent-from case history run (Fire seq row timer mark effects) x reader runs ids in_time may feeds =
    caused-sent_from case history run _ x reader row _ effects (caused-fire case run seq row timer mark effects row may refl) runs ids
    in_time feeds
sent-from case history run _ x reader runs ids in_time may feeds = tt

-- a timer that is set again is due from a bound of both settings
pub set_again-from : (x : ℕ) (t u : Timer) → t.time ≡ u.time → DueFrom x t → DueFrom x u → DueFrom x (set_again t u)
set_again-from x t u same one other = by_late t.late u.late one other
  where
    by_late : (a b : Bool) → (not a ≡ true → x ≤ t.time) → (not b ≡ true → x ≤ u.time) → not (a && b) ≡ true → x ≤ u.time
    by_late a false one other e = other refl
    by_late false true one other e = let first = one refl in omega (arith, first, same)
    by_late true true one other e = cc

-- the timers that a cause leaves in its row are due from a bound of the part's work
caused-timers_from : (case : CaseShape) (run : Run) (entry : Entry) (sent : List Delivery) (x : ℕ) (name : RowName) (cause : Cause)
    (effects : EffectsView) → IsCaused case run entry name cause effects → IsRunnable case → AreInTime run
    → IsWorkFrom case.topology run x name.part → AllByRecursion (DueFrom x) (changed entry sent (row_of case.topology run name)).timers
caused-timers_from case run entry sent x name cause effects caused runs in_time work =
    caused.timers (DueFrom x) (set_again-from x) sent (row_of case.topology run name)
    (each-weaker (IsTimerAfter cause) (DueFrom x)
    (λ t (after : IsTimerAfter cause t) on_time.
    let later = after.after in
    let from = caused-from case run entry x name cause effects caused work (sym (ap not after.as_late) ∙ on_time) in
    omega (arith, later, from))
    effects.timers (caused-timers case run entry name cause effects in_time caused runs)) (work.timers name refl)

-- the timers that an entry leaves in a row of a part are due from a bound of the part's work
timers-from : (case : CaseShape) (run : Run) (entry : Entry) (sent : List Delivery) (x : ℕ) (name : RowName) → IsRunnable case
    → AreInTime run → MayFollow case run entry
    → row_written entry ≡ Some name → IsWorkFrom case.topology run x name.part
    → AllByRecursion (DueFrom x) (changed entry sent (row_of case.topology run name)).timers
timers-from case run (Handle seq row id effects) sent x name runs in_time may written work =
    caused-timers_from case run _ sent x name _ effects (caused-handle case run seq row id effects name may written) runs in_time work
timers-from case run (Fire seq row timer mark effects) sent x name runs in_time may written work =
    caused-timers_from case run _ sent x name _ effects (caused-fire case run seq row timer mark effects name may written) runs in_time work
timers-from case run _ sent x name runs in_time may written work = work.timers name refl

-- one more entry makes no older work for a part, where what feeds the part has none
pub IsWorkFrom-followed : (case : CaseShape) (history : List Entry) (run : Run) (entry : Entry) (x part : ℕ) → IsRunnable case
    → AreIds history run → AreInTime run → MayFollow case run entry
    → IsWorkFrom case.topology run x part
    → AllByRecursion (FeedsFrom case run x (IsWorkFrom case.topology run x)) (feeds_of case.topology part)
    → IsWorkFrom case.topology (followed case.topology run entry) x part
IsWorkFrom-followed case history run entry x part runs ids in_time may work feeds = record {
  waiting = each-append (WaitsFrom x part) (still_unhandled entry run.unhandled) (deliveries_of case.topology run.made run.next entry)
      (subst (AllByRecursion (WaitsFrom x part)) (sym (still_unhandled-filter entry run.unhandled))
      (each-filter (WaitsFrom x part) (λ (d : Delivery). not (handles d.id entry)) run.unhandled work.waiting))
      (sent-from case history run entry x part runs ids in_time may feeds);
  timers = λ name of. row_of-step case.topology run entry name (λ (c : Contents). AllByRecursion (DueFrom x) c.timers) (work.timers name of)
      (λ written. timers-from case run entry (deliveries_of case.topology run.made run.next entry) x name runs in_time may written
      (subst (IsWorkFrom case.topology run x) (sym of) work));
}

-- ---- the watermark that a source states

-- the line at a place, in the list of what lines state
stated-at : (lines : Source) (n : ℕ) (l : SourceLine) (d : ℕ) → slice_get lines n ≡ Some l
    → Rattle.std.proofs.Common.get_or (map (λ (l : SourceLine). l.stated) lines) n d ≡ l.stated
stated-at [] n l d at = absurd (none_some l at)
stated-at (k ∷ ks) zero l d at = ap (λ (l : SourceLine). l.stated) (some_same k l at)
stated-at (k ∷ ks) (suc n) l d at = stated-at ks n l d at

-- a source states no earlier watermark before its next line
stated_at-rises : (source : Source) (n : ℕ) → IsSource source → stated_at source n ≤ stated_at source (n + 1)
stated_at-rises source n rules = by_next (slice_get source (n + 1)) refl
  where
    high : (o : Option SourceLine) → slice_get source n ≡ o → option_map_or (λ (l : SourceLine). l.stated) o END ≤ END
    high None at = omega arith
    high (Some l) at = let below = line-each (λ (l : SourceLine). l.stated ≤ INPUT_MAX) source n l rules.marks at in omega (arith, below)

    both : (next : SourceLine) → slice_get source (n + 1) ≡ Some next → (o : Option SourceLine) → slice_get source n ≡ o
        → option_map_or (λ (l : SourceLine). l.stated) o END ≤ next.stated
    both next at None now =
        let inside = Rattle.std.proofs.lemmas.Option.slice_get_within source (n + 1) next at in
        let less : n < Rattle.std.proofs.Common.length source = omega (arith, inside) in
        absurd (none_some (Rattle.std.proofs.Common.get_or source n next)
        (sym now ∙ Rattle.std.proofs.lemmas.Option.slice_get-get_or source n next less))
    both next at (Some l) now =
        let inside = Rattle.std.proofs.lemmas.Option.slice_get_within source (n + 1) next at in
        let same_length = Rattle.std.proofs.lemmas.List.length-map source (λ (l : SourceLine). l.stated) in
        let rises = rules.rising n (n + 1) 0 (omega arith) (omega (arith, inside, same_length)) in
        omega (arith, rises, stated-at source n l 0 now, stated-at source (n + 1) next 0 at)

    by_next : (o : Option SourceLine) → slice_get source (n + 1) ≡ o
        → stated_at source n ≤ option_map_or (λ (l : SourceLine). l.stated) o END
    by_next None at = high (slice_get source n) refl
    by_next (Some next) at = both next at (slice_get source n) refl

-- one line more, or none
abbrev IsNextOr : ℕ → ℕ → Type 0
IsNextOr new old = (new ≡ old) ⊎ (new ≡ old + 1)

-- an injector's state is one line further on, where it is an injector's
advanced-next : (s : State) → IsNextOr (cursor_in (advanced s)) (cursor_in s)
advanced-next (states.Injector cursor) = inr refl
advanced-next (states.Count late windows) = inl refl
advanced-next (states.Spike late held known) = inl refl
advanced-next (states.Pass late) = inl refl

-- an entry takes an injector one line further, or leaves its cursor
changed-cursor : (case : CaseShape) (run : Run) (entry : Entry) (sent : List Delivery) (name : RowName) → MayFollow case run entry
    → is_injector case.topology name.part ≡ true
    → row_written entry ≡ Some name
    → IsNextOr (cursor_in (changed entry sent (row_of case.topology run name)).state) (cursor_in (row_of case.topology run name).state)
changed-cursor case run (Inject seq part line item) sent name may is written = advanced-next (row_of case.topology run name).state
changed-cursor case run (Handle seq row id effects) sent name may is written =
    absurd (caused-no_injector case run _ name _ effects (caused-handle case run seq row id effects name may written) is)
changed-cursor case run (Fire seq row timer mark effects) sent name may is written =
    absurd (caused-no_injector case run _ name _ effects (caused-fire case run seq row timer mark effects name may written) is)
changed-cursor case run _ sent name may is written = inl refl

-- one more entry makes no injector state an earlier watermark
pub source_mark-followed : (case : CaseShape) (run : Run) (entry : Entry) (part : ℕ) → IsRunnable case → MayFollow case run entry
    → is_injector case.topology part ≡ true
    → source_mark case run part ≤ source_mark case (followed case.topology run entry) part
source_mark-followed case run entry part runs may is =
    let name : RowName = record { part = part; key = [] } in
    by_case (row_of-step case.topology run entry name (λ (c : Contents). IsNextOr (cursor_in c.state) (cursor_of case run part)) (inl refl)
    (λ written. changed-cursor case run entry (deliveries_of case.topology run.made run.next entry) name may is written))
  where
    by_case : IsNextOr (cursor_of case (followed case.topology run entry) part) (cursor_of case run part)
        → source_mark case run part ≤ source_mark case (followed case.topology run entry) part
    by_case (inl same) = let marks : source_mark case run part ≡ source_mark case (followed case.topology run entry) part = ap
        (stated_at (source_of case part)) (sym same) in omega (arith, marks)
    by_case (inr next) =
        let marks : stated_at (source_of case part) (cursor_of case run part + 1) ≡ source_mark case
        (followed case.topology run entry) part = ap (stated_at (source_of case part)) (sym next) in
        let rises = stated_at-rises (source_of case part) (cursor_of case run part) (source_of-source case part runs) in
        omega (arith, marks, rises)
