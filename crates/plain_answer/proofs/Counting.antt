-- The windows of a row of a count are what its deeds make of them.
use Rattle.std.proofs.Common.{◌≡◌, ℕ, ◌==◌, not, true, false, cond, List, [], ◌∷◌, ◌++◌, filter, find, fold, Option, Some, None, IfSome, inl, inr, refl, sym, ◌∙◌, ap, subst}
use Rattle.std.specs.Option.{option_map_or}
use Rattle.std.specs.Ordering.{is_eq}
use Rattle.std.specs.BTreeMap.{is_at}
use Rattle.std.specs.Cmp.{tied_itself}
use Rattle.std.proofs.lemmas.List.Sums.{fold-append}
use Rattle.mw_types.specs.declared.identity.RecordId.{RecordId}
use Rattle.mw_types.specs.declared.identity.RowName.{RowName}
use Rattle.mw_types.specs.declared.kind.Kind.TheVariants as kinds
use Rattle.mw_types.specs.declared.state.State.TheVariants as states
use Rattle.mw_types.specs.declared.state.Window.{Window}
use Rattle.mw_types.specs.declared.record.Record.{Record}
use Rattle.mw_types.specs.declared.timer.Timer.{Timer}
use Rattle.mw_types.specs.declared.entry.Entry.{Entry}
use Rattle.mw_types.specs.declared.entry.Entry.TheVariants.{Handle, Fire, Ack, Purge}
use Rattle.mw_types.specs.Orders.{row_cmp}
use Rattle.mw_types.specs.Outcomes.{EffectsView}
use Rattle.mw_types.proofs.OrderLaws.{row_cmp-total}
use Rattle.topology.specs.Shapes.{Shape, kind_of}
use Rattle.computations.specs.Handlers.{fresh_state, one_more, unchanged, outcome_with_timer, counted, count_record, count_timer, window_due, window_end, OfRecord, OfTimer}
use Rattle.computations.specs.LeavingLaws.{find-number}
use Rattle.row_parts.specs.Contents.{found_delivery}
use Rattle.run_history.specs.Cases.{CaseShape}
use Rattle.run_history.specs.Made.{row_written}
use Rattle.run_history.specs.Runs.{Run, run_of, row_of, followed, empty_run}
use Rattle.run_history.specs.Legal.{MayHandle, MayFire, MayFollow, IsLegal}
use Rattle.list_lemmas.proofs.Lists.{none_some}
use Rattle.history_laws.proofs.Along.{along_history}
use Rattle.history_laws.proofs.RowSteps.{same_row, on_row_or_not, row_of-here, row_of-elsewhere}
use Rattle.plain_answer.specs.Deeds.{Deed, took, fired, after_deed, windows_after, taken, deeds_in, Told, told, told_of, deeds_of}
use Rattle.plain_answer.proofs.Causes.{kind-left, by_entry}

-- ---- what the handlers leave

-- what a count leaves of a record is what it takes
record-state : (size late : ℕ) (ws : List Window) (item : Record)
    → (l : ℕ) × ((count_record size late ws item).state ≡ states.Count l (after_deed size ws (took item.stamp item.late)))
record-state size late ws item =
    elim item.late as
    (λ b. (l : ℕ) × ((cond b (unchanged (states.Count (one_more late) ws))
    (outcome_with_timer (states.Count late (counted ws (window_end size item.stamp))) (window_end size item.stamp) item)).state
    ≡ states.Count l (after_deed size ws (took item.stamp b)))) [
      | true ↦ (one_more late, refl)
      | false ↦ (late, refl)
    ]

-- where no window ends at a time, none is taken away
filter-none : (time : ℕ) (ws : List Window) → find (λ (w : Window). w.end == time) ws ≡ None
    → filter (λ (w : Window). not (w.end == time)) ws ≡ ws
filter-none time [] none = refl
filter-none time (w ∷ ws) none =
    elim (w.end == time) as
    (λ b. cond b (Some w) (find (λ (w : Window). w.end == time) ws) ≡ None
    → cond (not b) (w ∷ filter (λ (w : Window). not (w.end == time)) ws) (filter (λ (w : Window). not (w.end == time)) ws) ≡ w ∷ ws) [
      | true ↦ λ e. absurd (none_some w (sym e))
      | false ↦ λ e. ap (λ l. w ∷ l) (filter-none time ws e)
    ] none

-- a window that is due is taken away
closed-state : (key : List ℕ) (late time : ℕ) (ws : List Window) (due : Option Window) → find (λ (w : Window). w.end == time) ws ≡ due
    → IfSome due (λ w. w.end ≡ time)
    → (count_timer key late ws due).state ≡ states.Count late (filter (λ (w : Window). not (w.end == time)) ws)
closed-state key late time ws None found ends = ap (states.Count late) (sym (filter-none time ws found))
closed-state key late time ws (Some due) found ends = ap (λ t. states.Count late (filter (λ (w : Window). not (w.end == t)) ws)) ends

-- what a count leaves of a timer is what it fires
timer-state : (size : ℕ) (key : List ℕ) (late : ℕ) (ws : List Window) (timer : Timer)
    → (count_timer key late ws (window_due ws timer)).state
    ≡ states.Count late (fold (after_deed size) ws (cond (timer.tag == 0) (fired timer.time ∷ []) []))
timer-state size key late ws timer =
    elim (timer.tag == 0) as
    (λ b. (count_timer key late ws (cond b (find (λ (w : Window). w.end == timer.time) ws) None)).state
    ≡ states.Count late (fold (after_deed size) ws (cond b (fired timer.time ∷ []) []))) [
      | true ↦ closed-state key late timer.time ws (find (λ (w : Window). w.end == timer.time) ws) refl
          (find-number (λ (w : Window). w.end) timer.time ws)
      | false ↦ refl
    ]

-- ---- one more entry

-- a name ties with itself
pub tie : (name : RowName) → is_at (row_cmp name) name ≡ true
tie name = ap is_eq (tied_itself row_cmp-total name)

-- and with no other
pub apart-false : (name row : RowName) → (Some row ≡ Some name → ⊥) → is_at (row_cmp name) row ≡ false
apart-false name row apart = elim (is_at (row_cmp name) row) as (λ b. is_at (row_cmp name) row ≡ b → b ≡ false) [
  | true ↦ λ e. absurd (apart (ap Some (sym (same_row name row e))))
  | false ↦ λ e. refl
] refl

-- an entry that is not on a row does nothing there
pub deeds-apart : (name : RowName) (run : Run) (entry : Entry) → (row_written entry ≡ Some name → ⊥) → deeds_in name run entry ≡ []
deeds-apart name run (Handle seq row id effects) apart =
    ap (λ b. cond b (taken (found_delivery id run.unhandled)) []) (apart-false name row apart)
deeds-apart name run (Fire seq row timer mark effects) apart =
    ap (λ b. cond b (cond (timer.tag == 0) (fired timer.time ∷ []) []) []) (apart-false name row apart)
deeds-apart name run _ apart = refl

module _ (case : CaseShape) (name : RowName) (size : ℕ) (kind : kind_of case.topology name.part ≡ Some (kinds.Count size)) where
  abbrev shape : Shape
  shape = case.topology

  -- the windows of the row are what its deeds make of them
  pub record IsCounted (s : Told) : Type 0 where
    pub late : ℕ
    pub is : (row_of shape s.run name).state ≡ states.Count late (windows_after size s.deeds)

  -- with some more deeds
  more : (s : Told) (entry : Entry) (late : ℕ) (ds : List Deed) → deeds_in name s.run entry ≡ ds
      → (row_of shape (followed shape s.run entry) name).state ≡ states.Count late (fold (after_deed size) (windows_after size s.deeds) ds)
      → IsCounted (told shape name s entry)
  more s entry late ds does state = record {
    late = late;
    is = state ∙ ap (λ l. states.Count late (fold (after_deed size) (windows_after size s.deeds) l)) (sym does)
        ∙ ap (states.Count late) (sym (fold-append (after_deed size) [] s.deeds (deeds_in name s.run entry)));
  }

  -- an entry that leaves the state
  same-state : (s : Told) (entry : Entry) → IsCounted s → deeds_in name s.run entry ≡ []
      → (row_of shape (followed shape s.run entry) name).state ≡ (row_of shape s.run name).state → IsCounted (told shape name s entry)
  same-state s entry has does state = more s entry has.late [] does (state ∙ has.is)

  -- a record is handled
  handles : (s : Told) (seq : ℕ) (id : RecordId) (effects : EffectsView) → IsCounted s → MayHandle case s.run name id effects
      → IsCounted (told shape name s (Handle seq name id effects))
  handles s seq id effects has may =
      let entry : Entry = Handle seq name id effects in
      let ws : List Window = windows_after size s.deeds in
      let item : Record = may.delivery.item in
      let left : count_record size has.late ws item ≡ effects =
      kind-left case name (row_of shape s.run name) (OfRecord item) effects
      (kinds.Count size) (states.Count has.late ws) kind has.is may.does in
      let state = record-state size has.late ws item in
      let here : (row_of shape (followed shape s.run entry) name).state ≡ effects.state =
      ap (λ c. c.state) (row_of-here shape s.run entry name refl) in
      let takes : deeds_in name s.run entry ≡ took item.stamp item.late ∷ [] =
      ap (λ b. cond b (taken (found_delivery id s.run.unhandled)) []) (tie name) ∙ ap taken may.waits in
      more s entry state.0 (took item.stamp item.late ∷ []) takes (here ∙ ap (λ (o : EffectsView). o.state) (sym left) ∙ state.1)

  -- a timer fires
  fires : (s : Told) (seq : ℕ) (timer : Timer) (mark : ℕ) (effects : EffectsView) → IsCounted s → MayFire case s.run name timer mark effects
      → IsCounted (told shape name s (Fire seq name timer mark effects))
  fires s seq timer mark effects has may =
      let entry : Entry = Fire seq name timer mark effects in
      let ws : List Window = windows_after size s.deeds in
      let left : count_timer name.key has.late ws (window_due ws timer) ≡ effects =
      kind-left case name (row_of shape s.run name)
      (OfTimer timer) effects (kinds.Count size) (states.Count has.late ws) kind has.is may.does in
      let here : (row_of shape (followed shape s.run entry) name).state ≡ effects.state =
      ap (λ c. c.state) (row_of-here shape s.run entry name refl) in
      let ds : List Deed = cond (timer.tag == 0) (fired timer.time ∷ []) [] in
      let does_fire : deeds_in name s.run entry ≡ ds = ap (λ b. cond b ds []) (tie name) in
      more s entry has.late ds does_fire (here ∙ ap (λ (o : EffectsView). o.state) (sym left) ∙ timer-state size name.key has.late ws timer)

  -- any entry
  pub step : (s : Told) (entry : Entry) → IsCounted s → MayFollow case s.run entry → IsCounted (told shape name s entry)
  step s entry has may = elim (on_row_or_not entry name) [
    | inl here ↦ by_entry case s.run name (kinds.Count size) (λ e. IsCounted (told shape name s e)) kind
        (λ seq id effects m. handles s seq id effects has m)
        (λ seq timer mark effects m. fires s seq timer mark effects has m)
        (λ seq id m. same-state s (Ack seq name id) has refl
        (ap (λ c. c.state) (row_of-here shape s.run (Ack seq name id) name refl)))
        (λ seq floor m. same-state s (Purge seq name floor) has refl
        (ap (λ c. c.state) (row_of-here shape s.run (Purge seq name floor) name refl))) entry may here
    | inr apart ↦ same-state s entry has (deeds-apart name s.run entry apart)
        (ap (λ c. c.state) (row_of-elsewhere shape s.run entry name apart))
  ]

  -- before any entry
  pub fresh-counted : IsCounted (record { run = empty_run; deeds = [] })
  fresh-counted = record { late = 0; is = ap (λ k. option_map_or fresh_state k (states.Injector 0)) kind }

  -- what is told of a history, and the row's windows
  record Holds (done : List Entry) (run : Run) : Type 0 where
    same : run ≡ (told_of shape name done).run
    counted : IsCounted (told_of shape name done)

  -- both with one more entry
  next-holds : (done : List Entry) (run : Run) (entry : Entry) → Holds done run → MayFollow case run entry
      → Holds (done ++ entry ∷ []) (followed shape run entry)
  next-holds done run entry holds may =
      let next : told_of shape name (done ++ entry ∷ []) ≡ told shape name (told_of shape name done) entry =
      fold-append (told shape name) (record { run = empty_run; deeds = [] }) done (entry ∷ []) in
      let follows : MayFollow case (told_of shape name done).run entry = subst (λ (r : Run). MayFollow case r entry) holds.same may in
      record {
        same = ap (λ (r : Run). followed shape r entry) holds.same ∙ ap (λ (s : Told). s.run) (sym next);
        counted = subst IsCounted (sym next) (step (told_of shape name done) entry holds.counted follows);
      }

  -- after each legal history
  pub count-windows : (history : List Entry) → IsLegal case history
      → (late : ℕ) × ((row_of shape (run_of shape history) name).state
      ≡ states.Count late (windows_after size (deeds_of shape name history)))
  count-windows history legal =
      let all = along_history case Holds next-holds (record { same = refl; counted = fresh-counted }) history legal in
      (all.counted.late, ap (λ (r : Run). (row_of shape r name).state) all.same ∙ all.counted.is)
