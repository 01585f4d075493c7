-- Each timer of a row of a count has the tag 0, is not late, and has an open window.
use Rattle.std.proofs.Common.{◌≡◌, ℕ, ◌==◌, ◌&&◌, ◌||◌, not, Bool, true, false, cond, List, [], ◌∷◌, ◌++◌, filter, find, fold, Some, inl, inr, refl, sym, ◌∙◌, ap, subst, arith}
use Rattle.std.specs.List.{AllByRecursion, list_any}
use Rattle.std.specs.Ordering.{nat_cmp, match_ordering}
use Rattle.std.specs.declared.cmp.Ordering.TheVariants.{Less, Equal, Greater}
use Rattle.std.proofs.lemmas.Bool.Decides.{nat_tests}
use Rattle.std.proofs.lemmas.List.Sums.{fold-append}
use Rattle.mw_types.specs.declared.identity.RecordId.{RecordId}
use Rattle.mw_types.specs.declared.identity.RowName.{RowName}
use Rattle.mw_types.specs.declared.kind.Kind.TheVariants as kinds
use Rattle.mw_types.specs.declared.state.State.TheVariants as states
use Rattle.mw_types.specs.declared.state.Window.{Window}
use Rattle.mw_types.specs.declared.record.Record.{Record}
use Rattle.mw_types.specs.declared.timer.Timer.{Timer}
use Rattle.mw_types.specs.declared.entry.Entry.{Entry}
use Rattle.mw_types.specs.declared.entry.Entry.TheVariants.{Handle, Fire, Ack, Purge}
use Rattle.mw_types.specs.Outcomes.{EffectsView}
use Rattle.topology.specs.Shapes.{Shape, kind_of}
use Rattle.row_parts.specs.Contents.{is_timer, without_timer, set_again, found_delivery}
use Rattle.computations.specs.Handlers.{one_more, unchanged, outcome_with_timer, counted, count_record, window_end, OfRecord}
use Rattle.run_history.specs.Cases.{CaseShape}
use Rattle.run_history.specs.Runs.{Run, run_of, row_of, followed, with_timers}
use Rattle.run_history.specs.Legal.{MayHandle, MayFire, IsLegal}
use Rattle.run_history.proofs.RunLaws.{run_of-push}
use Rattle.history_laws.proofs.RowSteps.{on_row_or_not, row_of-here, row_of-elsewhere}
use Rattle.history_laws.proofs.Caused.{with_timers-each}
use Rattle.list_lemmas.proofs.Lists.{each-weaker}
use Rattle.list_lemmas.proofs.Places.{each-at}
use Rattle.plain_answer.specs.Deeds.{Deed, took, fired, after_deed, windows_after, taken, deeds_in, deeds_of}
use Rattle.plain_answer.proofs.Counting.{count-windows, tie, deeds-apart}
use Rattle.plain_answer.proofs.Causes.{kind-left, by_entry}
use Rattle.plain_answer.proofs.Stories.{deeds-push, along_legal}
use Rattle.plain_answer.proofs.Timing.{or-either}

-- a window that ends there is open
abbrev pub has_window : ℕ → List Window → Bool
has_window end ws = list_any (λ (w : Window). w.end == end) ws

-- a window that is open stays so when a record is counted
has-counted : (end own : ℕ) (ws : List Window) → has_window end ws ≡ true → has_window end (counted ws own) ≡ true
has-counted end own [] has = or-either (own == end) false has
has-counted end own (w ∷ ws) has =
    elim (nat_cmp own w.end) as
    (λ o. has_window end (match_ordering o (record { end = own; count = 1 } ∷ w ∷ ws)
    (record { end = w.end; count = one_more w.count } ∷ ws) (w ∷ counted ws own)) ≡ true) [
      | Less ↦ or-either (own == end) (has_window end (w ∷ ws)) has
      | Equal ↦ has
      | Greater ↦ elim (w.end == end) as (λ b. (b || has_window end ws) ≡ true → (b || has_window end (counted ws own)) ≡ true) [
        | true ↦ λ h. refl
        | false ↦ λ h. has-counted end own ws h
      ] has
    ]

-- and the window in which it is counted is open
has-its-window : (own : ℕ) (ws : List Window) → has_window own (counted ws own) ≡ true
has-its-window own [] = let same : (own == own) ≡ true = grind (arith, nat_tests) in ap (λ b. b || false) same
has-its-window own (w ∷ ws) =
    elim (nat_cmp own w.end) as
    (λ o. nat_cmp own w.end ≡ o → has_window own (match_ordering o (record { end = own; count = 1 } ∷ w ∷ ws)
    (record { end = w.end; count = one_more w.count } ∷ ws) (w ∷ counted ws own)) ≡ true) [
      | Less ↦ λ e. let same : (own == own) ≡ true = grind (arith, nat_tests) in ap (λ b. b || has_window own (w ∷ ws)) same
      | Equal ↦ λ e. let same : (w.end == own) ≡ true = grind (arith, nat_tests) in ap (λ b. b || has_window own ws) same
      | Greater ↦ λ e. or-either (w.end == own) (has_window own (counted ws own)) (has-its-window own ws)
    ] refl

-- a window stays open where one of another time closes
has-others : (end time : ℕ) (ws : List Window) → (end == time) ≡ false → has_window end ws ≡ true
    → has_window end (filter (λ (w : Window). not (w.end == time)) ws) ≡ true
has-others end time [] other has = has
has-others end time (w ∷ ws) other has =
    elim (w.end == time) as
    (λ b. (w.end == time) ≡ b → has_window end (cond (not b) (w ∷ filter (λ (w : Window). not (w.end == time)) ws)
    (filter (λ (w : Window). not (w.end == time)) ws)) ≡ true) [
      | true ↦ λ e.
          let not_here : (w.end == end) ≡ false = grind (arith, nat_tests) in
          has-others end time ws other (sym (ap (λ b. b || has_window end ws) not_here) ∙ has)
      | false ↦ λ e. elim (w.end == end) as
          (λ b. (b || has_window end ws) ≡ true → (b || has_window end (filter (λ (w : Window). not (w.end == time)) ws)) ≡ true) [
            | true ↦ λ h. refl
            | false ↦ λ h. has-others end time ws other h
          ] has
    ] refl

-- where a window is open a search finds one
pub found-window : (end : ℕ) (ws : List Window) → has_window end ws ≡ true
    → (w : Window) × (find (λ (w : Window). w.end == end) ws ≡ Some w)
found-window end [] has = absurd cc
found-window end (w ∷ ws) has =
    elim (w.end == end) as
    (λ b. (b || has_window end ws) ≡ true → (v : Window) × (cond b (Some w) (find (λ (w : Window). w.end == end) ws) ≡ Some v)) [
      | true ↦ λ h. (w, refl)
      | false ↦ λ h. found-window end ws h
    ] has

-- a timer as it is set for an open window
abbrev pub IsSet : List Window → Timer → Type 0
IsSet ws t = (t.tag ≡ 0) × (t.late ≡ false) × (has_window t.time ws ≡ true)

-- a timer that is set again
set_again-set : (ws : List Window) (t u : Timer) → t.time ≡ u.time → IsSet ws t → IsSet ws u → IsSet ws (set_again t u)
set_again-set ws t u same one other = (other.0, ap (λ b. b && u.late) one.1, other.2)

-- a record that is taken
record-set : (size late : ℕ) (ws : List Window) (ts : List Timer) (item : Record) → AllByRecursion (IsSet ws) ts
    → AllByRecursion (IsSet (after_deed size ws (took item.stamp item.late))) (with_timers (count_record size late ws item).timers ts)
record-set size late ws ts item set =
    elim item.late as
    (λ b. item.late ≡ b → AllByRecursion (IsSet (after_deed size ws (took item.stamp b)))
    (with_timers (cond b (unchanged (states.Count (one_more late) ws))
    (outcome_with_timer (states.Count late (counted ws (window_end size item.stamp))) (window_end size item.stamp) item)).timers ts)) [
      | true ↦ λ e. set
      | false ↦ λ e.
          let end : ℕ = window_end size item.stamp in
          let t : Timer = record { tag = 0; time = end; late = item.late } in
          with_timers-each (IsSet (counted ws end)) (set_again-set (counted ws end)) (t ∷ []) ts
          ((refl, e, has-its-window end ws), tt)
          (each-weaker (IsSet ws) (IsSet (counted ws end)) (λ u p. (p.0, p.1, has-counted u.time end ws p.2)) ts set)
    ] refl

-- the other timers, where one fires
others-set : (time : ℕ) (ws : List Window) (ts : List Timer) → AllByRecursion (IsSet ws) ts
    → AllByRecursion (IsSet (filter (λ (w : Window). not (w.end == time)) ws)) (without_timer 0 time ts)
others-set time ws [] set = tt
others-set time ws (u ∷ us) set =
    elim (is_timer 0 time u) as
    (λ b. is_timer 0 time u ≡ b → AllByRecursion (IsSet (filter (λ (w : Window). not (w.end == time)) ws))
    (cond (not b) (u ∷ without_timer 0 time us) (without_timer 0 time us))) [
      | true ↦ λ e. others-set time ws us set.1
      | false ↦ λ e.
          let own : u.tag ≡ 0 = set.0.0 in
          let other : (u.time == time) ≡ false = grind (arith, nat_tests) in
          ((own, set.0.1, has-others u.time time ws other set.0.2), others-set time ws us set.1)
    ] refl

module _ (case : CaseShape) (name : RowName) (size : ℕ) (kind : kind_of case.topology name.part ≡ Some (kinds.Count size)) where
  abbrev shape : Shape
  shape = case.topology

  -- each timer of the row is set for an open window
  abbrev AreSet : List Entry → Type 0
  AreSet h = AllByRecursion (IsSet (windows_after size (deeds_of shape name h))) (row_of shape (run_of shape h) name).timers

  -- with some more deeds
  more : (h : List Entry) (entry : Entry) (ds : List Deed) (ts : List Timer) → deeds_in name (run_of shape h) entry ≡ ds
      → (row_of shape (followed shape (run_of shape h) entry) name).timers ≡ ts
      → AllByRecursion (IsSet (fold (after_deed size) (windows_after size (deeds_of shape name h)) ds)) ts → AreSet (h ++ entry ∷ [])
  more h entry ds ts does timers set =
      subst (λ l. AllByRecursion (IsSet (windows_after size l)) (row_of shape (run_of shape (h ++ entry ∷ [])) name).timers)
      (sym (deeds-push shape name h entry ∙ ap (λ l. deeds_of shape name h ++ l) does))
      (subst (λ ws. AllByRecursion (IsSet ws) (row_of shape (run_of shape (h ++ entry ∷ [])) name).timers)
      (sym (fold-append (after_deed size) [] (deeds_of shape name h) ds))
      (subst (AllByRecursion (IsSet (fold (after_deed size) (windows_after size (deeds_of shape name h)) ds)))
      (sym (ap (λ (r : Run). (row_of shape r name).timers) (run_of-push shape h entry) ∙ timers)) set))

  -- a record is handled
  handles : (h : List Entry) (seq : ℕ) (id : RecordId) (effects : EffectsView) → IsLegal case h
      → MayHandle case (run_of shape h) name id effects → AreSet h → AreSet (h ++ Handle seq name id effects ∷ [])
  handles h seq id effects legal may was =
      let run : Run = run_of shape h in
      let entry : Entry = Handle seq name id effects in
      let ws : List Window = windows_after size (deeds_of shape name h) in
      let ts : List Timer = (row_of shape run name).timers in
      let item : Record = may.delivery.item in
      let counts = count-windows case name size kind h legal in
      let left : count_record size counts.0 ws item ≡ effects =
      kind-left case name (row_of shape run name) (OfRecord item) effects
      (kinds.Count size) (states.Count counts.0 ws) kind counts.1 may.does in
      let takes : deeds_in name run entry ≡ took item.stamp item.late ∷ [] =
      ap (λ b. cond b (taken (found_delivery id run.unhandled)) []) (tie name) ∙ ap taken may.waits in
      more h entry (took item.stamp item.late ∷ []) (with_timers (count_record size counts.0 ws item).timers ts) takes
      (ap (λ c. c.timers) (row_of-here shape run entry name refl) ∙ ap (λ (o : EffectsView). with_timers o.timers ts) (sym left))
      (record-set size counts.0 ws ts item was)

  -- a timer fires
  fires : (h : List Entry) (seq : ℕ) (timer : Timer) (mark : ℕ) (effects : EffectsView)
      → MayFire case (run_of shape h) name timer mark effects → AreSet h → AreSet (h ++ Fire seq name timer mark effects ∷ [])
  fires h seq timer mark effects may was =
      let run : Run = run_of shape h in
      let entry : Entry = Fire seq name timer mark effects in
      let ws : List Window = windows_after size (deeds_of shape name h) in
      let ts : List Timer = (row_of shape run name).timers in
      let tag : timer.tag ≡ 0 = (each-at (IsSet ws) ts 0 timer was may.least_timer).0 in
      let does : deeds_in name run entry ≡ fired timer.time ∷ [] =
      ap (λ b. cond b (cond (timer.tag == 0) (fired timer.time ∷ []) []) []) (tie name)
      ∙ ap (λ n. cond (n == 0) (fired timer.time ∷ []) []) tag in
      more h entry (fired timer.time ∷ []) (without_timer 0 timer.time ts) does
      (ap (λ c. c.timers) (row_of-here shape run entry name refl) ∙ ap (λ n. without_timer n timer.time ts) tag)
      (others-set timer.time ws ts was)

  -- an entry that leaves the row
  same-row : (h : List Entry) (entry : Entry) → AreSet h → deeds_in name (run_of shape h) entry ≡ []
      → (row_of shape (followed shape (run_of shape h) entry) name).timers ≡ (row_of shape (run_of shape h) name).timers
      → AreSet (h ++ entry ∷ [])
  same-row h entry was does timers = more h entry [] (row_of shape (run_of shape h) name).timers does timers was

  -- after each legal history
  pub legal-set : (h : List Entry) → IsLegal case h → AreSet h
  legal-set = along_legal case AreSet (λ h entry legal may was. elim (on_row_or_not entry name) [
    | inl here ↦ by_entry case (run_of shape h) name (kinds.Count size) (λ e. AreSet (h ++ e ∷ [])) kind
        (λ seq id effects m. handles h seq id effects legal m was)
        (λ seq timer mark effects m. fires h seq timer mark effects m was)
        (λ seq id m. same-row h (Ack seq name id) was refl
        (ap (λ c. c.timers) (row_of-here shape (run_of shape h) (Ack seq name id) name refl)))
        (λ seq floor m. same-row h (Purge seq name floor) was refl
        (ap (λ c. c.timers) (row_of-here shape (run_of shape h) (Purge seq name floor) name refl))) entry may here
    | inr apart ↦ same-row h entry was (deeds-apart name (run_of shape h) entry apart)
        (ap (λ c. c.timers) (row_of-elsewhere shape (run_of shape h) entry name apart))
  ]) tt
