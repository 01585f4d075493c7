-- Each open window of a row of a count has a timer.
use Rattle.std.proofs.Common.{◌≡◌, ℕ, ◌==◌, ◌&&◌, ◌||◌, not, Bool, true, false, cond, List, [], ◌∷◌, ◌++◌, filter, fold, Some, inl, inr, refl, sym, ◌∙◌, ap, subst, arith}
use Rattle.std.specs.List.{AllByRecursion, list_any}
use Rattle.std.specs.Ordering.{nat_cmp, match_ordering}
use Rattle.std.specs.declared.cmp.Ordering.TheVariants.{Less, Equal, Greater}
use Rattle.std.proofs.lemmas.List.Sums.{fold-append}
use Rattle.std.proofs.lemmas.Bool.Decides.{nat_tests}
use Rattle.mw_types.specs.declared.identity.RecordId.{RecordId}
use Rattle.mw_types.specs.declared.identity.RowName.{RowName}
use Rattle.mw_types.specs.declared.kind.Kind.TheVariants as kinds
use Rattle.mw_types.specs.declared.state.State.TheVariants as states
use Rattle.mw_types.specs.declared.state.Window.{Window}
use Rattle.mw_types.specs.declared.record.Record.{Record}
use Rattle.mw_types.specs.declared.timer.Timer.{Timer}
use Rattle.mw_types.specs.declared.entry.Entry.{Entry}
use Rattle.mw_types.specs.declared.entry.Entry.TheVariants.{Handle, Fire, Ack, Purge}
use Rattle.mw_types.specs.Orders.{timer_cmp}
use Rattle.mw_types.specs.Outcomes.{EffectsView}
use Rattle.topology.specs.Shapes.{Shape, kind_of}
use Rattle.row_parts.specs.Contents.{with_timer, without_timer, is_timer, set_again, found_delivery}
use Rattle.computations.specs.Entering.{entered-recursion}
use Rattle.computations.specs.Handlers.{one_more, unchanged, outcome_with_timer, counted, count_record, window_end, OfRecord}
use Rattle.run_history.specs.Cases.{CaseShape}
use Rattle.run_history.specs.Runs.{Run, run_of, row_of, followed, empty_run, with_timers}
use Rattle.run_history.specs.Legal.{MayHandle, MayFire, MayFollow, IsLegal}
use Rattle.list_lemmas.proofs.Lists.{each-weaker}
use Rattle.history_laws.proofs.Along.{along_history}
use Rattle.history_laws.proofs.RowSteps.{on_row_or_not, row_of-here, row_of-elsewhere, both_Equal}
use Rattle.plain_answer.specs.Deeds.{Deed, took, fired, after_deed, windows_after, taken, deeds_in, Told, told, told_of, deeds_of}
use Rattle.plain_answer.proofs.Causes.{kind-left, by_entry}
use Rattle.plain_answer.proofs.Counting.{IsCounted, step, fresh-counted, tie, deeds-apart}

-- a timer with the tag 0 is set for this time
abbrev has_timer : ℕ → List Timer → Bool
has_timer time ts = list_any (is_timer 0 time) ts

-- one of two passes where the second does
pub or-either : (a b : Bool) → b ≡ true → (a || b) ≡ true
or-either true b e = refl
or-either false b e = e

-- a timer that was set stays when one more is set
has-mono : (time : ℕ) (t : Timer) (ts : List Timer) → has_timer time ts ≡ true → has_timer time (with_timer t ts) ≡ true
has-mono time t [] has = or-either (is_timer 0 time t) false has
has-mono time t (u ∷ us) has =
    elim (timer_cmp t u) as (λ o. has_timer time (match_ordering o (t ∷ u ∷ us) (set_again t u ∷ us) (u ∷ with_timer t us)) ≡ true) [
      | Less ↦ or-either (is_timer 0 time t) (has_timer time (u ∷ us)) has
      | Equal ↦ has
      | Greater ↦ elim (is_timer 0 time u) as (λ b. (b || has_timer time us) ≡ true → (b || has_timer time (with_timer t us)) ≡ true) [
        | true ↦ λ h. refl
        | false ↦ λ h. has-mono time t us h
      ] has
    ]

-- timers that tie have one time and one tag
tie_same : (a b : Timer) → timer_cmp a b ≡ Equal → (a.time ≡ b.time) × (a.tag ≡ b.tag)
tie_same a b e =
    let both = both_Equal (nat_cmp a.time b.time) (nat_cmp a.tag b.tag) e in
    let time : nat_cmp a.time b.time ≡ Equal = both.0 in
    let tag : nat_cmp a.tag b.tag ≡ Equal = both.1 in
    (grind (arith, nat_tests), grind (arith, nat_tests))

-- a timer with the tag 0 is one of its time
own-timer : (t : Timer) → t.tag ≡ 0 → is_timer 0 t.time t ≡ true
own-timer t zero_tag = grind (arith, nat_tests)

-- and the one that is set is there
has-own : (t : Timer) (ts : List Timer) → t.tag ≡ 0 → has_timer t.time (with_timer t ts) ≡ true
has-own t [] zero_tag = ap (λ b. b || false) (own-timer t zero_tag)
has-own t (u ∷ us) zero_tag =
    elim (timer_cmp t u) as (λ o. timer_cmp t u ≡ o
    → has_timer t.time (match_ordering o (t ∷ u ∷ us) (set_again t u ∷ us) (u ∷ with_timer t us)) ≡ true) [
      | Less ↦ λ e. ap (λ b. b || has_timer t.time (u ∷ us)) (own-timer t zero_tag)
      | Equal ↦ λ e.
          let same = tie_same t u e in
          let time : t.time ≡ u.time = same.0 in
          let tag : t.tag ≡ u.tag = same.1 in
          let here : is_timer 0 t.time u ≡ true = grind (arith, nat_tests) in
          ap (λ b. b || has_timer t.time us) here
      | Greater ↦ λ e. or-either (is_timer 0 t.time u) (has_timer t.time (with_timer t us)) (has-own t us zero_tag)
    ] refl

-- a timer of another time, or where another tag is taken, stays
has-without : (time tag at : ℕ) (ts : List Timer) → ((tag == 0) && (time == at)) ≡ false → has_timer time ts ≡ true
    → has_timer time (without_timer tag at ts) ≡ true
has-without time tag at [] other has = has
has-without time tag at (u ∷ us) other has =
    elim (is_timer tag at u) as
    (λ b. is_timer tag at u ≡ b → has_timer time (cond (not b) (u ∷ without_timer tag at us) (without_timer tag at us)) ≡ true) [
      | true ↦ λ e.
          let not_here : is_timer 0 time u ≡ false = grind (arith, nat_tests) in
          has-without time tag at us other (sym (ap (λ b. b || has_timer time us) not_here) ∙ has)
      | false ↦ λ e. elim (is_timer 0 time u) as (λ b. (b || has_timer time us) ≡ true
          → (b || has_timer time (without_timer tag at us)) ≡ true) [
            | true ↦ λ h. refl
            | false ↦ λ h. has-without time tag at us other h
          ] has
    ] refl

-- each window has a timer
abbrev AreTimed : List Window → List Timer → Type 0
AreTimed ws ts = AllByRecursion (λ (w : Window). has_timer w.end ts ≡ true) ws

-- a record that is taken
record-timed : (size late : ℕ) (ws : List Window) (ts : List Timer) (item : Record) → AreTimed ws ts
    → AreTimed (after_deed size ws (took item.stamp item.late)) (with_timers (count_record size late ws item).timers ts)
record-timed size late ws ts item timed =
    elim item.late as
    (λ b. AreTimed (after_deed size ws (took item.stamp b)) (with_timers (cond b (unchanged (states.Count (one_more late) ws))
    (outcome_with_timer (states.Count late (counted ws (window_end size item.stamp))) (window_end size item.stamp) item)).timers ts)) [
      | true ↦ timed
      | false ↦
          let end : ℕ = window_end size item.stamp in
          let t : Timer = record { tag = 0; time = end; late = item.late } in
          entered-recursion (λ (w : Window). w.end) (record { end = end; count = 1 })
          (λ (w : Window). record w { count = one_more w.count })
          (λ (w : Window). has_timer w.end (with_timer t ts) ≡ true) (has-own t ts refl) (λ w p. p) ws
          (each-weaker (λ (w : Window). has_timer w.end ts ≡ true) (λ (w : Window). has_timer w.end (with_timer t ts) ≡ true)
          (λ w p. has-mono w.end t ts p) ws timed)
    ]

-- windows but for one, and timers but for its own
closed-timed : (at : ℕ) (ws : List Window) (ts : List Timer) → AreTimed ws ts
    → AreTimed (filter (λ (w : Window). not (w.end == at)) ws) (without_timer 0 at ts)
closed-timed at [] ts timed = tt
closed-timed at (w ∷ ws) ts timed =
    elim (w.end == at) as
    (λ b. (w.end == at) ≡ b → AreTimed (cond (not b) (w ∷ filter (λ (w : Window). not (w.end == at)) ws)
    (filter (λ (w : Window). not (w.end == at)) ws)) (without_timer 0 at ts)) [
      | true ↦ λ e. closed-timed at ws ts timed.1
      | false ↦ λ e. (has-without w.end 0 at ts e timed.0, closed-timed at ws ts timed.1)
    ] refl

-- a timer that fires
timer-timed : (size : ℕ) (ws : List Window) (ts : List Timer) (timer : Timer) → AreTimed ws ts
    → AreTimed (fold (after_deed size) ws (cond (timer.tag == 0) (fired timer.time ∷ []) [])) (without_timer timer.tag timer.time ts)
timer-timed size ws ts timer timed =
    elim (timer.tag == 0) as
    (λ b. (timer.tag == 0) ≡ b → AreTimed (fold (after_deed size) ws (cond b (fired timer.time ∷ []) []))
    (without_timer timer.tag timer.time ts)) [
      | true ↦ λ e.
          let zero_tag : 0 ≡ timer.tag = grind (arith, nat_tests) in
          subst (λ n. AreTimed (filter (λ (w : Window). not (w.end == timer.time)) ws) (without_timer n timer.time ts)) zero_tag
          (closed-timed timer.time ws ts timed)
      | false ↦ λ e. each-weaker (λ (w : Window). has_timer w.end ts ≡ true)
          (λ (w : Window). has_timer w.end (without_timer timer.tag timer.time ts) ≡ true)
          (λ w p. has-without w.end timer.tag timer.time ts (ap (λ b. b && (w.end == timer.time)) e) p) ws timed
    ] refl

module _ (case : CaseShape) (name : RowName) (size : ℕ) (kind : kind_of case.topology name.part ≡ Some (kinds.Count size)) where
  abbrev shape : Shape
  shape = case.topology

  -- the windows and the timers of the row
  record IsTimed (s : Told) : Type 0 where
    counted : IsCounted case name size kind s
    timed : AreTimed (windows_after size s.deeds) (row_of shape s.run name).timers

  -- with some more deeds
  more : (s : Told) (entry : Entry) (ds : List Deed) (ts : List Timer) → IsTimed s → MayFollow case s.run entry
      → deeds_in name s.run entry ≡ ds
      → (row_of shape (followed shape s.run entry) name).timers ≡ ts → AreTimed (fold (after_deed size) (windows_after size s.deeds) ds) ts
      → IsTimed (told shape name s entry)
  more s entry ds ts has may does timers timed = record {
    counted = step case name size kind s entry has.counted may;
    timed = subst (λ l. AreTimed l (row_of shape (followed shape s.run entry) name).timers)
        (sym (fold-append (after_deed size) [] s.deeds (deeds_in name s.run entry)))
        (subst (λ l. AreTimed (fold (after_deed size) (windows_after size s.deeds) l)
        (row_of shape (followed shape s.run entry) name).timers) (sym does)
        (subst (λ l. AreTimed (fold (after_deed size) (windows_after size s.deeds) ds) l) (sym timers) timed));
  }

  -- a record is handled
  handles : (s : Told) (seq : ℕ) (id : RecordId) (effects : EffectsView) → IsTimed s → (may : MayHandle case s.run name id effects)
      → IsTimed (told shape name s (Handle seq name id effects))
  handles s seq id effects has may =
      let entry : Entry = Handle seq name id effects in
      let ws : List Window = windows_after size s.deeds in
      let ts : List Timer = (row_of shape s.run name).timers in
      let item : Record = may.delivery.item in
      let late : ℕ = has.counted.late in
      let left : count_record size late ws item ≡ effects =
      kind-left case name (row_of shape s.run name) (OfRecord item) effects
      (kinds.Count size) (states.Count late ws) kind has.counted.is may.does in
      let here : (row_of shape (followed shape s.run entry) name).timers ≡ with_timers effects.timers ts =
      ap (λ c. c.timers) (row_of-here shape s.run entry name refl) in
      let takes : deeds_in name s.run entry ≡ took item.stamp item.late ∷ [] =
      ap (λ b. cond b (taken (found_delivery id s.run.unhandled)) []) (tie name) ∙ ap taken may.waits in
      more s entry (took item.stamp item.late ∷ []) (with_timers (count_record size late ws item).timers ts) has may takes
      (here ∙ ap (λ (o : EffectsView). with_timers o.timers ts) (sym left)) (record-timed size late ws ts item has.timed)

  -- a timer fires
  fires : (s : Told) (seq : ℕ) (timer : Timer) (mark : ℕ) (effects : EffectsView) → IsTimed s → MayFire case s.run name timer mark effects
      → IsTimed (told shape name s (Fire seq name timer mark effects))
  fires s seq timer mark effects has may =
      let entry : Entry = Fire seq name timer mark effects in
      let ts : List Timer = (row_of shape s.run name).timers in
      let here : (row_of shape (followed shape s.run entry) name).timers ≡ without_timer timer.tag timer.time ts =
      ap (λ c. c.timers) (row_of-here shape s.run entry name refl) in
      let ds : List Deed = cond (timer.tag == 0) (fired timer.time ∷ []) [] in
      more s entry ds (without_timer timer.tag timer.time ts) has may (ap (λ b. cond b ds []) (tie name)) here
      (timer-timed size (windows_after size s.deeds) ts timer has.timed)

  -- an entry that leaves the row
  same-row : (s : Told) (entry : Entry) → IsTimed s → MayFollow case s.run entry → deeds_in name s.run entry ≡ []
      → (row_of shape (followed shape s.run entry) name).timers ≡ (row_of shape s.run name).timers → IsTimed (told shape name s entry)
  same-row s entry has may does timers = more s entry [] (row_of shape s.run name).timers has may does timers has.timed

  -- any entry
  timed-step : (s : Told) (entry : Entry) → IsTimed s → MayFollow case s.run entry → IsTimed (told shape name s entry)
  timed-step s entry has may = elim (on_row_or_not entry name) [
    | inl here ↦ by_entry case s.run name (kinds.Count size) (λ e. IsTimed (told shape name s e)) kind
        (λ seq id effects m. handles s seq id effects has m)
        (λ seq timer mark effects m. fires s seq timer mark effects has m)
        (λ seq id m. same-row s (Ack seq name id) has m refl
        (ap (λ c. c.timers) (row_of-here shape s.run (Ack seq name id) name refl)))
        (λ seq floor m. same-row s (Purge seq name floor) has m refl
        (ap (λ c. c.timers) (row_of-here shape s.run (Purge seq name floor) name refl))) entry may here
    | inr apart ↦ same-row s entry has may (deeds-apart name s.run entry apart)
        (ap (λ c. c.timers) (row_of-elsewhere shape s.run entry name apart))
  ]

  -- the run is the history's, and each window has a timer
  record Holds (done : List Entry) (run : Run) : Type 0 where
    same : run ≡ (told_of shape name done).run
    is_timed : IsTimed (told_of shape name done)

  -- both with one more entry
  next-holds : (done : List Entry) (run : Run) (entry : Entry) → Holds done run → MayFollow case run entry
      → Holds (done ++ entry ∷ []) (followed shape run entry)
  next-holds done run entry holds may =
      let next : told_of shape name (done ++ entry ∷ []) ≡ told shape name (told_of shape name done) entry =
      fold-append (told shape name) (record { run = empty_run; deeds = [] }) done (entry ∷ []) in
      let follows : MayFollow case (told_of shape name done).run entry = subst (λ (r : Run). MayFollow case r entry) holds.same may in
      record {
        same = ap (λ (r : Run). followed shape r entry) holds.same ∙ ap (λ (s : Told). s.run) (sym next);
        is_timed = subst IsTimed (sym next) (timed-step (told_of shape name done) entry holds.is_timed follows);
      }

  -- without timers there is no window
  none-timed : (ws : List Window) → AreTimed ws [] → ws ≡ []
  none-timed [] timed = refl
  none-timed (w ∷ ws) timed = absurd (no_false timed.0)
    where
      no_false : false ≡ true → ⊥
      no_false e = cc

  -- where the row has no timers no window is open
  pub no-window : (history : List Entry) → IsLegal case history → (row_of shape (run_of shape history) name).timers ≡ []
      → windows_after size (deeds_of shape name history) ≡ []
  no-window history legal none =
      let all = along_history case Holds next-holds
      (record { same = refl; is_timed = record { counted = fresh-counted case name size kind; timed = tt } }) history legal in
      let timers : (row_of shape (told_of shape name history).run name).timers ≡ [] =
      ap (λ (r : Run). (row_of shape r name).timers) (sym all.same) ∙ none in
      none-timed (windows_after size (deeds_of shape name history))
      (subst (λ ts. AreTimed (windows_after size (deeds_of shape name history)) ts) timers all.is_timed.timed)
