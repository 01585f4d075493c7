-- Which window of a row of a count is open, by what the row took and fired.
use Rattle.std.proofs.Common.{◌≡◌, ℕ, zero, ◌+◌, ◌<◌, ◌≤◌, ◌==◌, not, Bool, true, false, cond, List, [], ◌∷◌, ◌++◌, length, find, fold, Option, Some, None, inl, inr, ◌⊎◌, refl, sym, ◌∙◌, ap, subst, arith, length-append}
use Rattle.std.specs.BTreeMap.{is_at}
use Rattle.std.proofs.lemmas.Bool.{eq-eqb, and_from, cases_lt}
use Rattle.std.proofs.lemmas.List.{append-nil}
use Rattle.std.proofs.lemmas.List.Sums.{fold-append, sum_by-append}
use Rattle.std.proofs.lemmas.Bool.Decides.{nat_tests}
use Rattle.mw_types.specs.declared.TheConstants.{MAX_STAMP}
use Rattle.mw_types.specs.declared.identity.RecordId.{RecordId}
use Rattle.mw_types.specs.declared.identity.RowName.{RowName}
use Rattle.mw_types.specs.declared.kind.Kind.TheVariants as kinds
use Rattle.mw_types.specs.declared.state.Window.{Window}
use Rattle.mw_types.specs.declared.delivery.Delivery.{Delivery}
use Rattle.mw_types.specs.declared.entry.Entry.{Entry}
use Rattle.mw_types.specs.declared.entry.Entry.TheVariants.{Handle, Fire}
use Rattle.mw_types.specs.Orders.{row_cmp}
use Rattle.topology.specs.Shapes.{Shape, kind_of, parts_of}
use Rattle.row_parts.specs.Contents.{same_id, found_delivery}
use Rattle.computations.specs.Handlers.{window_end}
use Rattle.run_history.specs.Cases.{CaseShape}
use Rattle.run_history.specs.Runs.{Run, run_of, followed, empty_run}
use Rattle.run_history.specs.Watermarks.{low_watermark}
use Rattle.run_history.specs.Legal.{MayFollow, IsLegal}
use Rattle.run_history.specs.Inputs.{IsRunnable}
use Rattle.list_lemmas.proofs.Lists.{find-each}
use Rattle.history_laws.proofs.Along.{along_history}
use Rattle.history_laws.proofs.FeedLaws.{kind-ranged}
use Rattle.history_laws.proofs.IdLaws.{AreIds, AreIds-followed, legal-ids}
use Rattle.history_laws.proofs.LowLaws.{LowFrom, low-from, LowFrom-any_depth, LowFrom-followed}
use Rattle.history_laws.proofs.PendingLaws.{kind-there}
use Rattle.history_laws.proofs.RowSteps.{same_row}
use Rattle.history_laws.proofs.StampLaws.{AreInTime, AreInTime-followed, legal-in_time}
use Rattle.history_laws.proofs.WorkLaws.{WaitsFrom, IsWorkFrom}
use Rattle.plain_answer.specs.Deeds.{Deed, took, fired, after_deed, windows_after, fired_at, fires_at, open_window, IsTimely, taken, deeds_in, Told, told, told_of, deeds_of}
use Rattle.plain_answer.proofs.Grading.{AreGraded, next-graded, waits-small}
use Rattle.plain_answer.proofs.WindowLaws.{HasWindows, HasWindows-next}

-- what an entry does on a row: nothing, or one thing that keeps windows that fired closed
abbrev pub Does : ℕ → List Deed → List Deed → Type 0
Does size done ds = (ds ≡ []) ⊎ ((d : Deed) × (ds ≡ d ∷ []) × IsTimely size done d)

module _ (case : CaseShape) (name : RowName) (size : ℕ) (runs : IsRunnable case)
    (kind : kind_of case.topology name.part ≡ Some (kinds.Count size)) where
  abbrev shape : Shape
  shape = case.topology

  -- the part is there
  there : name.part < parts_of shape
  there = kind-there shape name.part (kinds.Count size) kind

  -- windows last something
  some_size : 1 ≤ size
  some_size = (kind-ranged shape name.part (kinds.Count size) runs.topology kind).0

  -- each time that the row fired is passed
  abbrev pub ArePassed : List Deed → Run → Type 0
  ArePassed deeds run = (time : ℕ) → 0 < fired_at time deeds → (depth : ℕ) → LowFrom case run time depth name.part

  -- a record in time goes into no window that fired
  timely : (deeds : List Deed) (run : Run) (id : RecordId) (d : Delivery) → ArePassed deeds run
      → AreGraded shape run
      → found_delivery id run.unhandled ≡ Some d → d.to ≡ name → (late : Bool) → d.item.late ≡ late
      → IsTimely size deeds (took d.item.stamp late)
  timely deeds run id d passed below waits to_row true is_late = tt
  timely deeds run id d passed below waits to_row false in_time =
      let end : ℕ = window_end size d.item.stamp in
      elim (cases_lt 0 (fired_at end deeds)) [
        | inl some ↦
            let work : IsWorkFrom shape run end name.part = passed end some zero in
            let from : WaitsFrom end name.part d = find-each (WaitsFrom end name.part)
            (λ (e : Delivery). same_id e.id id) run.unhandled d work.waiting waits in
            let not_before : end ≤ d.item.stamp = from (and_from _ _
            (eq-eqb d.to.part name.part (ap (λ (r : RowName). r.part) to_row)) (ap not in_time)) in
            let small : d.item.stamp < MAX_STAMP = waits-small case run name id d runs below there waits to_row in
            let after : d.item.stamp < end = omega (arith, small, some_size) in
            absurd (omega (arith, not_before, after))
        | inr none ↦ omega (arith, none)
      ]

  -- what an entry does on the row
  pub does : (deeds : List Deed) (run : Run) (entry : Entry) → ArePassed deeds run → AreGraded shape run
      → MayFollow case run entry → Does size deeds (deeds_in name run entry)
  does deeds run (Handle seq row id effects) passed below may =
      elim (is_at (row_cmp name) row) as
      (λ b. is_at (row_cmp name) row ≡ b → Does size deeds (cond b (taken (found_delivery id run.unhandled)) [])) [
        | true ↦ λ e. inr (
          took may.delivery.item.stamp may.delivery.item.late,
          ap taken may.waits,
          timely deeds run id may.delivery passed below may.waits (may.to_row ∙ sym (same_row name row e)) may.delivery.item.late refl,
        )
        | false ↦ λ e. inl refl
      ] refl
  does deeds run (Fire seq row timer mark effects) passed below may =
      elim (is_at (row_cmp name) row) as
      (λ b. Does size deeds (cond b (cond (timer.tag == 0) (fired timer.time ∷ []) []) [])) [
        | true ↦ elim (timer.tag == 0) as (λ b. Does size deeds (cond b (fired timer.time ∷ []) [])) [
          | true ↦ inr (fired timer.time, refl, tt)
          | false ↦ inl refl
        ]
        | false ↦ inl refl
      ]
  does deeds run _ passed below may = inl refl

  -- a time that an entry fires on the row is at most the low watermark
  fires-low : (run : Run) (entry : Entry) → MayFollow case run entry → (time : ℕ) → 0 < fired_at time (deeds_in name run entry)
      → time ≤ low_watermark case run name.part
  fires-low run (Handle seq row id effects) may time some =
      elim (is_at (row_cmp name) row) as
      (λ b. 0 < fired_at time (cond b (taken (found_delivery id run.unhandled)) []) → time ≤ low_watermark case run name.part) [
        | true ↦ λ s. absurd (taken-none (found_delivery id run.unhandled) s)
        | false ↦ λ s. absurd (omega (arith, s))
      ] some
    where
      taken-none : (o : Option Delivery) → 0 < fired_at time (taken o) → ⊥
      taken-none None s = omega (arith, s)
      taken-none (Some d) s = omega (arith, s)
  fires-low run (Fire seq row timer mark effects) may time some =
      elim (is_at (row_cmp name) row) as
      (λ b. is_at (row_cmp name) row ≡ b → 0 < fired_at time (cond b (cond (timer.tag == 0) (fired timer.time ∷ []) []) [])
      → time ≤ low_watermark case run name.part) [
        | true ↦ λ e s.
            let part : row.part ≡ name.part = ap (λ (r : RowName). r.part) (sym (same_row name row e)) in
            let mark_low : mark ≤ low_watermark case run name.part = subst
            (λ p. mark ≤ low_watermark case run p) part may.under_watermark in
            let is : time ≡ timer.time = by_tag (timer.tag == 0) s in
            omega (arith, may.due, mark_low, is)
        | false ↦ λ e s. absurd (omega (arith, s))
      ] refl some
    where
      by_time : (b : Bool) → (timer.time == time) ≡ b → 0 < 0 + cond b 1 0 → time ≡ timer.time
      by_time true e s = grind (arith, nat_tests)
      by_time false e s = absurd (omega (arith, s))

      by_tag : (b : Bool) → 0 < fired_at time (cond b (fired timer.time ∷ []) []) → time ≡ timer.time
      by_tag true s = by_time (timer.time == time) refl s
      by_tag false s = absurd (omega (arith, s))
  fires-low run _ may time some = absurd (omega (arith, some))

  -- times that were passed still are, and so is what the entry fires
  passed-next : (done : List Entry) (run : Run) (entry : Entry) (deeds : List Deed) → AreIds done run → AreInTime run
      → MayFollow case run entry
      → ArePassed deeds run → ArePassed (deeds ++ deeds_in name run entry) (followed shape run entry)
  passed-next done run entry deeds ids in_time may passed time some depth =
      LowFrom-followed case done run entry time runs ids in_time may depth name.part before
    where
      before : (any : ℕ) → LowFrom case run time any name.part
      before any = elim (cases_lt 0 (fired_at time deeds)) [
        | inl was ↦ passed time was any
        | inr none ↦
            let sum = sum_by-append (fires_at time) deeds (deeds_in name run entry) in
            let now : 0 < fired_at time (deeds_in name run entry) = omega (arith, some, none, sum) in
            let at_most : name.part ≤ parts_of shape = omega (arith, there) in
            LowFrom-any_depth case run time runs.topology (parts_of shape) name.part at_most
            (low-from case run time (parts_of shape) name.part (fires-low run entry may time now)) any
      ]

  -- one more deed, or none
  windows-next : (deeds ds : List Deed) → length deeds < MAX_STAMP → Does size deeds ds → HasWindows size deeds (windows_after size deeds)
      → HasWindows size (deeds ++ ds) (windows_after size (deeds ++ ds))
  windows-next deeds ds few what has =
      subst (λ ws. HasWindows size (deeds ++ ds) ws) (sym (fold-append (after_deed size) [] deeds ds)) (elim what [
        | inl none ↦ subst (λ l. HasWindows size (deeds ++ l) (fold (after_deed size) (windows_after size deeds) l)) (sym none)
            (subst (λ l. HasWindows size l (windows_after size deeds)) (sym (append-nil deeds)) has)
        | inr one ↦ subst (λ l. HasWindows size (deeds ++ l) (fold (after_deed size) (windows_after size deeds) l)) (sym one.1)
            (HasWindows-next size deeds (windows_after size deeds) one.0 few one.2 has)
      ])

  -- an entry does one thing at most
  few-next : (deeds ds : List Deed) → Does size deeds ds → length (deeds ++ ds) ≤ length deeds + 1
  few-next deeds ds what = elim what [
    | inl none ↦ subst (λ l. length (deeds ++ l) ≤ length deeds + 1) (sym none) (omega (arith, length-append deeds []))
    | inr one ↦ subst (λ l. length (deeds ++ l) ≤ length deeds + 1) (sym one.1) (omega (arith, length-append deeds (one.0 ∷ [])))
  ]

  -- all of it, along a history
  pub record Holds (done : List Entry) (run : Run) : Type 0 where
    pub same : run ≡ (told_of shape name done).run
    pub whole : run ≡ run_of shape done
    pub ids : AreIds done run
    pub in_time : AreInTime run
    pub graded : AreGraded shape run
    pub passed : ArePassed (deeds_of shape name done) run
    pub few : length (deeds_of shape name done) ≤ length done
    pub windows : length done < MAX_STAMP → HasWindows size (deeds_of shape name done) (windows_after size (deeds_of shape name done))

  -- all of it with one more entry
  next-holds : (done : List Entry) (run : Run) (entry : Entry) → Holds done run → MayFollow case run entry
      → Holds (done ++ entry ∷ []) (followed shape run entry)
  next-holds done run entry holds may = record {
    same = ap (λ (r : Run). followed shape r entry) holds.same ∙ ap (λ (s : Told). s.run) (sym next);
    whole = ap (λ (r : Run). followed shape r entry) holds.whole ∙ sym (fold-append (followed shape) empty_run done (entry ∷ []));
    ids = AreIds-followed case done run entry holds.ids may;
    in_time = AreInTime-followed case run entry runs holds.in_time may;
    graded = next-graded case runs done run entry holds.graded may;
    passed = subst (λ ds. ArePassed ds (followed shape run entry)) (sym deeds)
        (passed-next done run entry (deeds_of shape name done) holds.ids holds.in_time may holds.passed);
    few = subst (λ ds. length ds ≤ length (done ++ entry ∷ [])) (sym deeds)
        (omega (arith, few-next (deeds_of shape name done) (deeds_in name run entry) what, holds.few, longer));
    windows = λ short. subst (λ ds. HasWindows size ds (windows_after size ds)) (sym deeds)
        (windows-next (deeds_of shape name done) (deeds_in name run entry) (omega (arith, short, holds.few, longer)) what
        (holds.windows (omega (arith, short, longer))));
  }
    where
      next : told_of shape name (done ++ entry ∷ []) ≡ told shape name (told_of shape name done) entry
      next = fold-append (told shape name) (record { run = empty_run; deeds = [] }) done (entry ∷ [])

      deeds : deeds_of shape name (done ++ entry ∷ []) ≡ deeds_of shape name done ++ deeds_in name run entry
      deeds = ap (λ (s : Told). s.deeds) next ∙ ap (λ (r : Run). deeds_of shape name done ++ deeds_in name r entry) (sym holds.same)

      longer : length (done ++ entry ∷ []) ≡ length done + 1
      longer = length-append done (entry ∷ [])

      what : Does size (deeds_of shape name done) (deeds_in name run entry)
      what = does (deeds_of shape name done) run entry holds.passed holds.graded may

  -- before any entry
  first-holds : Holds [] empty_run
  first-holds = record {
    same = refl;
    whole = refl;
    ids = legal-ids case [] tt;
    in_time = legal-in_time case [] runs tt;
    graded = record { made = tt; waiting = tt; timers = λ other. tt };
    passed = λ time some depth. absurd (omega (arith, some));
    few = omega arith;
    windows = λ short. record { ascending = tt; each = λ end. refl };
  }

  -- after each legal history
  pub holds-all : (history : List Entry) → IsLegal case history → Holds history (run_of shape history)
  holds-all history legal = along_history case Holds next-holds first-holds history legal

  -- the window that ends at a time is open where something was taken into it and it has not fired
  pub window-open : (history : List Entry) → IsLegal case history → length history < MAX_STAMP → (end : ℕ)
      → find (λ (w : Window). w.end == end) (windows_after size (deeds_of shape name history))
      ≡ open_window size end (deeds_of shape name history)
  window-open history legal short end =
      ((holds-all history legal).windows short).each end
