-- What a count has put into its stream: of each window that fired the count of what was taken into it.
use Rattle.std.proofs.Common.{◌≡◌, ℕ, pos, ◌+◌, ◌<◌, ◌==◌, ◌&&◌, Bool, true, false, cond, List, [], ◌∷◌, ◌++◌, length, map, filter, Option, Some, None, inl, inr, refl, sym, ◌∙◌, ap, subst, arith, length-append}
use Rattle.std.specs.Prelude.{nat_eq}
use Rattle.std.specs.Cmp.Lexicographic.{pointwise}
use Rattle.std.specs.List.{AllByRecursion}
use Rattle.std.specs.BTreeMap.{is_at}
use Rattle.std.proofs.lemmas.Bool.{eq-eqb, both_ways}
use Rattle.std.proofs.lemmas.Bool.Decides.{nat_tests, Decides-eqb}
use Rattle.std.proofs.lemmas.Slice.Eq.{slice_eq-Decides}
use Rattle.std.proofs.lemmas.List.{append-nil}
use Rattle.std.proofs.lemmas.List.Elements.{filter-append}
use Rattle.std.proofs.lemmas.List.Sums.{sum_by_push}
use Rattle.mw_types.specs.declared.TheConstants.{MAX_STAMP}
use Rattle.mw_types.specs.declared.identity.RowName.{RowName}
use Rattle.mw_types.specs.declared.kind.Kind.TheVariants as kinds
use Rattle.mw_types.specs.declared.state.State.{State}
use Rattle.mw_types.specs.declared.state.State.TheVariants as states
use Rattle.mw_types.specs.declared.state.Window.{Window}
use Rattle.mw_types.specs.declared.record.Record.{Record}
use Rattle.mw_types.specs.declared.record.Production.{Production}
use Rattle.mw_types.specs.declared.timer.Timer.{Timer}
use Rattle.mw_types.specs.declared.delivery.Delivery.{Delivery}
use Rattle.mw_types.specs.declared.entry.Entry.{Entry}
use Rattle.mw_types.specs.declared.entry.Entry.TheVariants.{Claim, Inject, Handle, Fire, Ack, Purge}
use Rattle.mw_types.specs.Orders.{row_cmp}
use Rattle.mw_types.specs.Outcomes.{EffectsView}
use Rattle.topology.specs.Shapes.{Shape, kind_of}
use Rattle.computations.specs.Handlers.{window_end, window_due, count_timer, unchanged, outcome_with_timer, counted, one_more, effects_of, OfRecord, OfTimer}
use Rattle.row_parts.specs.Contents.{found_delivery}
use Rattle.run_history.specs.Cases.{CaseShape}
use Rattle.run_history.specs.Inputs.{IsRunnable}
use Rattle.run_history.specs.Made.{produced}
use Rattle.run_history.specs.Runs.{Run, run_of, row_of, empty_run}
use Rattle.history_laws.proofs.RowSteps.{same_row}
use Rattle.run_history.specs.Legal.{MayFire, MayFollow, IsLegal}
use Rattle.list_lemmas.proofs.Places.{each-at}
use Rattle.plain_answer.specs.Deeds.{Deed, took, fired, windows_after, fires_at, takes_into, fired_at, taken_into, open_window, IsTimely, taken, deeds_in, deeds_of, closing}
use Rattle.plain_answer.specs.Stories.{added_by, out_of}
use Rattle.plain_answer.proofs.Counting.{tie}
use Rattle.plain_answer.proofs.Members.{out_at, out_at-append, added-here, added-other, computation-apart}
use Rattle.plain_answer.proofs.Opening.{Does, does, holds-all}
use Rattle.plain_answer.proofs.Causes.{handled-nothing, fired-other}
use Rattle.plain_answer.proofs.Producing.{fire-produces}
use Rattle.plain_answer.proofs.Setting.{IsSet, legal-set}
use Rattle.plain_answer.proofs.Stories.{deeds-push, out-push, legal-push, along_legal}

-- keys that pass are one
pub same-key : (a b : List ℕ) → pointwise nat_eq a b ≡ true → a ≡ b
same-key a b e = (slice_eq-Decides Decides-eqb a b (pointwise nat_eq a b) refl).0 e

-- a key passes as itself
pub key-itself : (a : List ℕ) → pointwise nat_eq a a ≡ true
key-itself a = (slice_eq-Decides Decides-eqb a a (pointwise nat_eq a a) refl).1 refl

-- whether a record has this key and timestamp
abbrev pub at_place : List ℕ × ℕ → Record → Bool
at_place place r = pointwise nat_eq place.0 r.key && (r.stamp == place.1)

-- the count of a window as a record
abbrev pub count_at : List ℕ → ℕ → ℕ → Record
count_at key end count = record { key = key; stamp = end; value = pos count; late = false }

-- the count of a window, where something was taken into it
abbrev pub counted_at : List ℕ → ℕ → ℕ → List Record
counted_at key end count = cond (count == 0) [] (count_at key end count ∷ [])

-- what is in the stream of a window, by how often its timer fired and what was taken
abbrev pub closed_at : List ℕ → ℕ → ℕ → ℕ → List Record
closed_at key end fires takes = cond (fires == 0) [] (counted_at key end takes)

-- by what a row took and fired
abbrev pub closed : ℕ → List ℕ → ℕ → List Deed → List Record
closed size key end deeds = closed_at key end (fired_at end deeds) (taken_into size end deeds)

-- a record that is taken changes nothing in the stream
closed-took : (size : ℕ) (key : List ℕ) (end : ℕ) (deeds : List Deed) (stamp : ℕ) (late : Bool) → IsTimely size deeds (took stamp late)
    → closed size key end (deeds ++ took stamp late ∷ []) ≡ closed size key end deeds
closed-took size key end deeds stamp true timely =
    let t : taken_into size end (deeds ++ took stamp true ∷ []) ≡ taken_into size end deeds =
    sum_by_push (takes_into size end) deeds (took stamp true) ∙ omega arith in
    let f : fired_at end (deeds ++ took stamp true ∷ []) ≡ fired_at end deeds =
    sum_by_push (fires_at end) deeds (took stamp true) ∙ omega arith in
    λ i. closed_at key end (f i) (t i)
closed-took size key end deeds stamp false timely =
    let f : fired_at end (deeds ++ took stamp false ∷ []) ≡ fired_at end deeds =
    sum_by_push (fires_at end) deeds (took stamp false) ∙ omega arith in
    elim (window_end size stamp == end) as
    (λ b. (window_end size stamp == end) ≡ b → closed size key end (deeds ++ took stamp false ∷ []) ≡ closed size key end deeds) [
      | true ↦ λ e.
          let same : window_end size stamp ≡ end = grind (arith, nat_tests) in
          let none : fired_at end deeds ≡ 0 = ap (λ n. fired_at n deeds) (sym same) ∙ timely in
          ap (λ n. closed_at key end n (taken_into size end (deeds ++ took stamp false ∷ []))) (f ∙ none)
          ∙ sym (ap (λ n. closed_at key end n (taken_into size end deeds)) none)
      | false ↦ λ e.
          let t : taken_into size end (deeds ++ took stamp false ∷ []) ≡ taken_into size end deeds =
          sum_by_push (takes_into size end) deeds (took stamp false)
          ∙ ap (λ b. taken_into size end deeds + cond b 1 0) e ∙ omega arith in
          λ i. closed_at key end (f i) (t i)
    ] refl

-- what a window that closes puts into the stream
closing-at : (key : List ℕ) (end time fires takes : ℕ)
    → filter (at_place (key, end)) (map (produced false) (closing key
    (cond (fires == 0) (cond (takes == 0) None (Some (record { end = time; count = takes }))) None)))
    ≡ cond (time == end) (cond (fires == 0) (counted_at key time takes) []) []
closing-at key end time fires takes = elim (fires == 0) as
    (λ b. filter (at_place (key, end)) (map (produced false) (closing key
    (cond b (cond (takes == 0) None (Some (record { end = time; count = takes }))) None)))
    ≡ cond (time == end) (cond b (counted_at key time takes) []) []) [
      | true ↦ elim (takes == 0) as
          (λ c. filter (at_place (key, end)) (map (produced false)
          (closing key (cond c None (Some (record { end = time; count = takes })))))
          ≡ cond (time == end) (cond c [] (count_at key time takes ∷ [])) []) [
            | true ↦ nothing (time == end)
            | false ↦ ap (λ b. cond (b && (time == end)) (count_at key time takes ∷ []) []) (key-itself key)
          ]
      | false ↦ nothing (time == end)
    ]
  where
    nothing : (b : Bool) → ◌≡◌ {A = List Record} [] (cond b [] [])
    nothing true = refl
    nothing false = refl

-- a timer that fires puts the window into the stream
closed-fired : (size : ℕ) (key : List ℕ) (end time : ℕ) (deeds : List Deed)
    → closed size key end deeds ++ filter (at_place (key, end)) (map (produced false) (closing key (open_window size time deeds)))
    ≡ closed size key end (deeds ++ fired time ∷ [])
closed-fired size key end time deeds =
    ap (λ l. closed size key end deeds ++ l) (closing-at key end time (fired_at time deeds) (taken_into size time deeds)) ∙ by_time
  where
    t : taken_into size end (deeds ++ fired time ∷ []) ≡ taken_into size end deeds
    t = sum_by_push (takes_into size end) deeds (fired time) ∙ omega arith

    f : fired_at end (deeds ++ fired time ∷ []) ≡ fired_at end deeds + cond (time == end) 1 0
    f = sum_by_push (fires_at end) deeds (fired time)

    -- behind the window that fires now
    both : (fires takes : ℕ) → closed_at key end fires takes ++ cond (fires == 0) (counted_at key end takes) [] ≡ counted_at key end takes
    both fires takes = elim (fires == 0) as (λ b. cond b [] (counted_at key end takes) ++ cond b (counted_at key end takes) []
        ≡ counted_at key end takes) [
          | true ↦ refl
          | false ↦ append-nil (counted_at key end takes)
        ]

    by_time : closed size key end deeds ++ cond (time == end)
        (cond (fired_at time deeds == 0) (counted_at key time (taken_into size time deeds)) []) []
        ≡ closed size key end (deeds ++ fired time ∷ [])
    by_time = elim (time == end) as
        (λ b. (time == end) ≡ b → closed size key end deeds ++ cond b
        (cond (fired_at time deeds == 0) (counted_at key time (taken_into size time deeds)) []) []
        ≡ closed size key end (deeds ++ fired time ∷ [])) [
          | true ↦ λ e.
              let same : time ≡ end = grind (arith, nat_tests) in
              let g : fired_at end (deeds ++ fired time ∷ []) ≡ fired_at end deeds + 1 =
              f ∙ ap (λ b. fired_at end deeds + cond b 1 0) e in
              let some : (fired_at end (deeds ++ fired time ∷ []) == 0) ≡ false = grind (arith, nat_tests, g) in
              ap (λ n. closed size key end deeds ++ cond (fired_at n deeds == 0) (counted_at key n (taken_into size n deeds)) []) same
              ∙ both (fired_at end deeds) (taken_into size end deeds)
              ∙ sym (ap (λ b. cond b [] (counted_at key end (taken_into size end (deeds ++ fired time ∷ [])))) some
              ∙ ap (counted_at key end) t)
          | false ↦ λ e.
              let g : fired_at end (deeds ++ fired time ∷ []) ≡ fired_at end deeds =
              f ∙ ap (λ b. fired_at end deeds + cond b 1 0) e ∙ omega arith in
              append-nil (closed size key end deeds) ∙ sym (λ i. closed_at key end (g i) (t i))
        ] refl

-- ---- handlers

-- a count produces nothing of a record
pub record-nothing : (size : ℕ) (key : List ℕ) (state : State) (item : Record)
    → (effects_of (kinds.Count size) key state (OfRecord item)).productions ≡ []
record-nothing size key (states.Count late windows) item =
    elim item.late as (λ b. (cond b (unchanged (states.Count (one_more late) windows))
    (outcome_with_timer (states.Count late (counted windows (window_end size item.stamp)))
    (window_end size item.stamp) item)).productions ≡ []) [
      | true ↦ refl
      | false ↦ refl
    ]
record-nothing size key state item = refl

-- and of a timer only under its row's key
timer-key : (size : ℕ) (key : List ℕ) (state : State) (timer : Timer)
    → AllByRecursion (λ (p : Production). p.key ≡ key)
    (effects_of (kinds.Count size) key state (OfTimer timer)).productions
timer-key size key (states.Count late windows) timer = by_due (window_due windows timer)
  where
    by_due : (due : Option Window) → AllByRecursion (λ (p : Production). p.key ≡ key) (count_timer key late windows due).productions
    by_due None = tt
    by_due (Some due) = (refl, tt)
timer-key size key state timer = tt

module _ (case : CaseShape) (name : RowName) (size end : ℕ) (runs : IsRunnable case)
    (kind : kind_of case.topology name.part ≡ Some (kinds.Count size)) where
  abbrev shape : Shape
  shape = case.topology

  -- the stream's members at this place
  abbrev here : List Record → List Record
  here = filter (at_place (name.key, end))

  -- what is in the stream at this place is of what the row took and fired
  abbrev IsClosed : List Entry → Type 0
  IsClosed h = length h < MAX_STAMP → here (out_at name.part (out_of shape h)) ≡ closed size name.key end (deeds_of shape name h)

  -- one more entry, by what it adds and does
  next : (h : List Entry) (entry : Entry)
      → here (out_at name.part (out_of shape h)) ≡ closed size name.key end (deeds_of shape name h)
      → closed size name.key end (deeds_of shape name h) ++ here (out_at name.part (added_by (run_of shape h) entry))
      ≡ closed size name.key end (deeds_of shape name h ++ deeds_in name (run_of shape h) entry)
      → here (out_at name.part (out_of shape (h ++ entry ∷ []))) ≡ closed size name.key end (deeds_of shape name (h ++ entry ∷ []))
  next h entry was adds =
      ap (λ l. here (out_at name.part l)) (out-push shape h entry)
      ∙ ap here (out_at-append name.part (out_of shape h) (added_by (run_of shape h) entry))
      ∙ filter-append (at_place (name.key, end)) (out_at name.part (out_of shape h)) (out_at name.part (added_by (run_of shape h) entry))
      ∙ ap (λ l. l ++ here (out_at name.part (added_by (run_of shape h) entry))) was
      ∙ adds ∙ ap (closed size name.key end) (sym (deeds-push shape name h entry))

  -- an entry that adds nothing at this place
  quiet : (h : List Entry) (entry : Entry) → IsLegal case h → MayFollow case (run_of shape h) entry
      → here (out_at name.part (added_by (run_of shape h) entry)) ≡ []
      → ((time : ℕ) → deeds_in name (run_of shape h) entry ≡ fired time ∷ [] → ⊥)
      → closed size name.key end (deeds_of shape name h) ++ here (out_at name.part (added_by (run_of shape h) entry))
      ≡ closed size name.key end (deeds_of shape name h ++ deeds_in name (run_of shape h) entry)
  quiet h entry legal may none no_fire =
      let deeds : List Deed = deeds_of shape name h in
      let holds = holds-all case name size runs kind h legal in
      ap (λ l. closed size name.key end deeds ++ l) none ∙ append-nil (closed size name.key end deeds)
      ∙ by_does (does case name size runs kind deeds (run_of shape h) entry holds.passed holds.graded may)
    where
      by_deed : (d : Deed) → deeds_in name (run_of shape h) entry ≡ d ∷ [] → IsTimely size (deeds_of shape name h) d
          → closed size name.key end (deeds_of shape name h) ≡ closed size name.key end (deeds_of shape name h ++ d ∷ [])
      by_deed (took stamp late) is timely = sym (closed-took size name.key end (deeds_of shape name h) stamp late timely)
      by_deed (fired time) is timely = absurd (no_fire time is)

      by_does : Does size (deeds_of shape name h) (deeds_in name (run_of shape h) entry)
          → closed size name.key end (deeds_of shape name h)
          ≡ closed size name.key end (deeds_of shape name h ++ deeds_in name (run_of shape h) entry)
      by_does (inl nothing) = sym (ap (λ l. closed size name.key end (deeds_of shape name h ++ l)) nothing
          ∙ ap (closed size name.key end) (append-nil (deeds_of shape name h)))
      by_does (inr one) = by_deed one.0 one.1 one.2 ∙ ap (λ l. closed size name.key end (deeds_of shape name h ++ l)) (sym one.1)

  -- nothing done is no timer that fires
  nil-no_fire : (time : ℕ) → ◌≡◌ {A = List Deed} [] (fired time ∷ []) → ⊥
  nil-no_fire time e = cc

  -- and no record that is taken is one
  taken-no_fire : (o : Option Delivery) (b : Bool) (time : ℕ) → cond b (taken o) [] ≡ fired time ∷ [] → ⊥
  taken-no_fire o false time e = nil-no_fire time e
  taken-no_fire None true time e = nil-no_fire time e
  taken-no_fire (Some d) true time e = cc

  -- the row fires
  fires-here : (h : List Entry) (seq : ℕ) (timer : Timer) (mark : ℕ) (effects : EffectsView) → IsLegal case h
      → MayFire case (run_of shape h) name timer mark effects → length (h ++ Fire seq name timer mark effects ∷ []) < MAX_STAMP
      → closed size name.key end (deeds_of shape name h)
      ++ here (out_at name.part (added_by (run_of shape h) (Fire seq name timer mark effects)))
      ≡ closed size name.key end (deeds_of shape name h ++ deeds_in name (run_of shape h) (Fire seq name timer mark effects))
  fires-here h seq timer mark effects legal may short =
      let run : Run = run_of shape h in
      let entry : Entry = Fire seq name timer mark effects in
      let deeds : List Deed = deeds_of shape name h in
      let set = each-at (IsSet (windows_after size deeds)) (row_of shape run name).timers 0 timer
      (legal-set case name size kind h legal) may.least_timer in
      let same : (name.part == name.part) ≡ true = eq-eqb name.part name.part refl in
      let produces = fire-produces case name size runs kind h [] seq timer mark effects
      (legal-push case h entry empty_run legal may) short set.0 in
      let adds : out_at name.part (added_by run entry) ≡ map (produced false) (closing name.key (open_window size timer.time deeds)) =
      added-here name.part run entry name refl same ∙ (λ i. map (produced (set.1 i)) (produces i)) in
      let does : deeds_in name run entry ≡ fired timer.time ∷ [] =
      ap (λ b. cond b (cond (timer.tag == 0) (fired timer.time ∷ []) []) []) (tie name)
      ∙ ap (λ n. cond (n == 0) (fired timer.time ∷ []) []) set.0 in
      ap (λ l. closed size name.key end deeds ++ here l) adds
      ∙ closed-fired size name.key end timer.time deeds
      ∙ ap (λ l. closed size name.key end (deeds ++ l)) (sym does)

  -- a row of another key of the part
  key-differs : (row : RowName) → (row.part == name.part) ≡ true → is_at (row_cmp name) row ≡ false
      → pointwise nat_eq name.key row.key ≡ false
  key-differs row part apart = elim (pointwise nat_eq name.key row.key) as (λ b. pointwise nat_eq name.key row.key ≡ b → b ≡ false) [
    | true ↦ λ e.
        let parts : row.part ≡ name.part = grind (arith, nat_tests) in
        let same : row ≡ name = λ i. record { part = parts i; key = sym (same-key name.key row.key e) i } in
        absurd (both_ways (is_at (row_cmp name) row) apart (ap (is_at (row_cmp name)) same ∙ tie name))
    | false ↦ λ e. refl
  ] refl

  -- what an entry adds at this place, by its kind
  adds-here : (h : List Entry) (entry : Entry) → IsLegal case h → MayFollow case (run_of shape h) entry
      → length (h ++ entry ∷ []) < MAX_STAMP
      → closed size name.key end (deeds_of shape name h) ++ here (out_at name.part (added_by (run_of shape h) entry))
      ≡ closed size name.key end (deeds_of shape name h ++ deeds_in name (run_of shape h) entry)
  adds-here h (Claim worker interval) legal may short = quiet h (Claim worker interval) legal may refl nil-no_fire
  adds-here h (Inject seq other line item) legal may short =
      quiet h (Inject seq other line item) legal may
      (ap here (added-other name.part (run_of shape h) (Inject seq other line item) (record { part = other; key = [] }) refl
      (computation-apart shape name.part other (kinds.Count size) kind may.injector))) nil-no_fire
  adds-here h (Handle seq row id effects) legal may short =
      quiet h (Handle seq row id effects) legal may
      (ap here (handled-nothing case (run_of shape h) name.part (kinds.Count size) seq row id effects kind
      (record-nothing size) may))
      (λ time. taken-no_fire (found_delivery id (run_of shape h).unhandled) (is_at (row_cmp name) row) time)
  adds-here h (Fire seq row timer mark effects) legal may short =
      elim (is_at (row_cmp name) row) as
      (λ b. is_at (row_cmp name) row ≡ b
      → closed size name.key end (deeds_of shape name h) ++ here
      (out_at name.part (added_by (run_of shape h) (Fire seq row timer mark effects)))
      ≡ closed size name.key end (deeds_of shape name h ++ deeds_in name (run_of shape h) (Fire seq row timer mark effects))) [
        | true ↦ λ e.
            subst (λ (r : RowName). MayFire case (run_of shape h) r timer mark effects
            → length (h ++ Fire seq r timer mark effects ∷ []) < MAX_STAMP
            → closed size name.key end (deeds_of shape name h) ++ here
            (out_at name.part (added_by (run_of shape h) (Fire seq r timer mark effects)))
            ≡ closed size name.key end (deeds_of shape name h ++ deeds_in name (run_of shape h) (Fire seq r timer mark effects)))
            (same_row name row e) (λ m s. fires-here h seq timer mark effects legal m s) may short
        | false ↦ λ e. quiet h (Fire seq row timer mark effects) legal may
            (fired-other case (run_of shape h) name.part (kinds.Count size) seq row timer mark effects
            (at_place (name.key, end)) kind
            (timer-key size) (λ same r is. ap (λ b. b && (r.stamp == end))
            (ap (pointwise nat_eq name.key) is ∙ key-differs row same e)) may)
            (λ time is. nil-no_fire time (sym (ap (λ b. cond b (cond (timer.tag == 0) (fired timer.time ∷ []) []) []) e) ∙ is))
      ] refl
  adds-here h (Ack seq row id) legal may short = quiet h (Ack seq row id) legal may (none (Ack seq row id) refl) nil-no_fire
    where
      none : (entry : Entry) → added_by (run_of shape h) entry ≡ [] → here (out_at name.part (added_by (run_of shape h) entry)) ≡ []
      none entry e = ap (λ l. here (out_at name.part l)) e
  adds-here h (Purge seq row floor) legal may short = quiet h (Purge seq row floor) legal may refl nil-no_fire

  -- after each legal history
  pub legal-closed : (h : List Entry) → IsLegal case h → IsClosed h
  legal-closed = along_legal case IsClosed
      (λ h entry legal may was short.
      let longer = length-append h (entry ∷ []) in
      next h entry (was (omega (arith, short, longer))) (adds-here h entry legal may short))
      (λ short. refl)
