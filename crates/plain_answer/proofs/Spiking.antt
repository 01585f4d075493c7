-- What a row of a spike holds, knows and has put into its stream, by the records that it handled.
use Rattle.std.proofs.Common.{◌≡◌, ℕ, zero, suc, ◌+◌, ◌-◌, drop, ◌<◌, ◌≤◌, ◌==◌, ◌&&◌, not, Bool, true, false, cond, List, [], ◌∷◌, ◌++◌, length, map, filter, fold, ℤ, Some, inl, inr, refl, sym, ◌∙◌, ap, subst, arith, append_assoc}
use Rattle.std.specs.Prelude.{nat_eq, nat_le, pos, int_lt, ◌*ℤ◌, slice_get, option_to_list}
use Rattle.std.specs.Option.{option_map_or}
use Rattle.std.specs.Cmp.Lexicographic.{pointwise}
use Rattle.std.specs.List.{AllByRecursion}
use Rattle.std.specs.BTreeMap.{is_at}
use Rattle.std.proofs.lemmas.Bool.{eq-eqb, and_from}
use Rattle.std.proofs.lemmas.Bool.Decides.{nat_tests}
use Rattle.std.proofs.lemmas.List.{append-nil}
use Rattle.std.proofs.lemmas.List.Concat.{flat_map-append}
use Rattle.std.proofs.lemmas.List.Elements.{filter-append}
use Rattle.mw_types.specs.declared.TheConstants.{MAX_STAMP}
use Rattle.mw_types.specs.declared.identity.RecordId.{RecordId}
use Rattle.mw_types.specs.declared.identity.RowName.{RowName}
use Rattle.mw_types.specs.declared.kind.Kind.TheVariants as kinds
use Rattle.mw_types.specs.declared.state.State.TheVariants as states
use Rattle.mw_types.specs.declared.state.HeldTotal.{HeldTotal}
use Rattle.mw_types.specs.declared.record.Record.{Record}
use Rattle.mw_types.specs.declared.timer.Timer.{Timer}
use Rattle.mw_types.specs.declared.delivery.Delivery.{Delivery}
use Rattle.mw_types.specs.declared.entry.Entry.{Entry}
use Rattle.mw_types.specs.declared.entry.Entry.TheVariants.{Claim, Inject, Handle, Fire, Ack, Purge}
use Rattle.mw_types.specs.Orders.{row_cmp}
use Rattle.mw_types.specs.Outcomes.{EffectsView}
use Rattle.topology.specs.Shapes.{Shape, kind_of, parts_of}
use Rattle.row_parts.specs.Contents.{Contents, found_delivery, same_id, without_timer}
use Rattle.computations.specs.Handlers.{fresh_state, one_more, due_time, held_with, spike_record, OfRecord, OfTimer}
use Rattle.run_history.specs.Cases.{CaseShape}
use Rattle.run_history.specs.Inputs.{IsRunnable}
use Rattle.run_history.specs.Made.{row_written, produced}
use Rattle.run_history.specs.Runs.{Run, run_of, row_of, followed, with_timers}
use Rattle.run_history.specs.Watermarks.{low_watermark}
use Rattle.run_history.specs.Legal.{MayHandle, MayFire, MayFollow, IsLegal, outcome_of}
use Rattle.run_history.proofs.RunLaws.{run_of-push}
use Rattle.history_laws.proofs.IdLaws.{legal-ids}
use Rattle.history_laws.proofs.LowLaws.{LowFrom, low-from, LowFrom-any_depth, LowFrom-followed}
use Rattle.history_laws.proofs.PendingLaws.{kind-there}
use Rattle.history_laws.proofs.RowSteps.{on_row_or_not, row_of-here, row_of-elsewhere}
use Rattle.history_laws.proofs.StampLaws.{legal-in_time}
use Rattle.history_laws.proofs.WorkLaws.{WaitsFrom, IsWorkFrom}
use Rattle.list_lemmas.proofs.Lists.{none_some, some_same, each-append, each-weaker, find-each}
use Rattle.plain_answer.specs.Plain.{sum_of_last, spike_at, spikes_in}
use Rattle.plain_answer.specs.Places.{with_place}
use Rattle.plain_answer.specs.Stories.{handled_by, added_by, done_of, out_of, fired_keys_by, fired_keys}
use Rattle.plain_answer.proofs.Closing.{same-key, key-itself}
use Rattle.plain_answer.proofs.Counting.{tie, apart-false}
use Rattle.plain_answer.proofs.Grading.{legal-graded, waits-small}
use Rattle.plain_answer.proofs.Members.{out_at, out_at-append, added-here, added-other, computation-apart}
use Rattle.plain_answer.proofs.Causes.{kind-left, handled-nothing, fired-other, by_entry}
use Rattle.plain_answer.proofs.Places.{held_place, held_timer, places-held, place-behind, Climb, AreLow, Climb-held, AreLow-held, timers-held, first-timer, lastly, spikes-push}
use Rattle.plain_answer.proofs.SpikeSteps.{spike_record_at, spike-nothing, spike-key, fires-first, HoldsMore, holds-more, holds-late, pair_of, pairs_of, placed, placed-push}
use Rattle.plain_answer.proofs.Stories.{done-push, out-push, along_legal}

module _ (case : CaseShape) (name : RowName) (last times : ℕ) (runs : IsRunnable case)
    (kind : kind_of case.topology name.part ≡ Some (kinds.Spike last times)) where
  abbrev shape : Shape
  shape = case.topology

  -- the part is there
  there : name.part < parts_of shape
  there = kind-there shape name.part (kinds.Spike last times) kind

  -- the members of the stream under the row's key
  abbrev own : List Record → List Record
  own = filter (λ (r : Record). pointwise nat_eq name.key r.key)

  -- the values of places
  abbrev values : List (ℕ × ℤ) → List ℤ
  values ps = map (λ (p : ℕ × ℤ). p.1) ps

  -- a time that is passed
  abbrev IsPassed : Run → ℕ × ℤ → Type 0
  IsPassed run p = (depth : ℕ) → LowFrom case run (due_time p.0) depth name.part

  -- the places that fired, and the totals that are held: together they are the places so far
  pub record IsSpiked (h : List Entry) : Type 0 where
    pub late : ℕ
    pub over : List (ℕ × ℤ)
    pub held : List HeldTotal
    pub state : (row_of shape (run_of shape h) name).state ≡ states.Spike late held (lastly last (values over))
    pub timers : (row_of shape (run_of shape h) name).timers ≡ map held_timer held
    pub places : over ++ map held_place held ≡ placed name (done_of shape h)
    pub climb : Climb held
    pub low : AreLow held
    pub passed : AllByRecursion (IsPassed (run_of shape h)) over
    pub stream : own (out_at name.part (out_of shape h)) ≡ spikes_in last times name.key [] over
    pub fires : filter (pointwise nat_eq name.key) (fired_keys name.part h) ≡ map (λ (p : ℕ × ℤ). name.key) over

  -- times that are passed still are
  passed-next : (h : List Entry) (entry : Entry) (ps : List (ℕ × ℤ)) → IsLegal case h → MayFollow case (run_of shape h) entry
      → AllByRecursion (IsPassed (run_of shape h)) ps → AllByRecursion (IsPassed (run_of shape (h ++ entry ∷ []))) ps
  passed-next h entry ps legal may passed =
      subst (λ (r : Run). AllByRecursion (IsPassed r) ps) (sym (run_of-push shape h entry))
      (each-weaker (IsPassed (run_of shape h)) (IsPassed (followed shape (run_of shape h) entry))
      (λ p was depth. LowFrom-followed case h (run_of shape h) entry (due_time p.0) runs (legal-ids case h legal)
      (legal-in_time case h runs legal) may depth name.part was) ps passed)

  -- the stream with one more entry
  stream-next : (h : List Entry) (entry : Entry) (new : List Record) → own (out_at name.part (added_by (run_of shape h) entry)) ≡ new
      → own (out_at name.part (out_of shape (h ++ entry ∷ []))) ≡ own (out_at name.part (out_of shape h)) ++ new
  stream-next h entry new adds =
      ap (λ l. own (out_at name.part l)) (out-push shape h entry)
      ∙ ap own (out_at-append name.part (out_of shape h) (added_by (run_of shape h) entry))
      ∙ filter-append (λ (r : Record). pointwise nat_eq name.key r.key) (out_at name.part (out_of shape h))
      (out_at name.part (added_by (run_of shape h) entry))
      ∙ ap (λ l. own (out_at name.part (out_of shape h)) ++ l) adds

  -- what fired with one more entry
  fires-next : (h : List Entry) (entry : Entry) (new : List (List ℕ))
      → filter (pointwise nat_eq name.key) (fired_keys_by name.part entry) ≡ new
      → filter (pointwise nat_eq name.key) (fired_keys name.part (h ++ entry ∷ []))
      ≡ filter (pointwise nat_eq name.key) (fired_keys name.part h) ++ new
  fires-next h entry new adds =
      ap (filter (pointwise nat_eq name.key)) (flat_map-append (fired_keys_by name.part) h (entry ∷ [])
      ∙ ap (λ l. fired_keys name.part h ++ l) (append-nil (fired_keys_by name.part entry)))
      ∙ filter-append (pointwise nat_eq name.key) (fired_keys name.part h) (fired_keys_by name.part entry)
      ∙ ap (λ l. filter (pointwise nat_eq name.key) (fired_keys name.part h) ++ l) adds

  -- an entry that does nothing on the row but for its late records
  quiet : (h : List Entry) (entry : Entry) (late : ℕ) (was : IsSpiked h) → IsLegal case h → MayFollow case (run_of shape h) entry
      → (row_of shape (followed shape (run_of shape h) entry) name).state ≡ states.Spike late was.held (lastly last (values was.over))
      → (row_of shape (followed shape (run_of shape h) entry) name).timers ≡ (row_of shape (run_of shape h) name).timers
      → pairs_of name (handled_by (run_of shape h) entry) ≡ []
      → own (out_at name.part (added_by (run_of shape h) entry)) ≡ []
      → filter (pointwise nat_eq name.key) (fired_keys_by name.part entry) ≡ []
      → IsSpiked (h ++ entry ∷ [])
  quiet h entry late was legal may state timers pairs adds fires = record {
    late = late;
    over = was.over;
    held = was.held;
    state = ap (λ (r : Run). (row_of shape r name).state) (run_of-push shape h entry) ∙ state;
    timers = ap (λ (r : Run). (row_of shape r name).timers) (run_of-push shape h entry) ∙ timers ∙ was.timers;
    places = was.places ∙ sym (ap (placed name) (done-push shape h entry)
        ∙ placed-push name (done_of shape h) (handled_by (run_of shape h) entry)
        ∙ ap (fold with_place (placed name (done_of shape h))) pairs);
    climb = was.climb;
    low = was.low;
    passed = passed-next h entry was.over legal may was.passed;
    stream = stream-next h entry [] adds ∙ append-nil (own (out_at name.part (out_of shape h))) ∙ was.stream;
    fires = fires-next h entry [] fires ∙ append-nil (filter (pointwise nat_eq name.key) (fired_keys name.part h)) ∙ was.fires;
  }

  -- a place that fired is below a record in time
  below-now : (h : List Entry) (id : RecordId) (d : Delivery) (p : ℕ × ℤ) → IsPassed (run_of shape h) p
      → found_delivery id (run_of shape h).unhandled ≡ Some d
      → d.to ≡ name → d.item.late ≡ false → d.item.stamp < MAX_STAMP → p.0 < d.item.stamp
  below-now h id d p passed waits to_row in_time small =
      let work : IsWorkFrom shape (run_of shape h) (due_time p.0) name.part = passed zero in
      let from : WaitsFrom (due_time p.0) name.part d =
      find-each (WaitsFrom (due_time p.0) name.part) (λ (e : Delivery). same_id e.id id) (run_of shape h).unhandled d work.waiting waits in
      let due : due_time p.0 ≤ d.item.stamp = from (and_from _ _ (eq-eqb d.to.part name.part (ap (λ (r : RowName). r.part) to_row))
      (ap not in_time)) in
      omega (arith, due, small)

  -- the part is itself
  self : (name.part == name.part) ≡ true
  self = eq-eqb name.part name.part refl

  -- a record is handled
  handles : (h : List Entry) (seq : ℕ) (id : RecordId) (effects : EffectsView) → IsLegal case h
      → (may : MayHandle case (run_of shape h) name id effects) → IsSpiked h → IsSpiked (h ++ Handle seq name id effects ∷ [])
  handles h seq id effects legal may was = by_late may.delivery.item.late refl
    where
      run : Run
      run = run_of shape h

      entry : Entry
      entry = Handle seq name id effects

      d : Delivery
      d = may.delivery

      left : spike_record was.late was.held (lastly last (values was.over)) d.item ≡ effects
      left = kind-left case name (row_of shape run name) (OfRecord d.item) effects (kinds.Spike last times)
          (states.Spike was.late was.held (lastly last (values was.over))) kind was.state may.does

      nothing : own (out_at name.part (added_by (run_of shape h) (Handle seq name id effects))) ≡ []
      nothing = ap own (handled-nothing case run name.part (kinds.Spike last times) seq name id effects kind
          (spike-nothing last times) may)

      pair : (b : Bool) → d.item.late ≡ b → pairs_of name (handled_by run entry) ≡ cond (not b) ((d.item.stamp, d.item.value) ∷ []) []
      pair b is =
          ap (λ o. pairs_of name (option_to_list o)) may.waits
          ∙ ap (λ c. map pair_of (cond c (d ∷ []) []))
          ((λ i. (ap (is_at (row_cmp name)) may.to_row ∙ tie name) i && not (is i)))
          ∙ by_bool (not b)
        where
          by_bool : (c : Bool) → map pair_of (cond (true && c) (may.delivery ∷ []) [])
              ≡ cond c ((may.delivery.item.stamp, may.delivery.item.value) ∷ []) []
          by_bool true = refl
          by_bool false = refl

      here : row_of shape (followed shape run entry) name ≡ Rattle.history_laws.proofs.RowSteps.made_row shape run entry name
      here = row_of-here shape run entry name refl

      by_late : (b : Bool) → d.item.late ≡ b → IsSpiked (h ++ Handle seq name id effects ∷ [])
      by_late true is =
          let kept = sym left ∙ holds-late was.late was.held (lastly last (values was.over)) d.item is in
          quiet h entry (one_more was.late) was legal may
          (ap (λ (c : Contents). c.state) here ∙ ap (λ (o : EffectsView). o.state) kept)
          (ap (λ (c : Contents). c.timers) here ∙ ap (λ (o : EffectsView). with_timers o.timers (row_of shape run name).timers) kept)
          (pair true is) nothing refl
      by_late false is =
          let more = subst (HoldsMore was.late was.held (lastly last (values was.over)) d.item) left
          (holds-more was.late was.held (lastly last (values was.over)) d.item is) in
          let low : d.item.stamp < MAX_STAMP =
          waits-small case run name id d runs (legal-graded case h runs legal) there may.waits may.to_row in
          let place : ℕ × ℤ = (d.item.stamp, d.item.value) in record {
            late = was.late;
            over = was.over;
            held = held_with was.held d.item.stamp d.item.value;
            state = ap (λ (r : Run). (row_of shape r name).state) (run_of-push shape h entry)
                ∙ ap (λ (c : Contents). c.state) here ∙ more.state;
            timers = ap (λ (r : Run). (row_of shape r name).timers) (run_of-push shape h entry)
                ∙ ap (λ (c : Contents). c.timers) here
                ∙ (λ i. with_timers (more.timers i) (was.timers i))
                ∙ timers-held was.held d.item.stamp d.item.value low was.low;
            places = ap (λ l. was.over ++ l) (places-held was.held d.item.stamp d.item.value)
                ∙ sym (place-behind was.over (map held_place was.held) place
                (each-weaker (IsPassed run) (λ (p : ℕ × ℤ). p.0 < d.item.stamp)
                (λ p passed. below-now h id d p passed may.waits may.to_row is low) was.over was.passed))
                ∙ ap (λ l. with_place l place) was.places
                ∙ sym (ap (placed name) (done-push shape h entry)
                ∙ placed-push name (done_of shape h) (handled_by run entry)
                ∙ ap (fold with_place (placed name (done_of shape h))) (pair false is));
            climb = Climb-held was.held d.item.stamp d.item.value was.climb;
            low = AreLow-held was.held d.item.stamp d.item.value low was.low;
            passed = passed-next h entry was.over legal may was.passed;
            stream = stream-next h entry [] nothing ∙ append-nil (own (out_at name.part (out_of shape h))) ∙ was.stream;
            fires = fires-next h entry [] refl ∙ append-nil (filter (pointwise nat_eq name.key) (fired_keys name.part h)) ∙ was.fires;
          }

  -- the row fires
  fires-here : (h : List Entry) (seq : ℕ) (timer : Timer) (mark : ℕ) (effects : EffectsView) → IsLegal case h
      → (may : MayFire case (run_of shape h) name timer mark effects) → IsSpiked h → IsSpiked (h ++ Fire seq name timer mark effects ∷ [])
  fires-here h seq timer mark effects legal may was = by_held was.held was.state was.timers was.places was.climb was.low
    where
      run : Run
      run = run_of shape h

      entry : Entry
      entry = Fire seq name timer mark effects

      here : row_of shape (followed shape run entry) name ≡ Rattle.history_laws.proofs.RowSteps.made_row shape run entry name
      here = row_of-here shape run entry name refl

      none_first : (ts : List Timer) → ts ≡ [] → slice_get ts 0 ≡ Some timer → ⊥
      none_first ts none first = none_some timer (sym (ap (λ l. slice_get l 0) none) ∙ first)

      -- the time that fires is passed
      passed-now : (stamp : ℕ) (value : ℤ) → timer.time ≡ due_time stamp → IsPassed run (stamp, value)
      passed-now stamp value is depth =
          let at_most : name.part ≤ parts_of shape = omega (arith, there) in
          let low : due_time stamp ≤ low_watermark case run name.part = omega (arith, may.due, may.under_watermark, is) in
          LowFrom-any_depth case run (due_time stamp) runs.topology (parts_of shape) name.part at_most
          (low-from case run (due_time stamp) (parts_of shape) name.part low) depth

      by_held : (held : List HeldTotal) → (row_of shape run name).state ≡ states.Spike was.late held (lastly last (values was.over))
          → (row_of shape run name).timers ≡ map held_timer held → was.over ++ map held_place held ≡ placed name (done_of shape h)
          → Climb held → AreLow held → IsSpiked (h ++ Fire seq name timer mark effects ∷ [])
      by_held [] state timers places climb low = absurd (none_first (row_of shape run name).timers timers may.least_timer)
      by_held (t ∷ hs) state timers places climb low =
          let is : held_timer t ≡ timer = some_same (held_timer t) timer (sym (ap (λ l. slice_get l 0) timers) ∙ may.least_timer) in
          let of = fires-first last times name.key was.late t hs (values was.over) climb low in
          let left = kind-left case name (row_of shape run name) (OfTimer (held_timer t)) effects
          (kinds.Spike last times)
          (states.Spike was.late (t ∷ hs) (lastly last (values was.over))) kind state
          (subst (λ (u : Timer). outcome_of case name (row_of shape run name) (OfTimer u) ≡ Some effects) (sym is)
          may.does) in
          let left_state : effects.state ≡ states.Spike was.late hs (lastly last (values was.over ++ t.value ∷ [])) =
          sym (ap (λ (o : EffectsView). o.state) left) ∙ of.state in
          let produces : map (produced timer.late) effects.productions ≡ spike_at last times name.key (values was.over) t.stamp t.value =
          sym (λ i. map (produced (is i).late) (left i).productions) ∙ of.productions in
          let adds : out_at name.part (added_by run entry) ≡ spike_at last times name.key (values was.over) t.stamp t.value =
          added-here name.part run entry name refl self ∙ produces in record {
            late = was.late;
            over = was.over ++ held_place t ∷ [];
            held = hs;
            state = ap (λ (r : Run). (row_of shape r name).state) (run_of-push shape h entry)
                ∙ ap (λ (c : Contents). c.state) here ∙ left_state
                ∙ ap (λ l. states.Spike was.late hs (lastly last l)) (sym (values-push was.over (held_place t)));
            timers = ap (λ (r : Run). (row_of shape r name).timers) (run_of-push shape h entry)
                ∙ ap (λ (c : Contents). c.timers) here
                ∙ (λ i. without_timer (sym is i).tag (sym is i).time (timers i))
                ∙ first-timer t hs climb low;
            places = append_assoc was.over (held_place t ∷ []) (map held_place hs) ∙ places
                ∙ sym (ap (placed name) (done-push shape h entry) ∙ placed-push name (done_of shape h) []);
            climb = climb.1;
            low = low.1;
            passed = passed-next h entry (was.over ++ held_place t ∷ []) legal may
                (each-append (IsPassed run) was.over (held_place t ∷ []) was.passed
                (passed-now t.stamp t.value (ap (λ (t : Timer). t.time) (sym is)), tt));
            stream = stream-next h entry (spike_at last times name.key (values was.over) t.stamp t.value)
                (ap own adds ∙ own-spike (nat_le last (length (values was.over)) && int_lt
                (pos times *ℤ sum_of_last last (values was.over)) (t.value *ℤ pos last)) t)
                ∙ ap (λ l. l ++ spike_at last times name.key (values was.over) t.stamp t.value) was.stream
                ∙ sym (spikes-push last times name.key [] was.over t.stamp t.value);
            fires = fires-next h entry (name.key ∷ [])
                (ap (λ b. filter (pointwise nat_eq name.key) (cond b (name.key ∷ []) [])) self
                ∙ ap (λ b. cond b (name.key ∷ []) []) (key-itself name.key))
                ∙ ap (λ l. l ++ name.key ∷ []) was.fires ∙ sym (keys-push was.over (held_place t));
          }
        where
          values-push : (ps : List (ℕ × ℤ)) (p : ℕ × ℤ) → values (ps ++ p ∷ []) ≡ values ps ++ p.1 ∷ []
          values-push [] p = refl
          values-push (q ∷ qs) p = ap (λ l. q.1 ∷ l) (values-push qs p)

          keys-push : (ps : List (ℕ × ℤ)) (p : ℕ × ℤ) → map (λ (p : ℕ × ℤ). name.key) (ps ++ p ∷ [])
              ≡ map (λ (p : ℕ × ℤ). name.key) ps ++ name.key ∷ []
          keys-push [] p = refl
          keys-push (q ∷ qs) p = ap (λ l. name.key ∷ l) (keys-push qs p)

          own-spike : (b : Bool) (t : HeldTotal) → own (cond b
              (record { key = name.key; stamp = t.stamp + 1; value = t.value; late = false } ∷ []) [])
              ≡ cond b (record { key = name.key; stamp = t.stamp + 1; value = t.value; late = false } ∷ []) []
          own-spike true t = ap (λ b. cond b (spike_record_at name.key (t.stamp + 1) t.value) []) (key-itself name.key)
          own-spike false t = refl

  -- a row of another key of the part
  key-differs : (row : RowName) → (row.part == name.part) ≡ true → (row ≡ name → ⊥) → pointwise nat_eq name.key row.key ≡ false
  key-differs row part apart = elim (pointwise nat_eq name.key row.key) as (λ b. pointwise nat_eq name.key row.key ≡ b → b ≡ false) [
    | true ↦ λ e.
        let parts : row.part ≡ name.part = grind (arith, nat_tests) in
        absurd (apart (λ i. record { part = parts i; key = sym (same-key name.key row.key e) i }))
    | false ↦ λ e. refl
  ] refl

  -- an entry on another row
  elsewhere : (h : List Entry) (entry : Entry) → IsLegal case h → MayFollow case (run_of shape h) entry → (was : IsSpiked h)
      → (row_written entry ≡ Some name → ⊥)
      → pairs_of name (handled_by (run_of shape h) entry) ≡ []
      → own (out_at name.part (added_by (run_of shape h) entry)) ≡ []
      → filter (pointwise nat_eq name.key) (fired_keys_by name.part entry) ≡ [] → IsSpiked (h ++ entry ∷ [])
  elsewhere h entry legal may was apart pairs adds fires =
      quiet h entry was.late was legal may
      (ap (λ (c : Contents). c.state) (row_of-elsewhere shape (run_of shape h) entry name apart) ∙ was.state)
      (ap (λ (c : Contents). c.timers) (row_of-elsewhere shape (run_of shape h) entry name apart)) pairs adds fires

  -- an entry that adds nothing
  adds-none : (run : Run) (entry : Entry) → added_by run entry ≡ [] → own (out_at name.part (added_by run entry)) ≡ []
  adds-none run entry none = ap (λ l. own (out_at name.part l)) none

  -- an entry on another row, or on none
  off_row : (h : List Entry) (entry : Entry) → IsLegal case h → MayFollow case (run_of shape h) entry → IsSpiked h
      → (row_written entry ≡ Some name → ⊥) → IsSpiked (h ++ entry ∷ [])
  off_row h (Claim worker interval) legal may was apart = elsewhere h (Claim worker interval) legal may was apart refl refl refl
  off_row h (Inject seq other line item) legal may was apart =
      elsewhere h (Inject seq other line item) legal may was apart refl
      (ap own (added-other name.part (run_of shape h) (Inject seq other line item) (record { part = other; key = [] }) refl
      (computation-apart shape name.part other (kinds.Spike last times) kind may.injector))) refl
  off_row h (Handle seq row id effects) legal may was apart =
      elsewhere h (Handle seq row id effects) legal may was apart
      (ap (λ o. pairs_of name (option_to_list o)) may.waits
      ∙ ap (λ b. map pair_of (cond (b && not may.delivery.item.late) (may.delivery ∷ []) []))
      (ap (is_at (row_cmp name)) may.to_row ∙ apart-false name row apart))
      (ap own (handled-nothing case (run_of shape h) name.part (kinds.Spike last times) seq row id effects kind
      (spike-nothing last times)
      may)) refl
  off_row h (Fire seq row timer mark effects) legal may was apart =
      elsewhere h (Fire seq row timer mark effects) legal may was apart refl
      (fired-other case (run_of shape h) name.part (kinds.Spike last times) seq row timer mark effects
      (λ (r : Record). pointwise nat_eq name.key r.key) kind (spike-key last times)
      (λ same r is. ap (pointwise nat_eq name.key) is ∙ differs same) may) silent
    where
      differs : (row.part == name.part) ≡ true → pointwise nat_eq name.key row.key ≡ false
      differs e = key-differs row e (λ same. apart (ap Some same))

      silent : filter (pointwise nat_eq name.key) (fired_keys_by name.part (Fire seq row timer mark effects)) ≡ []
      silent = elim (row.part == name.part) as
          (λ b. (row.part == name.part) ≡ b → filter (pointwise nat_eq name.key) (cond b (row.key ∷ []) []) ≡ []) [
            | true ↦ λ e. ap (λ b. cond b (row.key ∷ []) []) (differs e)
            | false ↦ λ e. refl
          ] refl
  off_row h (Ack seq row id) legal may was apart =
      elsewhere h (Ack seq row id) legal may was apart refl (adds-none (run_of shape h) (Ack seq row id) refl) refl
  off_row h (Purge seq row floor) legal may was apart = elsewhere h (Purge seq row floor) legal may was apart refl refl refl

  -- nothing is left of nothing
  drop-nil : (k : ℕ) → ◌≡◌ {A = List ℤ} (drop k []) []
  drop-nil zero = refl
  drop-nil (suc k) = refl

  -- before any entry
  first-spiked : IsSpiked []
  first-spiked = record {
    late = 0;
    over = [];
    held = [];
    state = ap (λ k. option_map_or fresh_state k (states.Injector 0)) kind ∙ ap (states.Spike 0 []) (sym (drop-nil (0 - last)));
    timers = refl;
    places = refl;
    climb = tt;
    low = tt;
    passed = tt;
    stream = refl;
    fires = refl;
  }

  -- after each legal history
  pub legal-spiked : (h : List Entry) → IsLegal case h → IsSpiked h
  legal-spiked = along_legal case IsSpiked (λ h entry legal may was. elim (on_row_or_not entry name) [
    | inl here ↦ by_entry case (run_of shape h) name (kinds.Spike last times) (λ e. IsSpiked (h ++ e ∷ [])) kind
        (λ seq id effects m. handles h seq id effects legal m was)
        (λ seq timer mark effects m. fires-here h seq timer mark effects legal m was)
        (λ seq id m. quiet h (Ack seq name id) was.late was legal m
        (ap (λ c. c.state) (row_of-here shape (run_of shape h) (Ack seq name id) name refl) ∙ was.state)
        (ap (λ c. c.timers) (row_of-here shape (run_of shape h) (Ack seq name id) name refl)) refl
        (adds-none (run_of shape h) (Ack seq name id) refl) refl)
        (λ seq floor m. quiet h (Purge seq name floor) was.late was legal m
        (ap (λ c. c.state) (row_of-here shape (run_of shape h) (Purge seq name floor) name refl) ∙ was.state)
        (ap (λ c. c.timers) (row_of-here shape (run_of shape h) (Purge seq name floor) name refl)) refl refl refl)
        entry may here
    | inr apart ↦ off_row h entry legal may was apart
  ]) first-spiked
