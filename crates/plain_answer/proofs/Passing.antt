-- The stream of a pass has what its rows handled, and no row of it fires.
use Rattle.std.proofs.Common.{◌≡◌, ℕ, ◌==◌, true, false, cond, List, [], ◌∷◌, ◌++◌, map, filter, Some, refl, sym, ◌∙◌, ap, arith}
use Rattle.std.specs.Prelude.{option_to_list, slice_get}
use Rattle.std.proofs.lemmas.List.Elements.{filter-append}
use Rattle.mw_types.specs.declared.identity.RowName.{RowName}
use Rattle.mw_types.specs.declared.record.Record.{Record}
use Rattle.mw_types.specs.declared.timer.Timer.{Timer}
use Rattle.mw_types.specs.declared.kind.Kind.TheVariants as kinds
use Rattle.mw_types.specs.declared.state.State.{State}
use Rattle.mw_types.specs.declared.state.State.TheVariants as states
use Rattle.mw_types.specs.declared.delivery.Delivery.{Delivery}
use Rattle.mw_types.specs.declared.entry.Entry.{Entry}
use Rattle.mw_types.specs.declared.entry.Entry.TheVariants.{Inject, Handle, Fire, Ack}
use Rattle.mw_types.specs.Outcomes.{EffectsView}
use Rattle.topology.specs.Shapes.{Shape, kind_of}
use Rattle.row_parts.specs.Contents.{Contents}
use Rattle.computations.specs.Handlers.{has_kind, effects_of, OfRecord, OfTimer}
use Rattle.run_history.specs.Cases.{CaseShape}
use Rattle.run_history.specs.Made.{row_written, produced}
use Rattle.run_history.specs.Runs.{Run, run_of, row_of, changed}
use Rattle.run_history.specs.Legal.{MayFollow, IsLegal}
use Rattle.run_history.proofs.RunLaws.{run_of-push}
use Rattle.history_laws.proofs.FitLaws.{legal-of_kind, of_kind}
use Rattle.history_laws.proofs.IdLaws.{legal-ids}
use Rattle.history_laws.proofs.RowSteps.{row_of-step}
use Rattle.history_laws.proofs.WorkLaws.{handled-late}
use Rattle.list_lemmas.proofs.Lists.{none_some, some_same}
use Rattle.list_lemmas.proofs.Totals.{total, total-push}
use Rattle.plain_answer.specs.Stories.{handled_by, added_by, done_of, out_of, fires_on}
use Rattle.plain_answer.proofs.Stories.{done-push, out-push, along_legal}
use Rattle.plain_answer.proofs.Members.{out_at, out_at-append, added-here, added-other, computation-apart}
use Rattle.plain_answer.proofs.Causes.{kind-at, kind-left}

-- what rows of a part handled
abbrev pub done_at : ℕ → List Delivery → List Delivery
done_at part ds = filter (λ (d : Delivery). d.to.part == part) ds

-- the records of deliveries
abbrev pub items : List Delivery → List Record
items ds = map (λ (d : Delivery). d.item) ds

-- the records of two lists
items-append : (one other : List Delivery) → items (one ++ other) ≡ items one ++ items other
items-append [] other = refl
items-append (d ∷ ds) other = ap (λ l. d.item ∷ l) (items-append ds other)

-- a pass produces the record again
pass-productions : (key : List ℕ) (state : State) (item : Record) → has_kind kinds.Pass state ≡ true
    → (effects_of kinds.Pass key state (OfRecord item)).productions
    ≡ record { key = item.key; stamp = item.stamp; value = item.value } ∷ []
pass-productions key (states.Pass late) item is = refl
pass-productions key (states.Injector cursor) item is = absurd cc
pass-productions key (states.Count late windows) item is = absurd cc
pass-productions key (states.Spike late held known) item is = absurd cc

-- a pass sets no timer
pass-timers : (key : List ℕ) (state : State) (item : Record)
    → (effects_of kinds.Pass key state (OfRecord item)).timers ≡ []
pass-timers key (states.Pass late) item = refl
pass-timers key state item = refl

-- and produces nothing of one
pass-nothing : (key : List ℕ) (state : State) (timer : Timer)
    → (effects_of kinds.Pass key state (OfTimer timer)).productions ≡ []
pass-nothing key (states.Pass late) timer = refl
pass-nothing key state timer = refl

module _ (case : CaseShape) (part : ℕ) (kind : kind_of case.topology part ≡ Some kinds.Pass) where
  abbrev shape : Shape
  shape = case.topology

  -- the stream has what the rows handled
  abbrev IsPassed : List Entry → Type 0
  IsPassed h = out_at part (out_of shape h) ≡ items (done_at part (done_of shape h))

  -- what an entry adds is what it handles
  adds : (h : List Entry) (entry : Entry) → IsLegal case h → MayFollow case (run_of shape h) entry
      → out_at part (added_by (run_of shape h) entry) ≡ items (done_at part (handled_by (run_of shape h) entry))
  adds h (Inject seq other line item) legal may =
      added-other part (run_of shape h) (Inject seq other line item) (record { part = other; key = [] }) refl
      (computation-apart shape part other kinds.Pass kind may.injector)
  adds h (Handle seq row id effects) legal may =
      let run : Run = run_of shape h in
      let entry : Entry = Handle seq row id effects in
      let d : Delivery = may.delivery in
      let handled : handled_by run entry ≡ d ∷ [] = ap option_to_list may.waits in
      let to : (d.to.part == part) ≡ (row.part == part) = ap (λ (r : RowName). r.part == part) may.to_row in
      elim (row.part == part) as
      (λ b. (row.part == part) ≡ b → out_at part (added_by run entry) ≡ items (done_at part (handled_by run entry))) [
        | true ↦ λ e.
            let of = kind-at shape part row.part kinds.Pass kind e in
            let is = of_kind shape row.part kinds.Pass (row_of shape run row).state of ((legal-of_kind case h legal).states row) in
            let left = kind-left case row (row_of shape run row) (OfRecord d.item)
            effects kinds.Pass _ of refl may.does in
            let late = handled-late case h run seq row id effects (legal-ids case h legal) may in
            added-here part run entry row refl e
            ∙ (λ i. map (produced (late i)) ((sym (ap (λ (o : EffectsView). o.productions) left)
            ∙ pass-productions row.key (row_of shape run row).state d.item is) i))
            ∙ sym (ap (λ l. items (done_at part l)) handled ∙ ap (λ b. items (cond b (d ∷ []) [])) (to ∙ e))
        | false ↦ λ e.
            added-other part run entry row refl e
            ∙ sym (ap (λ l. items (done_at part l)) handled ∙ ap (λ b. items (cond b (d ∷ []) [])) (to ∙ e))
      ] refl
  adds h (Fire seq row timer mark effects) legal may =
      let run : Run = run_of shape h in
      let entry : Entry = Fire seq row timer mark effects in
      elim (row.part == part) as (λ b. (row.part == part) ≡ b → out_at part (added_by run entry) ≡ []) [
        | true ↦ λ e.
            let of = kind-at shape part row.part kinds.Pass kind e in
            let left = kind-left case row (row_of shape run row) (OfTimer timer)
            effects kinds.Pass _ of refl may.does in
            added-here part run entry row refl e
            ∙ ap (map (produced timer.late)) (sym (ap (λ (o : EffectsView). o.productions) left)
            ∙ pass-nothing row.key (row_of shape run row).state timer)
        | false ↦ λ e. added-other part run entry row refl e
      ] refl
  adds h (Ack seq row id) legal may = added-none (Ack seq row id) refl
    where
      added-none : (entry : Entry) → added_by (run_of shape h) entry ≡ [] → out_at part (added_by (run_of shape h) entry) ≡ []
      added-none entry none = ap (out_at part) none
  adds h _ legal may = refl

  -- after each legal history the stream of a pass has what its rows handled
  pub legal-passed : (h : List Entry) → IsLegal case h → IsPassed h
  legal-passed = along_legal case IsPassed
      (λ h entry legal may was.
      ap (out_at part) (out-push shape h entry) ∙ out_at-append part (out_of shape h) (added_by (run_of shape h) entry)
      ∙ (λ i. was i ++ adds h entry legal may i)
      ∙ sym (ap (λ l. items (done_at part l)) (done-push shape h entry)
      ∙ ap items (filter-append (λ (d : Delivery). d.to.part == part) (done_of shape h) (handled_by (run_of shape h) entry))
      ∙ items-append (done_at part (done_of shape h)) (done_at part (handled_by (run_of shape h) entry))))
      refl

  -- ---- no row of a pass has a timer

  -- no row of a pass has a timer
  no-timers : (name : RowName) → (name.part == part) ≡ true → (h : List Entry) → IsLegal case h
      → (row_of shape (run_of shape h) name).timers ≡ []
  no-timers name here = along_legal case (λ h. (row_of shape (run_of shape h) name).timers ≡ [])
      (λ h entry legal may was.
      ap (λ (r : Run). (row_of shape r name).timers) (run_of-push shape h entry)
      ∙ row_of-step shape (run_of shape h) entry name (λ c. c.timers ≡ []) was (λ written. after h entry may was written _))
      refl
    where
      after : (h : List Entry) (entry : Entry) → MayFollow case (run_of shape h) entry → (row_of shape (run_of shape h) name).timers ≡ []
          → row_written entry ≡ Some name → (sent : List Delivery)
          → (changed entry sent (row_of shape (run_of shape h) name)).timers ≡ []
      after h (Handle seq row id effects) may was written sent =
          let same : row ≡ name = some_same row name written in
          let of = kind-at shape part row.part kinds.Pass kind (ap (λ (r : RowName). r.part == part) same ∙ here) in
          let left = kind-left case row (row_of shape (run_of shape h) row) (OfRecord may.delivery.item)
          effects kinds.Pass _ of refl
          may.does in
          (λ i. Rattle.run_history.specs.Runs.with_timers
          ((sym (ap (λ (o : EffectsView). o.timers) left)
          ∙ pass-timers row.key (row_of shape (run_of shape h) row).state may.delivery.item) i) (was i))
      after h (Fire seq row timer mark effects) may was written sent =
          ap (Rattle.row_parts.specs.Contents.without_timer timer.tag timer.time) was
      after h _ may was written sent = was

  -- so none fires
  pub pass-fires : (h : List Entry) → IsLegal case h → total (fires_on part) h ≡ 0
  pass-fires = along_legal case (λ h. total (fires_on part) h ≡ 0)
      (λ h entry legal may was. omega (arith, was, total-push (fires_on part) h entry, one h entry legal may))
      refl
    where
      one : (h : List Entry) (entry : Entry) → IsLegal case h → MayFollow case (run_of shape h) entry → fires_on part entry ≡ 0
      one h (Fire seq row timer mark effects) legal may = elim (row.part == part) as
          (λ b. (row.part == part) ≡ b → ◌≡◌ {A = ℕ} (cond b 1 0) 0) [
            | true ↦ λ e. absurd (none_some timer (sym (ap (λ ts. slice_get ts 0) (no-timers row e h legal)) ∙ may.least_timer))
            | false ↦ λ e. refl
          ] refl
      one h _ legal may = refl
