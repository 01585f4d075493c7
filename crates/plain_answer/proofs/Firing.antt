-- A count fires a timer for each record that it puts into its stream.
use Rattle.std.proofs.Common.{◌≡◌, ℕ, ◌==◌, Bool, true, false, cond, List, [], length, map, find, Option, Some, None, refl, sym, ◌∙◌, ap, arith, length-append}
use Rattle.mw_types.specs.declared.kind.Kind.TheVariants as kinds
use Rattle.mw_types.specs.declared.state.State.TheVariants as states
use Rattle.mw_types.specs.declared.state.Window.{Window}
use Rattle.mw_types.specs.declared.entry.Entry.{Entry}
use Rattle.mw_types.specs.declared.entry.Entry.TheVariants.{Inject, Handle, Fire, Ack}
use Rattle.mw_types.specs.Outcomes.{EffectsView}
use Rattle.topology.specs.Shapes.{Shape, kind_of}
use Rattle.computations.specs.Handlers.{window_due, count_timer, OfTimer}
use Rattle.run_history.specs.Cases.{CaseShape}
use Rattle.run_history.specs.Made.{produced}
use Rattle.run_history.specs.Runs.{Run, run_of, row_of}
use Rattle.run_history.specs.Legal.{MayFollow, IsLegal}
use Rattle.list_lemmas.proofs.Places.{each-at}
use Rattle.list_lemmas.proofs.Totals.{total, total-push}
use Rattle.plain_answer.specs.Deeds.{windows_after, deeds_of}
use Rattle.plain_answer.specs.Stories.{added_by, out_of, fires_on}
use Rattle.plain_answer.proofs.Closing.{record-nothing}
use Rattle.plain_answer.proofs.Counting.{count-windows}
use Rattle.plain_answer.proofs.Members.{out_at, out_at-append, added-here, added-other, computation-apart}
use Rattle.plain_answer.proofs.Causes.{kind-at, kind-left, handled-nothing}
use Rattle.plain_answer.proofs.Setting.{IsSet, legal-set, found-window}
use Rattle.plain_answer.proofs.Stories.{out-push, along_legal}

-- a window that is found is one record
closing-one : (key : List ℕ) (late : ℕ) (ws : List Window) (late_now : Bool) (due : Option Window) (w : Window) → due ≡ Some w
    → length (map (produced late_now) (count_timer key late ws due).productions) ≡ 1
closing-one key late ws late_now due w found = ap (λ o. length (map (produced late_now) (count_timer key late ws o).productions)) found

module _ (case : CaseShape) (part size : ℕ) (kind : kind_of case.topology part ≡ Some (kinds.Count size)) where
  abbrev shape : Shape
  shape = case.topology

  -- an entry fires as often as it adds a record
  one : (h : List Entry) (entry : Entry) → IsLegal case h → MayFollow case (run_of shape h) entry
      → fires_on part entry ≡ length (out_at part (added_by (run_of shape h) entry))
  one h (Inject seq other line item) legal may =
      sym (ap length (added-other part (run_of shape h) (Inject seq other line item) (record { part = other; key = [] }) refl
      (computation-apart shape part other (kinds.Count size) kind may.injector)))
  one h (Handle seq row id effects) legal may =
      sym (ap length (handled-nothing case (run_of shape h) part (kinds.Count size) seq row id effects kind
      (record-nothing size) may))
  one h (Fire seq row timer mark effects) legal may =
      elim (row.part == part) as
      (λ b. (row.part == part) ≡ b → ◌≡◌ {A = ℕ} (cond b 1 0)
      (length (out_at part (added_by (run_of shape h) (Fire seq row timer mark effects))))) [
        | true ↦ λ e.
            let run : Run = run_of shape h in
            let of = kind-at shape part row.part (kinds.Count size) kind e in
            let ws : List Window = windows_after size (deeds_of shape row h) in
            let set = each-at (IsSet ws) (row_of shape run row).timers 0 timer (legal-set case row size of h legal) may.least_timer in
            let counts = count-windows case row size of h legal in
            let left : count_timer row.key counts.0 ws (window_due ws timer) ≡ effects =
            kind-left case row (row_of shape run row)
            (OfTimer timer) effects (kinds.Count size) (states.Count counts.0 ws) of counts.1 may.does in
            let found = found-window timer.time ws set.2 in
            let due : window_due ws timer ≡ Some found.0 =
            ap (λ n. cond (n == 0) (find (λ (w : Window). w.end == timer.time) ws) None) set.0 ∙ found.1 in
            sym (ap length (added-here part run (Fire seq row timer mark effects) row refl e)
            ∙ ap (λ (o : EffectsView). length (map (produced timer.late) o.productions)) (sym left)
            ∙ closing-one row.key counts.0 ws timer.late (window_due ws timer) found.0 due)
        | false ↦ λ e. sym (ap length (added-other part (run_of shape h) (Fire seq row timer mark effects) row refl e))
      ] refl
  one h (Ack seq row id) legal may = none (Ack seq row id) refl
    where
      none : (entry : Entry) → added_by (run_of shape h) entry ≡ [] → ◌≡◌ {A = ℕ} 0 (length (out_at part (added_by (run_of shape h) entry)))
      none entry e = sym (ap (λ l. length (out_at part l)) e)
  one h _ legal may = refl

  -- a count fires as often as there are records in its stream
  pub count-fires : (h : List Entry) → IsLegal case h → total (fires_on part) h ≡ length (out_at part (out_of shape h))
  count-fires = along_legal case (λ h. total (fires_on part) h ≡ length (out_at part (out_of shape h)))
      (λ h entry legal may was.
      let grown = ap length (ap (out_at part) (out-push shape h entry)
      ∙ out_at-append part (out_of shape h) (added_by (run_of shape h) entry)) in
      omega (
        arith,
        was,
        one h entry legal may,
        total-push (fires_on part) h entry,
        grown,
        length-append (out_at part (out_of shape h)) (out_at part (added_by (run_of shape h) entry)),
      ))
      refl
