-- What a row of a count produces where it fires.
use Rattle.std.proofs.Common.{◌≡◌, ℕ, ◌<◌, ◌==◌, cond, List, ◌∷◌, ◌++◌, length, find, Option, Some, None, refl, sym, ◌∙◌, ap, arith, length-append}
use Rattle.mw_types.specs.declared.TheConstants.{MAX_STAMP}
use Rattle.mw_types.specs.declared.identity.RowName.{RowName}
use Rattle.mw_types.specs.declared.kind.Kind.TheVariants as kinds
use Rattle.mw_types.specs.declared.state.State.TheVariants as states
use Rattle.mw_types.specs.declared.state.Window.{Window}
use Rattle.mw_types.specs.declared.timer.Timer.{Timer}
use Rattle.mw_types.specs.declared.entry.Entry.{Entry}
use Rattle.mw_types.specs.declared.entry.Entry.TheVariants.{Fire}
use Rattle.mw_types.specs.Outcomes.{EffectsView}
use Rattle.topology.specs.Shapes.{Shape, kind_of}
use Rattle.computations.specs.Handlers.{count_timer, window_due, OfTimer}
use Rattle.run_history.specs.Cases.{CaseShape}
use Rattle.run_history.specs.Runs.{run_of, row_of, empty_run}
use Rattle.run_history.specs.Legal.{MayFire, IsLegal}
use Rattle.run_history.specs.Inputs.{IsRunnable}
use Rattle.history_laws.proofs.Along.{AreLegal-apart}
use Rattle.plain_answer.specs.Deeds.{windows_after, deeds_of, open_window, closing}
use Rattle.plain_answer.proofs.Causes.{kind-left}
use Rattle.plain_answer.proofs.Counting.{count-windows}
use Rattle.plain_answer.proofs.Opening.{window-open}

-- a window that is due is produced
productions-closing : (key : List ℕ) (late : ℕ) (ws : List Window) (due : Option Window) → (count_timer key late ws due).productions
    ≡ closing key due
productions-closing key late ws None = refl
productions-closing key late ws (Some due) = refl

module _ (case : CaseShape) (name : RowName) (size : ℕ) (runs : IsRunnable case)
    (kind : kind_of case.topology name.part ≡ Some (kinds.Count size)) where
  abbrev shape : Shape
  shape = case.topology

  -- where the row fires it produces the window that is open there
  pub fire-produces : (before after : List Entry) (seq : ℕ) (timer : Timer) (mark : ℕ) (effects : EffectsView)
      → IsLegal case (before ++ Fire seq name timer mark effects ∷ after)
      → length (before ++ Fire seq name timer mark effects ∷ after) < MAX_STAMP → timer.tag ≡ 0
      → effects.productions ≡ closing name.key (open_window size timer.time (deeds_of shape name before))
  fire-produces before after seq timer mark effects legal few tag =
      let entry : Entry = Fire seq name timer mark effects in
      let apart = AreLegal-apart case before (entry ∷ after) empty_run legal in
      let may : MayFire case (run_of shape before) name timer mark effects = apart.1.0 in
      let ws : List Window = windows_after size (deeds_of shape name before) in
      let counted = count-windows case name size kind before apart.0 in
      let long = length-append before (entry ∷ after) in
      let opened = window-open case name size runs kind before apart.0 (omega (arith, few, long)) timer.time in
      let left : count_timer name.key counted.0 ws (window_due ws timer) ≡ effects = kind-left case name
      (row_of shape (run_of shape before) name) (OfTimer timer) effects (kinds.Count size)
      (states.Count counted.0 ws) kind counted.1
      may.does in
      let due : window_due ws timer ≡ open_window size timer.time (deeds_of shape name before) =
      ap (λ n. cond (n == 0) (find (λ (w : Window). w.end == timer.time) ws) None) tag ∙ opened in
      ap (λ (o : EffectsView). o.productions) (sym left)
      ∙ productions-closing name.key counted.0 ws (window_due ws timer)
      ∙ ap (closing name.key) due
