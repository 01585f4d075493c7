-- What is known of a timer that fires next, and of a row of which none may.
use Rattle.std.proofs.Common.{◌≡◌, ◌∙◌, ◌<◌, ◌≤◌, ◌&&◌, ℕ, Bool, true, false, cond, List, length, refl, sym, ap, subst, arith}
use Rattle.std.specs.Prelude.{Option, Some, is_some, slice_get, unwrap_or, ◌==◌}
use Rattle.std.specs.Option.{option_map_or}
use Rattle.std.proofs.lemmas.Bool.{eqb-true, ltb-false}
use Rattle.std.proofs.lemmas.Option.{slice_get_within}
use Rattle.list_lemmas.proofs.Tests.{both_true}
use Rattle.mw_types.specs.declared.identity.RowName.{RowName}
use Rattle.mw_types.specs.declared.kind.Kind.{Kind}
use Rattle.mw_types.specs.declared.timer.Timer.{Timer}
use Rattle.mw_types.specs.declared.entry.Entry.{Entry}
use Rattle.topology.specs.Shapes.{Shape, injectors_of, kind_of, parts_of}
use Rattle.computations.specs.Handlers.{has_kind}
use Rattle.row_parts.specs.Contents.{Contents, fresh}
use Rattle.run_history.specs.Cases.{CaseShape, fresh_of, is_injector, source_of}
use Rattle.run_history.specs.Fits.{is_cursor_within, suits_part}
use Rattle.run_history.specs.Runs.{Run, row_in, row_of, run_of}
use Rattle.run_history.specs.Watermarks.{low_watermark}
use Rattle.run_history.proofs.Fitting.{fits-parts}
use Rattle.history_laws.proofs.FitLaws.{legal-fits}
use Rattle.history_laws.proofs.PrintLaws.{legal-on_parts}
use Rattle.node.specs.Works.{IsStateThere}
use Rattle.trace_lines.specs.declared.choice.Choice.TheVariants as choices
use Rattle.audit.specs.declared.kept.Kept.{Kept}
use Rattle.audit.specs.Keeping.{IsFollowed, IsKept, sequencer_for}
use Rattle.audit.proofs.FoundLaws.{state-there}
use Rattle.audit.proofs.KeepingLaws.{row-kept}

-- a row that is there is that of its name
pub row-of_there : (shape : Shape) (run : Run) (name : RowName) (row : Contents) → row_in run name ≡ Some row
    → row_of shape run name ≡ row
row-of_there shape run name row there = ap (λ (o : Option Contents). unwrap_or o (fresh (fresh_of shape name.part))) there

-- a row with a timer is that of a computation
pub timer-computes : (case : CaseShape) (history : List Entry) (name : RowName) (row : Contents) (timer : Timer) → IsFollowed case history
    → row_in (run_of case.topology history) name ≡ Some row → slice_get row.timers 0 ≡ Some timer
    → (injectors_of case.topology ≤ name.part) × (name.part < parts_of case.topology)
timer-computes case history name row timer follows there first =
    let part = (legal-on_parts case history follows.lawful.legal).rows name (ap is_some there) in
    let fit = fits-parts case (length history) name (row_of case.topology (run_of case.topology history) name)
    (legal-fits case history name follows.lawful.legal part) in
    let suits : suits_part case name.part row ≡ true =
    sym (ap (suits_part case name.part) (row-of_there case.topology (run_of case.topology history) name row there)) ∙ fit.0 in
    (by_test (is_injector case.topology name.part) refl suits, part)
  where
    within : Bool
    within = is_cursor_within (length (source_of case name.part)) row.state

    by_test : (b : Bool) → is_injector case.topology name.part ≡ b → suits_part case name.part row ≡ true
        → injectors_of case.topology ≤ name.part
    by_test true is suits =
        let both = both_true within (length row.timers == 0)
        (sym (ap (λ b. cond b (within && (length row.timers == 0))
        (option_map_or (λ (k : Kind). has_kind k row.state) (kind_of case.topology name.part) false)) is) ∙ suits) in
        let none = eqb-true (length row.timers) 0 both.1 in
        let some = slice_get_within row.timers 0 timer first in absurd (omega (arith, none, some))
    by_test false is suits = ltb-false name.part (injectors_of case.topology) is

-- and has a state of its kind
pub timer-state : (case : CaseShape) (history : List Entry) (kept : Kept) (name : RowName) (row : Contents) (timer : Timer)
    → IsFollowed case history → IsKept case history kept → row_in (run_of case.topology history) name ≡ Some row
    → slice_get row.timers 0 ≡ Some timer → IsStateThere case.topology name.part row.state
timer-state case history kept name row timer follows keeps there first =
    let parts = timer-computes case history name row timer follows there first in
    subst (λ (c : Contents). IsStateThere case.topology name.part c.state)
    (row-kept case history kept name keeps ∙ row-of_there case.topology (run_of case.topology history) name row there)
    (state-there case history kept name follows keeps parts.0 parts.1)

-- ---- which entry it is

-- what a row has to have to fire
pub record MayFireNext (case : CaseShape) (history : List Entry) (name : RowName) (mark : ℕ) : Type 0 where
  pub seq : ℕ
  pub timer : Timer
  pub first : slice_get (row_of case.topology (run_of case.topology history) name).timers 0 ≡ Some timer
  pub due : timer.time ≤ mark
  pub under : mark ≤ low_watermark case (run_of case.topology history) name.part
  pub claimed : sequencer_for case.topology history name ≡ Some seq
