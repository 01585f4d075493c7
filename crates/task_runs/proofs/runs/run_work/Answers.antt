use Rattle.std.proofs.Common.{◌∙◌, length, refl, sym, ap, subst}
use Rattle.std.specs.Prelude.{replicate}
use Rattle.std.specs.Option.{is_some}
use Rattle.mw_types.specs.Causes.{Rose}
use Rattle.mw_types.proofs.CauseLaws.{Rose-before}
use Rattle.run_history.specs.Cases.{CaseShape, intervals_of}
use Rattle.node.specs.Works.{IsWorkOf}
use Rattle.task_runs.specs.Answers.{Left, IsUnbegun, RunLeaves}
use Rattle.task_runs.proofs.Statuses.{start_fault, start_sink}
use Rattle.task_runs.proofs.Leaving.{same_run, unstarted}
use Rattle.task_runs.proofs.runs.run_work.Goals as goal

pub run_book-requires-clause-work : goal.run_book-requires-clause-work
run_book-requires-clause-work g c =
    let work = c.args.work in
    subst (λ (case : CaseShape). IsWorkOf case.topology (g.C.Computation.does work)) (sym c.in-Ok.ensures.case) c.requires.work

pub run_book-requires-clause-marks : goal.run_book-requires-clause-marks
run_book-requires-clause-marks g c =
    c.in-Ok.ensures.marks ∙ ap (λ (k : CaseShape). replicate (length (intervals_of k.topology)) 0) (sym c.in-Ok.ensures.case)

pub returns-in-Ok-clause-keeper_fault : goal.returns-in-Ok-clause-keeper_fault
returns-in-Ok-clause-keeper_fault g c is = Rose-before _ _ _ c.in-Ok.ensures.faults (c.run_book.ensures.keeper_fault is)

pub returns-in-Ok-clause-left : goal.returns-in-Ok-clause-left
returns-in-Ok-clause-left g c =
    same_run _ _ _ _ _ _ _ c.in-Ok.ensures.rows c.run_book.ensures.left

pub returns-in-Ok-clause-untouched : goal.returns-in-Ok-clause-untouched
returns-in-Ok-clause-untouched g c empty = c.run_book.ensures.untouched empty ∙ c.in-Ok.ensures.rows

pub returns-in-Ok-clause-tells : goal.returns-in-Ok-clause-tells
returns-in-Ok-clause-tells g c = c.run_book.ensures.tells ∙ ap is_some c.in-Ok.ensures.rows

pub returns-in-Err-clause-keeper_fault : goal.returns-in-Err-clause-keeper_fault
returns-in-Err-clause-keeper_fault g c is =
    subst (λ k. Rose (g.K.Keeper.faults c.args.keeper) (g.K.Keeper.faults k)) (sym c.unstarted.ensures.keeper)
    (c.in-Err.ensures.keeper_fault (start_fault _ (sym c.unstarted.ensures.status ∙ is)))

pub returns-in-Err-clause-sink_fault : goal.returns-in-Err-clause-sink_fault
returns-in-Err-clause-sink_fault g c is = absurd (start_sink _ (sym c.unstarted.ensures.status ∙ is))

pub returns-in-Err-clause-left : goal.returns-in-Err-clause-left
returns-in-Err-clause-left g c =
    let left : Left = record {
      rows = (g.K.Keeper.rows c.args.keeper, g.K.Keeper.rows c.unstarted.result.keeper);
      text = (g.O.Sink.text c.args.out.now, g.O.Sink.text c.args.out.now);
      history = c.unstarted.result.history;
    } in
    let same = ap g.K.Keeper.rows c.unstarted.ensures.keeper ∙ c.in-Err.ensures.unchanged in
    let unbegun : IsUnbegun left = record { empty = c.unstarted.ensures.history; same_rows = same; unwritten = refl } in
    subst (λ s. RunLeaves c.args.task.now left s) (sym c.unstarted.ensures.status)
    (unstarted c.args.task.now left c.in-Err.refusal.why unbegun c.in-Err.ensures.not_empty)

pub returns-in-Err-clause-untouched : goal.returns-in-Err-clause-untouched
returns-in-Err-clause-untouched g c empty = ap g.K.Keeper.rows c.unstarted.ensures.keeper ∙ c.in-Err.ensures.unchanged

pub returns-in-Err-clause-tells : goal.returns-in-Err-clause-tells
returns-in-Err-clause-tells g c =
    ap is_some (ap g.K.Keeper.rows c.unstarted.ensures.keeper ∙ c.in-Err.ensures.unchanged)
