use Rattle.std.proofs.Common.{◌∙◌, Some, refl, sym, subst}
use Rattle.run_history.specs.Inputs.{IsRunnable}
use Rattle.task_runs.specs.Answers.{RunLeaves}
use Rattle.task_runs.proofs.Running.{none_kept, run_of_history}
use Rattle.task_runs.proofs.RoundLaws.{damaged_within, rounds_stopped, stopped_short, told_always}
use Rattle.task_runs.proofs.Leaving.{stopped, unwritten}
use Rattle.task_runs.proofs.rounding.stop.Goals as goal

pub returns-clause-left : goal.returns-clause-left
returns-clause-left g c text began empty =
    let task = c.args.task.now in
    let book = c.args.book.now in
    let lawful = c.look.ensures.lawful in
    let draining = c.drains_grow_by_their_next_entries.ensures.first task.case book.history in
    let goes = told_always book.rows
    (rounds_stopped task.routes task.case task.before book.rows (Some c.args.fault) book.history draining c.requires.rounds) in
    let run = run_of_history task began book (text, text) empty c.requires.case lawful goes in
    subst (RunLeaves task _) (sym c.status_of_drain.ensures)
    (stopped task _ c.args.fault run (unwritten task.wanted task.case.topology book.history (text, text) c.requires.late refl)
    (λ e. c.requires.full e ∙ c.requires.limit)
    (λ e. stopped_short task book (Some c.args.fault) c.requires.case lawful
    (subst IsRunnable c.requires.case lawful.runnable).topology draining c.drains_begin_the_drained_history.ensures.begins
    c.requires.rounds)
    (λ name bytes e. damaged_within task book.rows (Some c.args.fault) c.args.fault book.history name bytes c.requires.rounds
    c.requires.damaged e))

pub returns-clause-none : goal.returns-clause-none
returns-clause-none g c empty = none_kept _ _ c.args.book.now.rows empty c.look.ensures.lawful.held
