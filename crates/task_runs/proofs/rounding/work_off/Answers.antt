use Rattle.std.proofs.Common.{◌∙◌, Err, List, All, refl, sym, ap, subst, arith}
use Rattle.mw_types.specs.declared.entry.Entry.{Entry}
use Rattle.book.specs.Books.{core_of}
use Rattle.book.specs.Lawful.{IsLawful}
use Rattle.run_history.specs.Cases.{CaseShape}
use Rattle.run_history.specs.Printing.{IsPrintable}
use Rattle.run_history.specs.HistoryLines.{HasLine}
use Rattle.run_history.specs.Inputs.{IsRunnable}
use Rattle.task_runs.specs.Answers.{RunLeaves}
use Rattle.task_runs.proofs.Running.{damaged_at, none_kept, run_of_history, whole_run}
use Rattle.task_runs.proofs.RoundLaws.{drained_goes, drained_short, drained_whole}
use Rattle.task_runs.proofs.Statuses.{drain_fault, drain_sink, text_keeper}
use Rattle.task_runs.proofs.Leaving.{stopped, told_plainly, unwritten, wrote_as}
use Rattle.task_runs.proofs.rounding.work_off.Goals as goal

pub returns-in-Ok-clause-left : goal.returns-in-Ok-clause-left
returns-in-Ok-clause-left g c began empty =
    let task = c.args.task.now in
    let old = c.args.book.now in
    let new = c.drain-drained.new.book in
    let after = c.drain-drained.ensures in
    let lawful : IsLawful new.case (core_of new) = c.look.ensures.lawful in
    let mine = after.case ∙ c.requires.case in
    let goes = drained_goes task old new c.requires.case after.tells after.grown after.draining c.requires.rounds in
    let all = drained_whole task old new c.requires.case after.grown after.draining c.in-Ok.ensures.ended c.requires.rounds in
    let run = run_of_history task began new (g.O.Sink.text c.args.out.now, g.O.Sink.text c.write.new.out) empty mine lawful goes in
    let runnable = subst IsRunnable mine lawful.runnable in
    let whole = whole_run task old.rows _ run runnable c.drains_leave_no_work.ensures.finished after.tells all in
    let plain = told_plainly task _ whole runnable (omega (arith, lawful.few, lawful.limit))
    c.results_are_the_plain_count.ensures.plain in
    wrote_as task _ _ _ c.requires.late c.history.ensures.history whole plain c.write.ensures.written

pub returns-in-Err-clause-left : goal.returns-in-Err-clause-left
returns-in-Err-clause-left g c began empty =
    let task = c.args.task.now in
    let old = c.args.book.now in
    let new = c.drain-drained.new.book in
    let after = c.drain-drained.ensures in
    let text = g.O.Sink.text c.args.out.now in
    let lawful : IsLawful new.case (core_of new) = c.look.ensures.lawful in
    let mine = after.case ∙ c.requires.case in
    let goes = drained_goes task old new c.requires.case after.tells after.grown after.draining c.requires.rounds in
    let run = run_of_history task began new (text, text) empty mine lawful goes in
    subst (RunLeaves task _) (sym c.status_of_drain.ensures)
    (stopped task _ c.in-Err.fault run (unwritten task.wanted task.case.topology new.history (text, text) c.requires.late refl)
    (λ e. c.in-Err.ensures.full (ap Err e) ∙ after.limit ∙ c.requires.limit)
    (λ e. drained_short task old new c.requires.case after.case lawful after.tells after.grown after.draining
    c.drains_begin_the_drained_history.ensures.begins c.requires.rounds (c.in-Err.ensures.more (ap Err e)))
    (λ name bytes e. damaged_at task new _ name bytes mine c.in-Err.ensures.damaged e))

pub returns-in-Ok-clause-none : goal.returns-in-Ok-clause-none
returns-in-Ok-clause-none g c empty = none_kept _ _ c.drain-drained.new.book.rows empty c.look.ensures.lawful.held

pub returns-in-Err-clause-none : goal.returns-in-Err-clause-none
returns-in-Err-clause-none g c empty = none_kept _ _ c.drain-drained.new.book.rows empty c.look.ensures.lawful.held

pub write-requires-clause-printable : goal.write-requires-clause-printable
write-requires-clause-printable g c =
    subst (λ (k : CaseShape). IsPrintable k.topology c.history.result.now) (c.drain-drained.ensures.case ∙ c.requires.case)
    (subst (λ (h : List Entry). IsPrintable c.drain-drained.new.book.case.topology h) (sym c.history.ensures.history)
    c.look.ensures.lawful.printable)

pub write-requires-clause-lines : goal.write-requires-clause-lines
write-requires-clause-lines g c = subst (All HasLine) (sym c.history.ensures.history) c.look.ensures.lawful.lines

pub returns-in-Ok-clause-keeper_fault : goal.returns-in-Ok-clause-keeper_fault
returns-in-Ok-clause-keeper_fault g c is = absurd (text_keeper _ _ _ _ _ _ c.write.ensures.written is)

pub returns-in-Err-clause-keeper_fault : goal.returns-in-Err-clause-keeper_fault
returns-in-Err-clause-keeper_fault g c is =
    c.in-Err.ensures.keeper_fault (ap Err (drain_fault _ (sym c.status_of_drain.ensures ∙ is)))

pub returns-in-Err-clause-sink_fault : goal.returns-in-Err-clause-sink_fault
returns-in-Err-clause-sink_fault g c is = absurd (drain_sink _ (sym c.status_of_drain.ensures ∙ is))
