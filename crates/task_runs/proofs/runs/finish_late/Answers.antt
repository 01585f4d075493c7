use Rattle.std.proofs.Common.{◌∙◌, Err, List, All, IfSome, refl, sym, ap, subst, arith}
use Rattle.mw_types.specs.declared.entry.Entry.{Entry}
use Rattle.book.specs.Books.{BookView, core_of}
use Rattle.book.specs.Lawful.{IsLawful}
use Rattle.topology.specs.Folding.{RoutesView}
use Rattle.run_history.specs.Cases.{CaseShape}
use Rattle.run_history.specs.Printing.{IsPrintable}
use Rattle.run_history.specs.HistoryLines.{HasLine}
use Rattle.run_history.specs.Inputs.{IsRunnable}
use Rattle.world.specs.scripts.Worlds.{World}
use Rattle.world.specs.Replays.{IsReplayed, IsWholeReplay}
use Rattle.task_runs.specs.declared.task.Before.{Before}
use Rattle.task_runs.specs.Histories.{GoesAs, IsAllOf}
use Rattle.task_runs.specs.Answers.{RunLeaves}
use Rattle.task_runs.proofs.Running.{run_of_book, run_short, whole_run, same_where_empty, damaged_at, more_seen, over_task}
use Rattle.task_runs.proofs.Statuses.{drain_fault, drain_sink, text_keeper}
use Rattle.task_runs.proofs.Leaving.{wrote_as, told_plainly, stopped, unwritten}
use Rattle.task_runs.proofs.runs.finish_late.Goals as goal

pub returns-in-Ok-clause-left : goal.returns-in-Ok-clause-left
returns-in-Ok-clause-left g c =
    let task = c.args.task.now in
    let old = c.args.world.now.book in
    let new = c.replay-replayed.new.world.book in
    let after = c.replay-replayed.ensures in
    let empty = ap (λ (w : World). w.history) c.requires.begun in
    let steps = c.args.steps.now in
    let goes = subst (λ (b : Before). IfSome old.rows (λ _. GoesAs task.routes task.case b new.history)) (sym c.requires.before)
    (over_task _ _ _ _ (λ (r : RoutesView) (k : CaseShape). IfSome old.rows (λ _. IsReplayed r k steps new.history)) c.requires.routes
    c.requires.case after.replayed) in
    let all = subst (λ (b : Before). IfSome old.rows (λ _. IsAllOf task.routes task.case b new.history)) (sym c.requires.before)
    (over_task _ _ _ _ (λ (r : RoutesView) (k : CaseShape). IfSome old.rows (λ _. IsWholeReplay r k steps new.history)) c.requires.routes
    c.requires.case c.in-Ok.ensures.whole) in
    let run = run_of_book task old new (g.O.Sink.text c.args.out.now, g.O.Sink.text c.write.new.out) c.requires.case after.case
    c.look.ensures.lawful c.look-2.ensures.lawful empty after.tells goes in
    let whole = whole_run task old.rows _ run (subst IsRunnable c.requires.case c.look.ensures.lawful.runnable)
    c.drains_leave_no_work.ensures.finished after.tells all in
    let told = c.history-history.ensures.history ∙ ap (λ (b : BookView). b.history) c.book.ensures.book in
    let lawful : IsLawful new.case (core_of new) = c.look-2.ensures.lawful in
    let plain = told_plainly task _ whole (subst IsRunnable c.requires.case c.look.ensures.lawful.runnable)
    (omega (arith, lawful.few, lawful.limit)) c.results_are_the_plain_count.ensures.plain in
    wrote_as task _ _ _ c.requires.late told whole plain c.write.ensures.written

pub returns-in-Err-clause-left : goal.returns-in-Err-clause-left
returns-in-Err-clause-left g c =
    let task = c.args.task.now in
    let old = c.args.world.now.book in
    let new = c.replay-replayed.new.world.book in
    let after = c.replay-replayed.ensures in
    let text = g.O.Sink.text c.args.out.now in
    let empty = ap (λ (w : World). w.history) c.requires.begun in
    let steps = c.args.steps.now in
    let goes = subst (λ (b : Before). IfSome old.rows (λ _. GoesAs task.routes task.case b new.history)) (sym c.requires.before)
    (over_task _ _ _ _ (λ (r : RoutesView) (k : CaseShape). IfSome old.rows (λ _. IsReplayed r k steps new.history)) c.requires.routes
    c.requires.case after.replayed) in
    let run = run_of_book task old new (text, text) c.requires.case after.case
    c.look.ensures.lawful c.look-2.ensures.lawful empty after.tells goes in
    let status = stopped task _ c.in-Err.fault run (unwritten task.wanted task.case.topology new.history (text, text) c.requires.late refl)
    (λ e. c.in-Err.ensures.full (ap Err e) ∙ after.limit ∙ c.requires.limit)
    (λ e. run_short task _ steps c.requires.before run (subst IsRunnable c.requires.case c.look.ensures.lawful.runnable).topology
    c.drains_begin_the_drained_history.ensures.begins (more_seen _ old.rows new.rows after.tells
    (over_task _ _ _ _ (λ (r : RoutesView) (k : CaseShape). IfSome old.rows (λ _. IsWholeReplay r k steps new.history → ⊥)) c.requires.routes
    c.requires.case (c.in-Err.ensures.more (ap Err e)))))
    (λ name bytes e. damaged_at task new _ name bytes (after.case ∙ c.requires.case) c.in-Err.ensures.damaged e) in
    subst (RunLeaves task _) (sym c.status_of_drain.ensures) status

pub returns-in-Ok-clause-untouched : goal.returns-in-Ok-clause-untouched
returns-in-Ok-clause-untouched g c empty =
    let before = c.look.ensures.lawful in
    let after = c.look-2.ensures.lawful in
    let old = c.args.world.now.book in
    let new = c.replay-replayed.new.world.book in
    same_where_empty old.case new.case old.history new.history old.rows new.rows c.replay-replayed.ensures.tells
    (ap (λ (w : World). w.history) c.requires.begun) empty before.held after.held

pub returns-in-Err-clause-untouched : goal.returns-in-Err-clause-untouched
returns-in-Err-clause-untouched g c empty =
    let before = c.look.ensures.lawful in
    let after = c.look-2.ensures.lawful in
    let old = c.args.world.now.book in
    let new = c.replay-replayed.new.world.book in
    same_where_empty old.case new.case old.history new.history old.rows new.rows c.replay-replayed.ensures.tells
    (ap (λ (w : World). w.history) c.requires.begun) empty before.held after.held

pub write-requires-clause-printable : goal.write-requires-clause-printable
write-requires-clause-printable g c =
    subst (λ (k : CaseShape). IsPrintable k.topology c.history-history.result.now) (c.replay-replayed.ensures.case ∙ c.requires.case)
    (subst (λ (h : List Entry). IsPrintable c.replay-replayed.new.world.book.case.topology h)
    (sym (c.history-history.ensures.history ∙ ap (λ (b : BookView). b.history) c.book.ensures.book))
    c.look-2.ensures.lawful.printable)

pub write-requires-clause-lines : goal.write-requires-clause-lines
write-requires-clause-lines g c =
    subst (All HasLine) (sym (c.history-history.ensures.history ∙ ap (λ (b : BookView). b.history) c.book.ensures.book))
    c.look-2.ensures.lawful.lines

pub returns-in-Ok-clause-keeper_fault : goal.returns-in-Ok-clause-keeper_fault
returns-in-Ok-clause-keeper_fault g c is = absurd (text_keeper _ _ _ _ _ _ c.write.ensures.written is)

pub returns-in-Err-clause-keeper_fault : goal.returns-in-Err-clause-keeper_fault
returns-in-Err-clause-keeper_fault g c is =
    c.in-Err.ensures.keeper_fault (ap Err (drain_fault _ (sym c.status_of_drain.ensures ∙ is)))

pub returns-in-Err-clause-sink_fault : goal.returns-in-Err-clause-sink_fault
returns-in-Err-clause-sink_fault g c is = absurd (drain_sink _ (sym c.status_of_drain.ensures ∙ is))
