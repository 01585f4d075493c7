use Rattle.std.proofs.Common.{◌∙◌, ◌==◌, IfSome, Err, length, refl, sym, ap, subst}
use Rattle.mw_types.proofs.CauseLaws.{Rose-before}
use Rattle.topology.specs.Folding.{RoutesView}
use Rattle.run_history.specs.Cases.{CaseShape}
use Rattle.run_history.specs.Inputs.{IsRunnable}
use Rattle.world.specs.scripts.Worlds.{World}
use Rattle.world.specs.Replays.{IsReplayed, IsWholeReplay}
use Rattle.task_runs.specs.declared.task.Before.{Before}
use Rattle.task_runs.specs.Histories.{GoesAs, IsAllOf}
use Rattle.task_runs.specs.Answers.{RunLeaves}
use Rattle.task_runs.specs.Lives.{HasResults, WritesReplay}
use Rattle.task_runs.specs.Inside.{HasLiveCause, IsLiveBehind}
use Rattle.task_runs.proofs.Running.{damaged_at, more_seen, run_of_book, run_short, same_where_empty, seen_on, whole_run, over_task}
use Rattle.task_runs.proofs.Statuses.{live_keeper, live_sink, written_keeper}
use Rattle.task_runs.proofs.LivesLeft.{at_once, stopped_live, wrote_live}
use Rattle.task_runs.proofs.live.finish_live.Goals as goal

pub returns-in-Ok-clause-left : goal.returns-in-Ok-clause-left
returns-in-Ok-clause-left g c =
    let task = c.args.task.now in
    let old = c.args.world.now.book in
    let new = c.run_live-ran.new.world.book in
    let after = c.run_live-ran.ensures in
    let empty = ap (λ (w : World). w.history) c.requires.begun in
    let steps = c.args.steps.now in
    let some = g.O.Sink.text c.args.out.now in
    let mid = g.O.Sink.text c.run_live-ran.new.out in
    let goes = subst (λ (b : Before). IfSome old.rows (λ _. GoesAs task.routes task.case b new.history)) (sym c.requires.before)
    (over_task _ _ _ _ (λ (r : RoutesView) (k : CaseShape). IfSome old.rows (λ _. IsReplayed r k steps new.history)) c.requires.routes
    c.requires.case after.replayed) in
    let all = subst (λ (b : Before). IfSome old.rows (λ _. IsAllOf task.routes task.case b new.history)) (sym c.requires.before)
    (over_task _ _ _ _ (λ (r : RoutesView) (k : CaseShape). IfSome old.rows (λ _. IsWholeReplay r k steps new.history)) c.requires.routes
    c.requires.case c.in-Ok.ensures.whole) in
    let run = run_of_book task old new (some, g.O.Sink.text c.write_summary.new.out) c.requires.case after.case
    c.sound.ensures.lawful c.sound-2.ensures.lawful empty after.tells goes in
    let whole = whole_run task old.rows _ run (subst IsRunnable c.requires.case c.sound.ensures.lawful.runnable)
    c.drains_leave_no_work.ensures.finished after.tells all in
    let has = subst (λ (k : CaseShape). HasResults k.topology new.history (length steps == 0) some mid) c.requires.case
    c.in-Ok.ensures.results in
    let lines = seen_on (WritesReplay task.routes task.case steps new.history some mid) old.rows new.rows after.tells
    (over_task _ _ _ _ (λ (r : RoutesView) (k : CaseShape). IfSome old.rows (λ _. WritesReplay r k steps new.history some mid)) c.requires.routes
    c.requires.case c.in-Ok.ensures.lines) in
    wrote_live task _ steps mid (at_once task.wanted c.requires.live) c.requires.before whole has lines c.write_summary.result
    c.write_summary.ensures.written

pub returns-in-Err-clause-left : goal.returns-in-Err-clause-left
returns-in-Err-clause-left g c =
    let task = c.args.task.now in
    let old = c.args.world.now.book in
    let new = c.run_live-ran.new.world.book in
    let after = c.run_live-ran.ensures in
    let empty = ap (λ (w : World). w.history) c.requires.begun in
    let steps = c.args.steps.now in
    let some = g.O.Sink.text c.args.out.now in
    let mid = g.O.Sink.text c.run_live-ran.new.out in
    let fault = c.in-Err.fault in
    let goes = subst (λ (b : Before). IfSome old.rows (λ _. GoesAs task.routes task.case b new.history)) (sym c.requires.before)
    (over_task _ _ _ _ (λ (r : RoutesView) (k : CaseShape). IfSome old.rows (λ _. IsReplayed r k steps new.history)) c.requires.routes
    c.requires.case after.replayed) in
    let run = run_of_book task old new (some, mid) c.requires.case after.case
    c.sound.ensures.lawful c.sound-2.ensures.lawful empty after.tells goes in
    let behind = subst (λ (k : CaseShape). IsLiveBehind fault k.topology new.history some mid) c.requires.case c.in-Err.ensures.behind in
    let cause = c.in-Err.ensures.cause in
    subst (RunLeaves task _) (sym c.status_of_live.ensures)
    (stopped_live task _ fault (at_once task.wanted c.requires.live) run behind
    (λ why e f. (subst (HasLiveCause old new _ _) e cause).full f ∙ after.limit ∙ c.requires.limit)
    (λ e. run_short task _ steps c.requires.before run (subst IsRunnable c.requires.case c.sound.ensures.lawful.runnable).topology
    c.drains_begin_the_drained_history.ensures.begins (more_seen _ old.rows new.rows after.tells
    (over_task _ _ _ _ (λ (r : RoutesView) (k : CaseShape). IfSome old.rows (λ _. IsWholeReplay r k steps new.history → ⊥)) c.requires.routes
    c.requires.case (c.in-Err.ensures.more (ap Err e)))))
    (λ why name bytes e f. damaged_at task new why name bytes (after.case ∙ c.requires.case)
    (subst (HasLiveCause old new _ _) e cause).damaged f))

pub returns-in-Ok-clause-untouched : goal.returns-in-Ok-clause-untouched
returns-in-Ok-clause-untouched g c empty =
    let before = c.sound.ensures.lawful in
    let after = c.sound-2.ensures.lawful in
    let old = c.args.world.now.book in
    let new = c.run_live-ran.new.world.book in
    same_where_empty old.case new.case old.history new.history old.rows new.rows c.run_live-ran.ensures.tells
    (ap (λ (w : World). w.history) c.requires.begun) empty before.held after.held

pub returns-in-Err-clause-untouched : goal.returns-in-Err-clause-untouched
returns-in-Err-clause-untouched g c empty =
    let before = c.sound.ensures.lawful in
    let after = c.sound-2.ensures.lawful in
    let old = c.args.world.now.book in
    let new = c.run_live-ran.new.world.book in
    same_where_empty old.case new.case old.history new.history old.rows new.rows c.run_live-ran.ensures.tells
    (ap (λ (w : World). w.history) c.requires.begun) empty before.held after.held

pub returns-in-Ok-clause-keeper_fault : goal.returns-in-Ok-clause-keeper_fault
returns-in-Ok-clause-keeper_fault g c is = absurd (written_keeper _ _ _ _ c.write_summary.ensures.written is)

pub returns-in-Err-clause-keeper_fault : goal.returns-in-Err-clause-keeper_fault
returns-in-Err-clause-keeper_fault g c is =
    (subst (HasLiveCause c.args.world.now.book c.run_live-ran.new.world.book _ _)
    (live_keeper c.in-Err.fault (sym c.status_of_live.ensures ∙ is)) c.in-Err.ensures.cause).keeper refl

pub returns-in-Err-clause-sink_fault : goal.returns-in-Err-clause-sink_fault
returns-in-Err-clause-sink_fault g c is =
    subst (HasLiveCause c.args.world.now.book c.run_live-ran.new.world.book _ _)
    (live_sink c.in-Err.fault (sym c.status_of_live.ensures ∙ is)) c.in-Err.ensures.cause refl

pub returns-in-Ok-clause-sink_fault : goal.returns-in-Ok-clause-sink_fault
returns-in-Ok-clause-sink_fault g c is = Rose-before _ _ _ c.run_live-ran.ensures.out_later (c.write_summary.ensures.sink_fault is)
