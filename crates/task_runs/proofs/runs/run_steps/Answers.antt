use Rattle.std.proofs.Common.{◌∙◌, refl, ap, rules}
use Rattle.node.proofs.KindLaws.{kinds_work}
use Rattle.task_runs.proofs.Leaving.{unwanted}
use Rattle.task_runs.proofs.runs.run_steps.Goals as goal

pub run_work-requires-clause-work : goal.run_work-requires-clause-work
run_work-requires-clause-work g c =
    let made = c.in-Ok.ensures in
    kinds_work c.args.task.now.case.topology c.in-Ok.work (made.injectors ∙ search (rules, c.task.view_is))
    (made.kinds ∙ search (rules, c.task.view_is)) made.within

pub returns-in-Err-clause-left : goal.returns-in-Err-clause-left
returns-in-Err-clause-left g c =
    unwanted _ _ _ c.unbegun.ensures.status
    (record { empty = c.unbegun.ensures.history; same_rows = ap g.K.Keeper.rows c.unbegun.ensures.keeper; unwritten = refl })
