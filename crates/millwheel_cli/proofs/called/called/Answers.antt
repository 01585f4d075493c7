use Rattle.millwheel_cli.proofs.LateTasks.{late_task}
use Rattle.millwheel_cli.proofs.called.called.Goals as goal

-- a run of threads writes its text at its end
pub work-done-requires-clause-late : goal.work-done-requires-clause-late
work-done-requires-clause-late g c κs within =
    late_task (g.S.Shelf.files c.args.shelf.now) c.args.call.now c.in-Ok.task c.requires.sizes c.in-Ok.ensures.asked
