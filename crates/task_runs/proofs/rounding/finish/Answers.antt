use Rattle.task_runs.proofs.rounding.finish.Goals as goal

pub returns-in-Some-clause-left : goal.returns-in-Some-clause-left
returns-in-Some-clause-left g c = c.stop.ensures.left (g.O.Sink.text c.args.out.now)
