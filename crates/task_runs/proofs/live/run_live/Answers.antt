use Rattle.std.proofs.Common.{ap}
use Rattle.world.specs.scripts.Worlds.{World}
use Rattle.task_runs.proofs.Living.{pumped-new}
use Rattle.task_runs.proofs.live.run_live.Goals as goal

-- a new outlet has written nothing of a new world
pub run_pumped-ran-requires-clause-pumped : goal.run_pumped-ran-requires-clause-pumped
run_pumped-ran-requires-clause-pumped g c =
    let book = c.args.world.now.book in
    pumped-new book.case.topology book.history c.new-outlet.result (g.O.Sink.text c.args.out.now)
    (ap (λ (w : World). w.history) c.requires.begun) (c.new-outlet.ensures.extends book.case.topology book.history)
    c.new-outlet.ensures.place c.new-outlet.ensures.owes
