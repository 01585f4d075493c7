use Rattle.list_lemmas.proofs.Told.{on_err-anyway}
use Rattle.live_outlet.proofs.Pumping.{puts-none}
use Rattle.live_outlet.proofs.outlet.Outlet.put.Goals as goal

pub returns-in_err-follow-clause-part : goal.returns-in_err-follow-clause-part
returns-in_err-follow-clause-part g c =
    on_err-anyway c.from_residual.result
    (puts-none c.args.case.now.topology c.args.history.now c.args.self.now (g.O.Sink.text c.args.out.now) c.requires.next)
