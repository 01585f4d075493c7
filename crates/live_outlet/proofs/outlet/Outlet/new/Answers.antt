use Rattle.live_outlet.proofs.Pumping.{pumped-none}
use Rattle.live_outlet.proofs.outlet.Outlet.new.Goals as goal

pub returns-clause-extends : goal.returns-clause-extends
returns-clause-extends c = λ shape history. pumped-none shape history _ _ _ (c.new.ensures.none shape)
