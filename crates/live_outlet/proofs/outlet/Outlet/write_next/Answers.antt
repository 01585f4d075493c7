use Rattle.std.proofs.Common.{rules}
use Rattle.live_outlet.proofs.Pumping.{owes-nothing}
use Rattle.live_outlet.proofs.outlet.Outlet.write_next.Goals as goal

pub returns-clause-owes : goal.returns-clause-owes
returns-clause-owes g c = owes-nothing c.args.case.now.topology c.args.self.now.owes c.args.self.now.waiting (search rules)
