use Rattle.std.proofs.Common.{rules}
use Rattle.world.proofs.drains.FedLaws.{fed-all}
use Rattle.world.proofs.drains.firing.fed_at.Goals as goal

-- what feeds this interval feeds each of its part
pub returns-clause-fed : goal.returns-clause-fed
returns-clause-fed g c = λ told.
    fed-all c.args.book.now c.args.interval c.inputs-most.result c.bounds.result.now (search rules) (search rules)
