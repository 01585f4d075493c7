use Rattle.std.proofs.Common.{arith, refl}
use Rattle.workers.proofs.Doing.{done-less, done-not}
use Rattle.workers.proofs.acting.claim_where.Goals as goal

pub returns-else-asked-clause-done : goal.returns-else-asked-clause-done
returns-else-asked-clause-done g c = done-less 0 1 c.args.crew.now c.args.crew.now (omega arith) (done-not c.args.crew.now)

pub returns-else-asked-clause-passes : goal.returns-else-asked-clause-passes
returns-else-asked-clause-passes g c at d below = refl

pub returns-else-asked-clause-orders : goal.returns-else-asked-clause-orders
returns-else-asked-clause-orders g c at d below = refl
