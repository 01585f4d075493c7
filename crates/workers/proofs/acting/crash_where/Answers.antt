use Rattle.std.proofs.Common.{refl}
use Rattle.workers.proofs.Doing.{done-not}
use Rattle.workers.proofs.acting.crash_where.Goals as goal

pub returns-else-crashes-clause-done : goal.returns-else-crashes-clause-done
returns-else-crashes-clause-done g c = done-not c.args.crew.now

pub returns-else-crashes-clause-passes : goal.returns-else-crashes-clause-passes
returns-else-crashes-clause-passes g c at d below = refl

pub returns-else-crashes-clause-orders : goal.returns-else-crashes-clause-orders
returns-else-crashes-clause-orders g c at d below = refl
