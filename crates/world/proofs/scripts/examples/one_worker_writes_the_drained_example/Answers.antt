use Rattle.std.proofs.Common.{refl}
use Rattle.world.proofs.scripts.examples.one_worker_writes_the_drained_example.Goals as goal

pub returns-clause-answers : goal.returns-clause-answers
returns-clause-answers c = refl

pub returns-clause-history : goal.returns-clause-history
returns-clause-history c = refl
