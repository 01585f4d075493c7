use Rattle.std.proofs.Common.{refl}
use Rattle.world.proofs.scripts.examples.steps_without_work_change_nothing.Goals as goal

pub returns-clause-answers : goal.returns-clause-answers
returns-clause-answers c = refl

pub returns-clause-history : goal.returns-clause-history
returns-clause-history c = refl
