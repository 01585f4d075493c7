use Rattle.std.proofs.Common.{refl}
use Rattle.world.proofs.scripts.examples.late_copy_is_duplicate.Goals as goal

pub returns-clause-answers : goal.returns-clause-answers
returns-clause-answers c = refl

pub returns-clause-history : goal.returns-clause-history
returns-clause-history c = refl

pub returns-clause-sent : goal.returns-clause-sent
returns-clause-sent c = refl
