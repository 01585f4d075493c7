use Rattle.std.proofs.Common.{refl}
use Rattle.world.proofs.scripts.examples.old_owner_is_stale.Goals as goal

pub returns-clause-answers : goal.returns-clause-answers
returns-clause-answers c = refl

pub returns-clause-history : goal.returns-clause-history
returns-clause-history c = refl

pub returns-clause-refused : goal.returns-clause-refused
returns-clause-refused c = refl

pub returns-clause-sent : goal.returns-clause-sent
returns-clause-sent c = refl

pub returns-clause-acknowledged : goal.returns-clause-acknowledged
returns-clause-acknowledged c = refl
