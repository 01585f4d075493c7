use Rattle.std.proofs.Common.{refl}
use Rattle.world.proofs.scripts.examples.crash_between_write_and_send.Goals as goal

pub returns-clause-answers : goal.returns-clause-answers
returns-clause-answers c = refl

pub returns-clause-history : goal.returns-clause-history
returns-clause-history c = refl

pub returns-clause-sent : goal.returns-clause-sent
returns-clause-sent c = refl

pub returns-clause-after : goal.returns-clause-after
returns-clause-after c = refl
