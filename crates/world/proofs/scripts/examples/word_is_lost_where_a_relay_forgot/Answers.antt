use Rattle.std.proofs.Common.{refl}
use Rattle.world.proofs.scripts.examples.word_is_lost_where_a_relay_forgot.Goals as goal

pub returns-clause-answers : goal.returns-clause-answers
returns-clause-answers c = refl

pub returns-clause-history : goal.returns-clause-history
returns-clause-history c = refl
