use Rattle.std.proofs.Common.{refl}
use Rattle.world.proofs.scripts.examples.word_passes_back_over_a_relay.Goals as goal

pub returns-clause-foldable : goal.returns-clause-foldable
returns-clause-foldable c = refl

pub returns-clause-folded : goal.returns-clause-folded
returns-clause-folded c = refl

pub returns-clause-answers : goal.returns-clause-answers
returns-clause-answers c = refl

pub returns-clause-history : goal.returns-clause-history
returns-clause-history c = refl
