use Rattle.std.proofs.Common.{refl}
use Rattle.plans.proofs.examples.plan_examples.Goals as goal

pub returns-clause-full : goal.returns-clause-full
returns-clause-full c = refl

pub returns-clause-uneven : goal.returns-clause-uneven
returns-clause-uneven c = refl

pub returns-clause-no_interval : goal.returns-clause-no_interval
returns-clause-no_interval c = refl

pub returns-clause-no_worker : goal.returns-clause-no_worker
returns-clause-no_worker c = refl

pub returns-clause-no_round : goal.returns-clause-no_round
returns-clause-no_round c = refl

pub returns-clause-no_at : goal.returns-clause-no_at
returns-clause-no_at c = refl

pub returns-clause-no_interval_named : goal.returns-clause-no_interval_named
returns-clause-no_interval_named c = refl

pub returns-clause-two_spaces : goal.returns-clause-two_spaces
returns-clause-two_spaces c = refl

pub returns-clause-one_more : goal.returns-clause-one_more
returns-clause-one_more c = refl

pub returns-clause-no_rounds : goal.returns-clause-no_rounds
returns-clause-no_rounds c = refl

pub returns-clause-some_line : goal.returns-clause-some_line
returns-clause-some_line c = refl
