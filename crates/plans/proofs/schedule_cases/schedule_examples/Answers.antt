use Rattle.std.proofs.Common.{refl}
use Rattle.plans.proofs.schedule_cases.schedule_examples.Goals as goal

pub returns-clause-uneven : goal.returns-clause-uneven
returns-clause-uneven c = refl

pub returns-clause-full : goal.returns-clause-full
returns-clause-full c = refl

pub returns-clause-no_interval : goal.returns-clause-no_interval
returns-clause-no_interval c = refl

pub returns-clause-eleven_digits : goal.returns-clause-eleven_digits
returns-clause-eleven_digits c = refl

pub returns-clause-two_spaces : goal.returns-clause-two_spaces
returns-clause-two_spaces c = refl

pub returns-clause-two_returns : goal.returns-clause-two_returns
returns-clause-two_returns c = refl

pub returns-clause-fire_on_injector : goal.returns-clause-fire_on_injector
returns-clause-fire_on_injector c = refl

pub returns-clause-no_worker : goal.returns-clause-no_worker
returns-clause-no_worker c = refl

pub returns-clause-no_message : goal.returns-clause-no_message
returns-clause-no_message c = refl

pub returns-clause-no_relay : goal.returns-clause-no_relay
returns-clause-no_relay c = refl

pub returns-clause-no_relay_forgets : goal.returns-clause-no_relay_forgets
returns-clause-no_relay_forgets c = refl
