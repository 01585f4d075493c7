use Rattle.world.proofs.scripts.RelayFacts.{relay-makes}
use Rattle.world.proofs.scripts.keeping.relays_make_no_message.Goals as goal

pub returns : goal.returns
returns c = record { none = λ case world number message. relay-makes case number message world }
