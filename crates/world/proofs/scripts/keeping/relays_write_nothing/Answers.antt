use Rattle.world.proofs.scripts.RelayFacts.{forget-writes, relay-writes}
use Rattle.world.proofs.scripts.keeping.relays_write_nothing.Goals as goal

pub returns : goal.returns
returns c = record {
  relay = λ case world number message. relay-writes case number message world;
  forget = λ case world number. forget-writes case number world;
}
