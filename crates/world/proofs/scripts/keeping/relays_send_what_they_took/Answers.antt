use Rattle.world.proofs.scripts.RelayFacts.{relay-sends, word-held}
use Rattle.world.proofs.scripts.keeping.relays_send_what_they_took.Goals as goal

pub returns : goal.returns
returns c = record {
  same = λ case world number message. relay-sends case number message world;
  held = λ case world number message. word-held case number message world;
}
