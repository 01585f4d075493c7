use Rattle.history_laws.proofs.SeenLaws.{MayFollow-seen, IsLegalAndFenced-seen}
use Rattle.history_laws.proofs.writes.seen_writes_are_lawful.Goals as goal

pub returns : goal.returns
returns c = record {
  may = λ case front rest interval seq entry runs write.
      MayFollow-seen case front rest interval seq entry runs write.history.legal write.history.fenced write.seen write.under write.may;
  lawful = IsLegalAndFenced-seen;
}
