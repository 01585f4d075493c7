use Rattle.history_laws.proofs.SeenLaws.{IsLegalAndFenced-claim}
use Rattle.history_laws.proofs.writes.claims_are_lawful.Goals as goal

pub returns : goal.returns
returns c = record { lawful = IsLegalAndFenced-claim }
