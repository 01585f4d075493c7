use Rattle.audit.proofs.TextLaws.{wrong-none}
use Rattle.audit.proofs.laws.refused_texts_are_of_no_run.Goals as goal

pub returns : goal.returns
returns c = record { none = wrong-none }
