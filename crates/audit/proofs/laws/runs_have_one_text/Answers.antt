use Rattle.audit.proofs.TextLaws.{one-run}
use Rattle.audit.proofs.laws.runs_have_one_text.Goals as goal

pub returns : goal.returns
returns c = record { one = one-run }
