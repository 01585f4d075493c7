use Rattle.history_laws.proofs.OnceLaws.{handled-once, acknowledged-once}
use Rattle.history_laws.proofs.once.records_are_handled_once.Goals as goal

pub returns : goal.returns
returns c = record { handled = handled-once; acknowledged = acknowledged-once }
