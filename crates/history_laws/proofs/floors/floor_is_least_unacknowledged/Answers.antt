use Rattle.history_laws.proofs.AckLaws.{legal-floor}
use Rattle.history_laws.proofs.floors.floor_is_least_unacknowledged.Goals as goal

pub returns : goal.returns
returns c = record { floor = legal-floor }
