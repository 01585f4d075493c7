use Rattle.history_laws.proofs.FloorLaws.{floor_of-rises}
use Rattle.history_laws.proofs.floors.floor_never_falls.Goals as goal

pub returns : goal.returns
returns c = record { floor = floor_of-rises }
