use Rattle.world.proofs.scripts.Leases.{claimed-apart}
use Rattle.world.proofs.scripts.Steps.{step-claimed}
use Rattle.world.proofs.scripts.keeping.leases_are_claims_of_their_workers.Goals as goal

pub returns : goal.returns
returns c = record { claimed = step-claimed; apart = claimed-apart }
