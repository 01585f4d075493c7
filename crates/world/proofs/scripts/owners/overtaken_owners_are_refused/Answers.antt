use Rattle.world.proofs.scripts.OwnerLaws.{done-current, done-overtaken}
use Rattle.world.proofs.scripts.owners.overtaken_owners_are_refused.Goals as goal

pub returns : goal.returns
returns c = record { current = done-current; overtaken = done-overtaken }
