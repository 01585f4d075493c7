use Rattle.world.proofs.WholeDrains.{draining-first, draining-push}
use Rattle.world.proofs.drains.laws.drains_grow_by_their_next_entries.Goals as goal

pub returns : goal.returns
returns c = record { first = draining-first; grown = draining-push }
