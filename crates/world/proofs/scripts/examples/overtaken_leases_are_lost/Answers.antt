use Rattle.std.proofs.Common.{refl}
use Rattle.world.proofs.scripts.examples.overtaken_leases_are_lost.Goals as goal

pub returns : goal.returns
returns c = record { answers = refl }
