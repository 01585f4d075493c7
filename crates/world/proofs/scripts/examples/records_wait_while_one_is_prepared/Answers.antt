use Rattle.std.proofs.Common.{refl}
use Rattle.world.proofs.scripts.examples.records_wait_while_one_is_prepared.Goals as goal

pub returns : goal.returns
returns c = record { answers = refl }
