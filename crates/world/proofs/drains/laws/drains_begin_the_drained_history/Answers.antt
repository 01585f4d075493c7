use Rattle.world.proofs.WholeDrains.{drained-begun}
use Rattle.world.proofs.drains.laws.drains_begin_the_drained_history.Goals as goal

pub returns : goal.returns
returns c = record { begins = drained-begun }
