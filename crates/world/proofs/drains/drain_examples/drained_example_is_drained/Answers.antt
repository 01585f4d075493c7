use Rattle.world.proofs.drains.DrainedExample.{example-drained}
use Rattle.world.proofs.drains.drain_examples.drained_example_is_drained.Goals as goal

pub returns : goal.returns
returns c = record { drained = example-drained }
