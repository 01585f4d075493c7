use Rattle.std.proofs.Common.{refl}
use Rattle.worked_examples.proofs.drained.drained_example_has_its_intervals.Goals as goal

pub returns : goal.returns
returns c = record { injector_lies = refl; row_lies = refl }
