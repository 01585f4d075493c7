use Rattle.std.proofs.Common.{refl}
use Rattle.worked_examples.proofs.passes.pass_example.Goals as goal

pub returns : goal.returns
returns c = record { passed = refl }
