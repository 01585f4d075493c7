use Rattle.std.proofs.Common.{refl}
use Rattle.worked_examples.proofs.drained.drained_example_has_its_own_work.Goals as goal

pub returns : goal.returns
returns c = record {
  injected = refl;
  handled = refl;
  acknowledged = refl;
  fired = refl;
  left = refl;
  above = refl;
  above_at_end = refl;
}
