use Rattle.std.proofs.Common.{refl}
use Rattle.worked_examples.proofs.spikes.greater_total_is_held.Goals as goal

pub returns : goal.returns
returns c = record {
  greater = refl;
  less = refl;
  late = refl;
}
