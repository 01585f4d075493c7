use Rattle.std.proofs.Common.{refl}
use Rattle.worked_examples.proofs.spikes.no_spike_at_three_times.Goals as goal

pub returns : goal.returns
returns c = record {
  counted = refl;
  third_held = refl;
  third_known = refl;
}
