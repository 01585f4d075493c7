use Rattle.std.proofs.Common.{refl}
use Rattle.worked_examples.proofs.spikes.spike_above_three_times.Goals as goal

pub returns : goal.returns
returns c = record {
  counted = refl;
  first_closed = refl;
  second_closed = refl;
  third_closed = refl;
  first_held = refl;
  first_known = refl;
  second_held = refl;
  second_known = refl;
  third_held = refl;
  third_told = refl;
}
