use Rattle.std.proofs.Common.{refl}
use Rattle.worked_examples.proofs.wide.wide_example_has_its_intervals.Goals as goal

pub returns : goal.returns
returns c = record {
  below_cut = refl;
  at_cut = refl;
  of_spike = refl;
  of_no_part = refl;
  own_works = refl;
  known_below = refl;
  known_above = refl;
  known_elsewhere = refl;
}
