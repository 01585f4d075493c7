use Rattle.std.proofs.Common.{refl}
use Rattle.worked_examples.proofs.wide.wide_example_has_its_numbers.Goals as goal

pub returns : goal.returns
returns c = record {
  claimed = refl;
  left_injected = refl;
  injected = refl;
  handled = refl;
  late_injected = refl;
  late_handled = refl;
  window_closed = refl;
  one_handled = refl;
  both_handled = refl;
  acknowledged = refl;
  total_known = refl;
  second_closed = refl;
  ended = refl;
}
