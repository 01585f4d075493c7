use Rattle.std.proofs.Common.{refl}
use Rattle.worked_examples.proofs.counts.count_at_the_edges.Goals as goal

pub returns : goal.returns
returns c = record {
  at_end = refl;
  ascending = refl;
  greatest_input = refl;
  greatest_stamp = refl;
  greatest_count = refl;
  late = refl;
  no_window = refl;
  other_tag = refl;
}
