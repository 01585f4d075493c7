use Rattle.std.proofs.Common.{◌-◌, ◌≡◌, ◌<◌, ◌≤◌, true, false, length}
use Rattle.std.specs.Prelude.{slice_index}
use Rattle.key_intervals.specs.Index.{begins_by_key}
use Rattle.key_intervals.proofs.order.last_begun.Given as goal

-- what stands at the lower place begins by the key, if that isn't the first, and what stands at the upper one does not
abbrev pub invariant-loop-low : goal.invariant-loop-low
invariant-loop-low l = record {
  some : l.low < l.high;
  within : l.high ≤ length l.numbers;
  begun : 0 < l.low → begins_by_key l.all l.key (slice_index l.numbers l.low) ≡ true;
  later : l.high < length l.numbers → begins_by_key l.all l.key (slice_index l.numbers l.high) ≡ false;
}

abbrev pub decreases-loop-low : goal.decreases-loop-low
decreases-loop-low l = l.high - l.low
