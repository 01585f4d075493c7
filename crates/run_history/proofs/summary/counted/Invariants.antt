use Rattle.std.proofs.Common.{◌≡◌, count_by, take}
use Rattle.run_history.specs.Texts.{is_fire, is_handle, is_inject, is_late}
use Rattle.run_history.proofs.summary.counted.Given as goal

-- the counts are those of the entries so far
abbrev pub invariant-loop-n : goal.invariant-loop-n
invariant-loop-n l = record {
  fired : l.counts.fired ≡ count_by is_fire (take l.n l.history);
  handled : l.counts.handled ≡ count_by is_handle (take l.n l.history);
  injected : l.counts.injected ≡ count_by is_inject (take l.n l.history);
  late : l.counts.late ≡ count_by is_late (take l.n l.history);
}
