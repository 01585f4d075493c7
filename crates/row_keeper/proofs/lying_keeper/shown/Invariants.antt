use Rattle.std.proofs.Common.{◌≡◌, filter, take}
use Rattle.key_intervals.specs.Intervals.{covers}
use Rattle.row_keeper.specs.declared.keeper.KeptRow.{KeptRow}
use Rattle.row_keeper.proofs.lying_keeper.shown.Given as goal

-- what is found is what the interval has of the rows so far
abbrev pub invariant-loop-row : goal.invariant-loop-row
invariant-loop-row l = l.found ≡ filter (λ (row : KeptRow). covers l.bounds row.name) (take l.row-index l.rows)
