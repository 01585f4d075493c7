use Rattle.std.proofs.Common.{◌≤◌}
use Rattle.workers.proofs.held.held_of.Given as goal

-- one at most of each interval
abbrev pub invariant-loop-interval : goal.invariant-loop-interval
invariant-loop-interval g l = l.held ≤ l.interval
