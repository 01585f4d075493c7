use Rattle.std.proofs.Common.{length}
use Rattle.topology.proofs.strong_parts.+strong_from.Given as goal

-- there is one computation less each time
abbrev pub decreases-strong_from : goal.decreases-strong_from
decreases-strong_from l = length l.computations.now
