use Rattle.std.proofs.Common.{◌≡◌, ◌++◌, drop}
use Rattle.topology.proofs.file_parts.computations_in.Given as goal

-- with those that are left, all
abbrev pub invariant-loop-computation : goal.invariant-loop-computation
invariant-loop-computation l = l.made ++ drop l.computation-index l.computations ≡ l.computations
