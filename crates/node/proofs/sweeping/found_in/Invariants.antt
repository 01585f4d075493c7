use Rattle.node.specs.SweepSteps.{AreFoundBelow}
use Rattle.node.proofs.sweeping.found_in.Given as goal

-- what is pending in the intervals so far is found
abbrev pub invariant-loop-interval : goal.invariant-loop-interval
invariant-loop-interval l = AreFoundBelow l.held l.interval l.found.items
