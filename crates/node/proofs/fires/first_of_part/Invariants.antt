use Rattle.std.proofs.Common.{◌≡◌}
use Rattle.run_history.specs.Cases.{intervals_of}
use Rattle.node.specs.FireSteps.{IsLeastTimerBelow}
use Rattle.node.proofs.fires.first_of_part.Given as goal

-- it is the least timer of the part's intervals so far
abbrev pub invariant-loop-interval : goal.invariant-loop-interval
invariant-loop-interval l = record {
  so_far : IsLeastTimerBelow (intervals_of l.case.topology) l.initial.held l.fn.part l.interval l.first;
  same : l.held ≡ l.initial.held;
}
