use Rattle.run_history.specs.Cases.{intervals_of}
use Rattle.watermark.proofs.Steps.{IsSoFar}
use Rattle.watermark.proofs.marks.low_in.Given as goal

-- it is the least mark of the part's intervals so far
abbrev pub invariant-loop-interval : goal.invariant-loop-interval
invariant-loop-interval l = IsSoFar (intervals_of l.case.topology) l.part l.marks l.low l.interval
