use Rattle.run_history.specs.Cases.{intervals_of}
use Rattle.watermark.proofs.Steps.{IsSoFarAmong}
use Rattle.watermark.proofs.marks.least_among.Given as goal

-- it is the least mark of the parts' intervals so far
abbrev pub invariant-loop-interval : goal.invariant-loop-interval
invariant-loop-interval l = IsSoFarAmong l.parts (intervals_of l.case.topology) l.marks l.least l.interval
