use Rattle.world.specs.drains.Turns.{IsBestLine, worker_of}
use Rattle.world.proofs.drains.injecting.next_line.Given as goal

-- it is the best of the injectors so far
abbrev pub invariant-loop-part : goal.invariant-loop-part
invariant-loop-part l = IsBestLine l.case (worker_of l.held) l.part l.best
