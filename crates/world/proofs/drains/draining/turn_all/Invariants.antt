use Rattle.std.proofs.Common.{◌-◌, length}
use Rattle.world.specs.drains.DrainTurns.{IsGoingOn}
use Rattle.world.proofs.drains.draining.turn_all.Given as goal

-- the drain goes on from where it began
abbrev pub invariant-loop : goal.invariant-loop
invariant-loop g l = IsGoingOn l.initial.book l.book l.initial.drain.from l.drain

-- each turn brings the history nearer to its limit
abbrev pub decreases-loop : goal.decreases-loop
decreases-loop g l = l.book.limit - length l.book.history
