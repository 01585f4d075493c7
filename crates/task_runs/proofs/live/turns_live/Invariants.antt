use Rattle.std.proofs.Common.{◌≤◌, ◌-◌, length}
use Rattle.world.specs.drains.DrainTurns.{IsGoingOn}
use Rattle.live_outlet.specs.Outlets.{IsPumpedFrom, WritesTo}
use Rattle.world.specs.WorldDrains.{HasDrain}
use Rattle.task_runs.specs.Lives.{TurnsOn}
use Rattle.task_runs.proofs.live.turns_live.Given as goal

-- the drain goes on from where it began, and its results are written
abbrev pub invariant-loop : goal.invariant-loop
invariant-loop g l = HasDrain l.world l.drain
    × IsGoingOn l.initial.world.book l.world.book l.initial.drain.from l.drain
    × IsPumpedFrom l.initial.world.book.case.topology l.outlet l.world.book.history
    × (g.O.Sink.faults l.initial.out ≤ g.O.Sink.faults l.out)
    × TurnsOn l.initial.world.book.case.topology l.initial.world.book.history l.world.book.history l.initial.outlet l.outlet
    (g.O.Sink.text l.initial.out) (g.O.Sink.text l.out)
    × WritesTo l.initial.world.book.case.topology l.world.book.history l.initial.outlet l.outlet
    (g.O.Sink.text l.initial.out) (g.O.Sink.text l.out)

-- each turn brings the history nearer to its limit
abbrev pub decreases-loop : goal.decreases-loop
decreases-loop g l = l.world.book.limit - length l.world.book.history
