use Rattle.std.proofs.Common.{◌≤◌, ◌==◌, drop, IfSome}
use Rattle.world.specs.scripts.ScriptRuns.{IsRunning}
use Rattle.world.specs.scripts.WorldStates.{world_of}
use Rattle.task_runs.specs.Lives.{IsPumpedTo, IsWritingOn}
use Rattle.task_runs.proofs.live.script_live.Given as goal

-- the steps so far were done, and their results are written, by just the lines that they write
abbrev pub invariant-loop-step : goal.invariant-loop-step
invariant-loop-step g l = IsRunning l.initial.world l.world (drop l.step-index l.steps) l.steps
    × IsPumpedTo l.initial.world.book.case.topology l.world.book.history (l.step-index == 0) l.outlet
    (g.O.Sink.text l.initial.out) (g.O.Sink.text l.out)
    × (g.O.Sink.faults l.initial.out ≤ g.O.Sink.faults l.out)
    × IfSome l.initial.world.book.rows (λ _. IsWritingOn l.initial.world.book.case (world_of l.initial.world) l.initial.outlet.place
    l.steps (world_of l.world) (drop l.step-index l.steps) l.outlet (g.O.Sink.text l.initial.out) (g.O.Sink.text l.out))
