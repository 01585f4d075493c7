use Rattle.std.proofs.Common.{drop}
use Rattle.world.specs.scripts.ScriptRuns.{IsRunning}
use Rattle.world.proofs.scripts.script_runs.run_script.Given as goal

-- the steps so far were done
abbrev pub invariant-loop-step : goal.invariant-loop-step
invariant-loop-step g l = IsRunning l.initial.world l.world (drop l.step-index l.steps) l.steps
