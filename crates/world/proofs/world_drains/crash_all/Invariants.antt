use Rattle.world.specs.scripts.WorkerCalls.{AreNewTo}
use Rattle.world.proofs.world_drains.crash_all.Given as goal

-- the workers so far have crashed
abbrev pub invariant-loop-number : goal.invariant-loop-number
invariant-loop-number l = AreNewTo l.number l.nodes
