use Rattle.world.specs.WorldDrains.{AreNew}
use Rattle.world.proofs.scripts.world.sixteen.Given as goal

-- the workers so far
abbrev pub invariant-loop-worker : goal.invariant-loop-worker
invariant-loop-worker l = AreNew l.worker l.nodes.items
