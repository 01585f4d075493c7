use Rattle.world.specs.WorldDrains.{HasDrain}
use Rattle.engine_tests.proofs.tests.worlds.turns.turns_on.Given as goal

-- the drain is under way
abbrev pub invariant-loop : goal.invariant-loop
invariant-loop g l = HasDrain l.world l.drain
