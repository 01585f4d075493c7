use Rattle.std.proofs.Common.{◌+◌, sym, subst}
use Rattle.world.specs.WorldDrains.{AreNew}
use Rattle.world.proofs.StartedWorlds.{new-more}
use Rattle.world.proofs.scripts.world.sixteen.Goals as goal

-- one worker more
pub loop-worker-preserved : goal.loop-worker-preserved
loop-worker-preserved c =
    subst (AreNew (c.loop-worker.worker + 1)) (sym c.in_ok-push.ensures.items)
    (new-more c.loop-worker.worker c.loop-worker.nodes.items c.new.result c.loop-worker.invariant c.new.ensures.number c.new.ensures.idle
    c.new.ensures.fits)
