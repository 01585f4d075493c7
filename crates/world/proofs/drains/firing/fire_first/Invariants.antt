use Rattle.world.specs.drains.Turns.{worker_of}
use Rattle.world.proofs.drains.FireLoop.{IsFiring}
use Rattle.world.proofs.drains.firing.fire_first.Given as goal

-- no part so far has a due timer
abbrev pub invariant-loop-part : goal.invariant-loop-part
invariant-loop-part g l = IsFiring l.initial.book l.book (worker_of l.held) l.part
