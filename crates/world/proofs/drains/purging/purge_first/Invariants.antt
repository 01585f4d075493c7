use Rattle.world.specs.drains.Turns.{worker_of}
use Rattle.world.proofs.drains.PurgeLoop.{IsPurging}
use Rattle.world.proofs.drains.purging.purge_first.Given as goal

-- no interval so far has a row that has seen ids
abbrev pub invariant-loop-interval : goal.invariant-loop-interval
invariant-loop-interval g l = IsPurging l.initial.book l.book (worker_of l.held) l.interval
