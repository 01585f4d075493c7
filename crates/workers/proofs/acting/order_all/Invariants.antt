use Rattle.workers.specs.Crews.{AreCalm, AreHealthy, AreWorkers, HasDone, KeepsPasses, StayCalm}
use Rattle.workers.proofs.acting.order_all.Given as goal

-- so many workers have their orders
abbrev pub invariant-loop-at : goal.invariant-loop-at
invariant-loop-at g l = record {
  workers : AreWorkers l.shared.table.shared.table_id l.case l.crew;
  done : HasDone 0 l.initial.crew l.crew;
  passes : KeepsPasses l.initial.crew l.crew;
  healthy : AreHealthy l.initial.crew → AreHealthy l.crew;
  calm : AreCalm l.initial.crew → StayCalm l.initial.crew l.crew;
}
