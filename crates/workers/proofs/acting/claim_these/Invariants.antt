use Rattle.workers.specs.Crews.{AreHealthy, AreWorkers, HasDone, KeepsOrders, KeepsPasses}
use Rattle.workers.proofs.acting.claim_these.Given as goal

-- so many intervals are claimed at most
abbrev pub invariant-loop-interval : goal.invariant-loop-interval
invariant-loop-interval g l = record {
  workers : AreWorkers l.shared.table.shared.table_id l.case l.crew;
  done : HasDone l.interval l.initial.crew l.crew;
  passes : KeepsPasses l.initial.crew l.crew;
  orders : KeepsOrders l.initial.crew l.crew;
  healthy : AreHealthy l.initial.crew → AreHealthy l.crew;
}
