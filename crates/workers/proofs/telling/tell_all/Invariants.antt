use Rattle.std.proofs.Common.{◌<◌, ℕ}
use Rattle.workers.specs.Crews.{AreHealthy, AreWorkers, HasDone, HasTold, KeepsNodes, KeepsOrders, KeepsOwn, KeepsPasses}
use Rattle.workers.proofs.telling.tell_all.Given as goal

-- so many workers were told
abbrev pub invariant-loop-to : goal.invariant-loop-to
invariant-loop-to g l = record {
  workers : AreWorkers l.shared.table.shared.table_id l.case l.crew;
  healthy : AreHealthy l.crew;
  done : HasDone 0 l.initial.crew l.crew;
  passes : KeepsPasses l.initial.crew l.crew;
  orders : KeepsOrders l.initial.crew l.crew;
  nodes : KeepsNodes l.initial.crew l.crew;
  own : KeepsOwn l.initial.crew l.crew;
  told : (at : ℕ) → at < l.to → HasTold l.from at l.initial.crew l.crew;
}
