use Rattle.std.proofs.Common.{◌<◌, length}
use Rattle.workers.specs.Claims.{HasClaimedTo, HoldFirst}
use Rattle.workers.specs.Crews.{AreHealthy, AreWorkers, HasDone, KeepsOrders, KeepsPasses}
use Rattle.workers.proofs.claiming.claim_all.Given as goal

-- so many intervals are claimed
abbrev pub invariant-loop-interval : goal.invariant-loop-interval
invariant-loop-interval g l = record {
  workers : AreWorkers l.shared.table.shared.table_id l.case l.crew;
  healthy : AreHealthy l.crew;
  done : HasDone l.interval l.initial.crew l.crew;
  passes : KeepsPasses l.initial.crew l.crew;
  orders : KeepsOrders l.initial.crew l.crew;
  claimed : HasClaimedTo (length l.initial.crew) l.interval l.last l.crew;
  held : HoldFirst l.interval l.crew;
  last : l.last < length l.crew;
}
