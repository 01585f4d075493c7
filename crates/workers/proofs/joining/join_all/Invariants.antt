use Rattle.std.proofs.Common.{length}
use Rattle.workers.specs.Runs.{IsJoined}
use Rattle.workers.specs.Seats.{IsSeated}
use Rattle.workers.proofs.joining.join_all.Given as goal

-- the last workers were taken in
abbrev pub invariant-loop-worker : goal.invariant-loop-worker
invariant-loop-worker g l = record {
  seated : IsSeated l.shared.table.shared.table_id l.case l.seat.place;
  joined : IsJoined l.fn.crew.items l.crew.items l.initial.seat.place.me.0 l.seat.place.me.0 l.first;
}

abbrev pub decreases-loop-worker : goal.decreases-loop-worker
decreases-loop-worker g l = length l.crew.items
