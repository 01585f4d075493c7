use Rattle.std.proofs.Common.{◌≡◌, ◌+◌, ◌*◌, [], length}
use Rattle.workers.specs.Actions.{acted_to}
use Rattle.workers.specs.Claims.{AreQuiet, HaveBegun}
use Rattle.workers.specs.Crews.{AllHavePasses, AreHealthy, AreWorkers, HasDone}
use Rattle.workers.proofs.running.all_rounds.Given as goal

-- so many rounds are done
abbrev pub invariant-loop-round : goal.invariant-loop-round
invariant-loop-round g l = record {
  workers : AreWorkers l.shared.table.shared.table_id l.case l.crew;
  healthy : AreHealthy l.crew;
  done : HasDone (61 + (61 * acted_to l.round l.actions + 6000 * length l.fn.crew * l.round)) l.fn.crew l.crew;
  begun : HaveBegun (length l.fn.crew) l.case l.crew;
  passes : AllHavePasses l.case l.boxes l.crew;
  quiet : l.actions ≡ [] → AreQuiet (length l.fn.crew) l.case (16 * l.round) l.crew;
}
