use Rattle.std.proofs.Common.{◌≡◌, ◌*◌, take}
use Rattle.workers.specs.Actions.{acted}
use Rattle.workers.specs.Crews.{AreHealthy, AreWorkers, HasDone, KeepsPasses}
use Rattle.workers.proofs.acting.act_all.Given as goal

-- so many actions are done, of which those of the round count
abbrev pub invariant-loop-action : goal.invariant-loop-action
invariant-loop-action g l = record {
  workers : AreWorkers l.shared.table.shared.table_id l.case l.crew;
  done : HasDone (61 * acted l.round (take l.action-index l.actions)) l.initial.crew l.crew;
  passes : KeepsPasses l.initial.crew l.crew;
  healthy : AreHealthy l.initial.crew → AreHealthy l.crew;
  none : acted l.round l.actions ≡ 0 → l.crew ≡ l.initial.crew;
}
