use Rattle.world.specs.drains.Turns.{IsFedBy, WhereTold, worker_of}
use Rattle.world.proofs.drains.ReportLaws.{IsReporting}
use Rattle.world.proofs.drains.firing.report_all.Given as goal

-- the intervals so far are reported, and where told this is what feeds each interval of the last one's part
abbrev pub invariant-loop-interval : goal.invariant-loop-interval
invariant-loop-interval g l = record {
  reporting : IsReporting l.initial.book l.book (worker_of l.held) l.interval;
  fed : WhereTold l.book (IsFedBy l.book l.fed.part l.fed.most);
}
