use Rattle.std.proofs.Common.{◌≡◌}
use Rattle.workers.specs.Serving.{HasServed}
use Rattle.workers.proofs.steps.purge_at.Given as goal

-- at most 1 entry a turn of the loop
abbrev pub invariant-loop-done : goal.invariant-loop-done
invariant-loop-done g l = record {
  served : HasServed l.case l.done (g.D.Desk.view l.initial.desk) (g.D.Desk.view l.desk) l.initial.node l.node;
  loan : g.D.Desk.loan l.desk ≡ g.D.Desk.loan l.initial.desk;
  home : g.D.Desk.home l.desk ≡ g.D.Desk.home l.initial.desk;
}
