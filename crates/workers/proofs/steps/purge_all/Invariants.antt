use Rattle.std.proofs.Common.{◌≡◌, ◌*◌}
use Rattle.workers.specs.Serving.{HasServed}
use Rattle.workers.proofs.steps.purge_all.Given as goal

-- at most 8 entries a turn of the loop
abbrev pub invariant-loop-interval : goal.invariant-loop-interval
invariant-loop-interval g l = record {
  served : HasServed l.case (8 * l.interval) (g.D.Desk.view l.initial.desk) (g.D.Desk.view l.desk) l.initial.node l.node;
  loan : g.D.Desk.loan l.desk ≡ g.D.Desk.loan l.initial.desk;
  home : g.D.Desk.home l.desk ≡ g.D.Desk.home l.initial.desk;
}
