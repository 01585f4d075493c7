use Rattle.std.proofs.Common.{◌≡◌}
use Rattle.node.specs.Fits.{Fits}
use Rattle.engine_tests.proofs.tests.desks.acts.drive.Given as goal

-- the worker fits its desk, which keeps its place
abbrev pub invariant-loop-step : goal.invariant-loop-step
invariant-loop-step g l = record {
  fits : Fits l.given.case (g.D.Desk.view l.desk) l.node;
  loan : g.D.Desk.loan l.desk ≡ g.D.Desk.loan l.initial.desk;
  home : g.D.Desk.home l.desk ≡ g.D.Desk.home l.initial.desk;
}
