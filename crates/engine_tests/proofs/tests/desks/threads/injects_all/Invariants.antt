use Rattle.std.proofs.Common.{◌≡◌}
use Rattle.node.specs.Fits.{Fits}
use Rattle.engine_tests.proofs.tests.desks.threads.injects_all.Given as goal

-- the worker fits its desk after each line, which keeps its place
abbrev pub invariant-loop : goal.invariant-loop
invariant-loop g l = record {
  fits : Fits l.case (g.D.Desk.view l.desk) l.node;
  loan : g.D.Desk.loan l.desk ≡ g.D.Desk.loan l.initial.desk;
  home : g.D.Desk.home l.desk ≡ g.D.Desk.home l.initial.desk;
}
