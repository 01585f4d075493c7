use Rattle.std.proofs.Common.{◌≡◌, ◌≤◌, ◌-◌, length}
use Rattle.run_history.specs.Cases.{intervals_of}
use Rattle.workers.specs.Passing.{ArePasses}
use Rattle.workers.specs.Serving.{HasServed}
use Rattle.workers.proofs.taking.take_all.Given as goal

-- at most as many entries as went from the budget
abbrev pub invariant-loop-interval : goal.invariant-loop-interval
invariant-loop-interval g l = record {
  few : l.left ≤ 3904;
  served : HasServed l.case (3904 - l.left) (g.D.Desk.view l.initial.desk) (g.D.Desk.view l.desk) l.initial.node l.node;
  passes : ArePasses (length (intervals_of l.case.topology)) l.boxes l.passes;
  loan : g.D.Desk.loan l.desk ≡ g.D.Desk.loan l.initial.desk;
  home : g.D.Desk.home l.desk ≡ g.D.Desk.home l.initial.desk;
}
