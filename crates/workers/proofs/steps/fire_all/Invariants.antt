use Rattle.std.proofs.Common.{◌≡◌, ◌-◌, ◌≤◌}
use Rattle.topology.specs.Shapes.{injectors_of}
use Rattle.workers.specs.Serving.{HasServed}
use Rattle.workers.proofs.steps.fire_all.Given as goal

-- at most as many entries as went from what was left
abbrev pub invariant-loop-part : goal.invariant-loop-part
invariant-loop-part g l = record {
  served : HasServed l.case (976 - l.left) (g.D.Desk.view l.initial.desk) (g.D.Desk.view l.desk) l.initial.node l.node;
  few : l.left ≤ 976;
  low : injectors_of l.case.topology ≤ l.part;
  loan : g.D.Desk.loan l.desk ≡ g.D.Desk.loan l.initial.desk;
  home : g.D.Desk.home l.desk ≡ g.D.Desk.home l.initial.desk;
}
