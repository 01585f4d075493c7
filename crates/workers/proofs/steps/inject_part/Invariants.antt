use Rattle.std.proofs.Common.{◌≡◌}
use Rattle.workers.specs.Serving.{HasLeastLinesOf, HasServedLines, lines_of}
use Rattle.workers.proofs.steps.inject_part.Given as goal

-- a line each time, or all, and at most one entry
abbrev pub invariant-loop-done : goal.invariant-loop-done
invariant-loop-done g l = record {
  served : HasServedLines l.case l.done (lines_of l.part l.done) (g.D.Desk.view l.initial.desk) (g.D.Desk.view l.desk)
      l.initial.node l.node;
  lines : HasLeastLinesOf l.done l.case l.part l.initial.node (g.D.Desk.view l.initial.desk) (g.D.Desk.view l.desk);
  loan : g.D.Desk.loan l.desk ≡ g.D.Desk.loan l.initial.desk;
  home : g.D.Desk.home l.desk ≡ g.D.Desk.home l.initial.desk;
}
