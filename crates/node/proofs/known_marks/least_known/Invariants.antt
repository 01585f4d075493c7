use Rattle.std.proofs.Common.{◌≡◌}
use Rattle.run_history.specs.Cases.{intervals_of}
use Rattle.book.specs.Desks.{HasLooked, KeepsMarks}
use Rattle.node.specs.MarkSteps.{IsLeastSoFar}
use Rattle.node.proofs.known_marks.least_known.Given as goal

-- it is the least mark of the part's intervals so far, each as it was known when it was asked
abbrev pub invariant-loop-interval : goal.invariant-loop-interval
invariant-loop-interval g l = record {
  so_far : IsLeastSoFar (intervals_of l.case.topology) l.fn.part (g.D.Desk.view l.initial.desk).marks (g.D.Desk.view l.desk).marks l.least l.interval;
  looked : HasLooked (g.D.Desk.view l.initial.desk) (g.D.Desk.view l.desk);
  marks : KeepsMarks (g.D.Desk.view l.initial.desk) (g.D.Desk.view l.desk);
  loan : g.D.Desk.loan l.desk ≡ g.D.Desk.loan l.initial.desk;
  home : g.D.Desk.home l.desk ≡ g.D.Desk.home l.initial.desk;
}
