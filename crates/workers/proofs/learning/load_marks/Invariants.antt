use Rattle.std.proofs.Common.{◌≡◌}
use Rattle.book.specs.Desks.{HasLooked}
use Rattle.workers.proofs.learning.load_marks.Given as goal

-- the desk only looked so far
abbrev pub invariant-loop-interval : goal.invariant-loop-interval
invariant-loop-interval g l = record {
  looked : HasLooked (g.D.Desk.view l.initial.desk) (g.D.Desk.view l.desk);
  loan : g.D.Desk.loan l.desk ≡ g.D.Desk.loan l.initial.desk;
  home : g.D.Desk.home l.desk ≡ g.D.Desk.home l.initial.desk;
}
