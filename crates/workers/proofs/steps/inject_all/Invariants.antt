use Rattle.std.proofs.Common.{◌≡◌, ◌<◌, ◌*◌, ℕ}
use Rattle.workers.specs.Serving.{HasLeastLinesOf, HasServedLines, lines_below}
use Rattle.workers.proofs.steps.inject_all.Given as goal

-- 16 lines of each injector so far, or all, and at most as many entries
abbrev pub invariant-loop-part : goal.invariant-loop-part
invariant-loop-part g l = record {
  served : HasServedLines l.case (16 * l.part) (lines_below l.part 16) (g.D.Desk.view l.initial.desk) (g.D.Desk.view l.desk)
      l.initial.node l.node;
  lines : (part : ℕ) → part < l.part →
      HasLeastLinesOf 16 l.case part l.initial.node (g.D.Desk.view l.initial.desk) (g.D.Desk.view l.desk);
  loan : g.D.Desk.loan l.desk ≡ g.D.Desk.loan l.initial.desk;
  home : g.D.Desk.home l.desk ≡ g.D.Desk.home l.initial.desk;
}
