use Rattle.std.proofs.Common.{◌≡◌}
use Rattle.book.specs.Desks.{HasLooked}
use Rattle.node.specs.Answers.{HasKept}
use Rattle.node.specs.Fits.{Fits}
use Rattle.workers.proofs.claim_tries.claim.Given as goal

-- nothing was appended so far
abbrev pub invariant-loop : goal.invariant-loop
invariant-loop g l = record {
  fits : Fits l.case (g.D.Desk.view l.desk) l.node;
  number : l.node.number ≡ l.initial.node.number;
  kept : HasKept l.initial.node l.node;
  looked : HasLooked (g.D.Desk.view l.initial.desk) (g.D.Desk.view l.desk);
  loan : g.D.Desk.loan l.desk ≡ g.D.Desk.loan l.initial.desk;
  home : g.D.Desk.home l.desk ≡ g.D.Desk.home l.initial.desk;
}
