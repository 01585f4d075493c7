use Rattle.std.proofs.Common.{◌≡◌, true}
use Rattle.std.specs.Prelude.{IfSome}
use Rattle.run_history.specs.Finished.{is_handled}
use Rattle.workers.specs.Serving.{HasServed}
use Rattle.workers.proofs.tries.until_settled.Given as goal

-- nothing was appended so far, and the record is handled in what is seen
abbrev pub invariant-loop : goal.invariant-loop
invariant-loop g l = record {
  served : HasServed l.case 0 (g.D.Desk.view l.initial.desk) (g.D.Desk.view l.desk) l.initial.node l.node;
  handled : IfSome (g.D.Desk.view l.desk).told (λ _. is_handled l.id (g.D.Desk.view l.desk).seen ≡ true);
  loan : g.D.Desk.loan l.desk ≡ g.D.Desk.loan l.initial.desk;
  home : g.D.Desk.home l.desk ≡ g.D.Desk.home l.initial.desk;
}
