use Rattle.std.proofs.Common.{◌≡◌}
use Rattle.crossbeam_queue.specs.Passes.{IsPassOf}
use Rattle.workers.specs.Serving.{HasServed}
use Rattle.workers.proofs.taking.take_from.Given as goal

-- at most an entry a message
abbrev pub invariant-loop-done : goal.invariant-loop-done
invariant-loop-done g l = record {
  served : HasServed l.case l.done (g.D.Desk.view l.initial.desk) (g.D.Desk.view l.desk) l.initial.node l.node;
  pass : IsPassOf l.mailbox.line l.pass.pass;
  loan : g.D.Desk.loan l.desk ≡ g.D.Desk.loan l.initial.desk;
  home : g.D.Desk.home l.desk ≡ g.D.Desk.home l.initial.desk;
}
