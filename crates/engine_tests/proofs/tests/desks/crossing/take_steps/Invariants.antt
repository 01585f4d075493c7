use Rattle.std.proofs.Common.{◌≡◌}
use Rattle.node.specs.Fits.{Fits}
use Rattle.shared_book.specs.SharedDesks.{shared_home, shared_view}
use Rattle.engine_tests.proofs.tests.desks.crossing.take_steps.Given as goal

-- both workers fit their desks, which keep their places
abbrev pub invariant-loop-row : goal.invariant-loop-row
invariant-loop-row g l = record {
  first : Fits l.given.case (shared_view l.one.seat.now.place.me.0) l.first;
  second : Fits l.given.case (shared_view l.other.seat.now.place.me.0) l.second;
  loan : l.one.seat.ghost_name ≡ l.initial.one.seat.ghost_name;
  home : shared_home l.one.seat.now.place ≡ shared_home l.initial.one.seat.now.place;
  other_loan : l.other.seat.ghost_name ≡ l.initial.other.seat.ghost_name;
  other_home : shared_home l.other.seat.now.place ≡ shared_home l.initial.other.seat.now.place;
}
