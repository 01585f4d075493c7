use Rattle.std.proofs.Common.{◌≡◌}
use Rattle.shared_book.specs.SharedDesks.{shared_home, shared_view}
use Rattle.engine_tests.specs.TestSeats.{GoesOn}
use Rattle.engine_tests.proofs.tests.books.raising.raise_all.Given as goal

-- the desk went on with each round, and keeps its place
abbrev pub invariant-loop-nth : goal.invariant-loop-nth
invariant-loop-nth g l = record {
  goes_on : GoesOn (shared_view l.initial.desk.seat.now.place.me.0) (shared_view l.desk.seat.now.place.me.0);
  loan : l.desk.seat.ghost_name ≡ l.initial.desk.seat.ghost_name;
  home : shared_home l.desk.seat.now.place ≡ shared_home l.initial.desk.seat.now.place;
}
