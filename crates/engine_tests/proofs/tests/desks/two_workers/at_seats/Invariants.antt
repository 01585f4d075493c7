use Rattle.shared_book.specs.SharedDesks.{table_numbers}
use Rattle.engine_tests.proofs.tests.desks.two_workers.at_seats.Given as goal

-- the mailboxes are those of the book
abbrev pub ghosts-at_turning_seats : goal.ghosts-at_turning_seats
ghosts-at_turning_seats g a = record {
  book = table_numbers a.shared.now.table.shared.table_id;
  shape = a.given.now.case.topology;
}
