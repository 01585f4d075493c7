use Rattle.shared_book.specs.SharedDesks.{table_numbers}
use Rattle.workers.proofs.running.rounds.Given as goal

-- the mailboxes serve this book
abbrev pub ghosts-shared_rounds : goal.ghosts-shared_rounds
ghosts-shared_rounds g a = record {
  book = table_numbers a.shared.now.table.shared.table_id;
  shape = a.case.now.topology;
}
