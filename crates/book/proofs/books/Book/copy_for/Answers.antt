use Rattle.book.proofs.ClaimLaws.{stale-again}
use Rattle.book.proofs.books.Book.copy_for.Goals as goal

-- the refusal is that of the test of the sequencer
pub returns-in-Err-clause-stale : goal.returns-in-Err-clause-stale
returns-in-Err-clause-stale g c = stale-again c.args.self.now.history c.args.lease.now c.in-Err.why c.in-Err.ensures.stale
