use Rattle.book.proofs.ClaimLaws.{stale-some, full-some}
use Rattle.book.proofs.books.Book.admit.Goals as goal

-- the book keeps its invariant
pub returns-in-Some-clause-lawful : goal.returns-in-Some-clause-lawful
returns-in-Some-clause-lawful g c = c.newer.ensures.lawful

-- a later claim is there
pub returns-in-Some-clause-stale : goal.returns-in-Some-clause-stale
returns-in-Some-clause-stale g c = stale-some c.args.self.now.history c.args.lease.now c.in-Some.newer c.in-Some.ensures.later

-- so the lease is stale
pub returns-in-Some-clause-full : goal.returns-in-Some-clause-full
returns-in-Some-clause-full g c = full-some c.args.self.now c.args.lease.now c.in-Some.newer c.in-Some.ensures.later
