use Rattle.book.proofs.SeenRows.{row-was, when-written}
use Rattle.book.proofs.books.Book.put.Goals as goal

-- the row that was handed in was the history's
pub returns-clause-found : goal.returns-clause-found
returns-clause-found g c = when-written c.put_admitted.result
    (row-was c.args.self.now c.args.lease.now c.args.front c.args.name.now c.args.row.now c.admit.ensures.lawful
    c.requires.lease c.requires.row c.in-Ok.ensures.last)
