use Rattle.book.proofs.StartLaws.{first-none}
use Rattle.book.proofs.books.Book.start.Goals as goal

-- the keeper has no first row
pub begun-requires-clause-empty : goal.begun-requires-clause-empty
begun-requires-clause-empty g c =
    first-none (g.K.Keeper.rows c.args.keeper) (g.K.Keeper.rows c.first.new.self) c.in-Ok-None.field-0 c.first.ensures.unchanged
    c.in-Ok-None.field-0-is c.in-Ok-None.ensures.least
