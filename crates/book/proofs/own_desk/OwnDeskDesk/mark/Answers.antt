use Rattle.book.proofs.OwnLaws.{looked-still}
use Rattle.book.proofs.own_desk.OwnDeskDesk.mark.Goals as goal

-- the book is read alone
pub returns-clause-looked : goal.returns-clause-looked
returns-clause-looked g c = looked-still c.args.self.now.book.now
