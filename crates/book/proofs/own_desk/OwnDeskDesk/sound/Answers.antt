use Rattle.book.proofs.OwnLaws.{sound}
use Rattle.book.proofs.own_desk.OwnDeskDesk.sound.Goals as goal

-- what always holds of the book holds of the desk
pub returns : goal.returns
returns g c = record { sound = sound c.args.self.now.book.now c.sound.ensures.lawful }
