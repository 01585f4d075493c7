use Rattle.std.proofs.Common.{sym, subst}
use Rattle.run_history.specs.Inputs.{IsRunnable}
use Rattle.shared_book.proofs.DeskFacts.{sound}
use Rattle.shared_book.proofs.shared_desk.SharedDeskDesk.sound.Goals as goal

-- what the desk keeps of its seat always holds of it
pub returns : goal.returns
returns g c =
    let desk = c.args.self.now in record {
      sound = sound desk.seat.now.place.me.0 desk.seat.now.long.marks (subst IsRunnable (sym desk.case) c.case_is_runnable.ensures.runnable) desk.kept;
    }
