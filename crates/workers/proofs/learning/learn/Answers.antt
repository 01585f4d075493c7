use Rattle.shared_book.specs.SharedDesks.{shared_view}
use Rattle.node.proofs.FitLaws.{looked_twice}
use Rattle.workers.proofs.LookLaws.{served-beside}
use Rattle.workers.proofs.learning.learn.Goals as goal

-- a worker that fits the desk does nothing meanwhile
pub returns-clause-served : goal.returns-clause-served
returns-clause-served g c = λ node fits. served-beside c.args.case.now (shared_view c.args.desk.now.seat.now.place.me.0)
    (shared_view c.catch_up-tried.new.self.seat.now.place.me.0) node c.sound.ensures.sound c.sound-2.ensures.sound
    (looked_twice (shared_view c.args.desk.now.seat.now.place.me.0) (shared_view c.load_marks.new.desk.seat.now.place.me.0)
    (shared_view c.catch_up-tried.new.self.seat.now.place.me.0) c.load_marks.ensures.looked c.catch_up-tried.ensures.looked) fits
