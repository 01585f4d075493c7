use Rattle.node.proofs.OutLaws.{Fits-looked}
use Rattle.shared_book.specs.SharedDesks.{shared_view}
use Rattle.engine_tests.proofs.tests.desks.crossing.catch_up.Goals as goal

-- the worker fits its desk once it has caught up
pub returns-clause-fits : goal.returns-clause-fits
returns-clause-fits g c =
    Fits-looked c.args.given.now.case (shared_view c.args.desk.now.seat.now.place.me.0)
    (shared_view c.catch_up-tried.new.self.seat.now.place.me.0) c.args.node.now
    c.sound.ensures.sound c.sound-2.ensures.sound c.catch_up-tried.ensures.looked c.requires.fits
