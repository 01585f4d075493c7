use Rattle.node.proofs.OutLaws.{Fits-looked}
use Rattle.engine_tests.proofs.tests.desks.acts.load.Goals as goal

-- the worker fits its desk once a mark was loaded
pub returns-clause-fits : goal.returns-clause-fits
returns-clause-fits g c =
    Fits-looked c.args.given.now.case (g.D.Desk.view c.args.desk.now) (g.D.Desk.view c.mark-mark.new.self) c.args.node.now
    c.sound.ensures.sound c.sound-2.ensures.sound c.mark-mark.ensures.looked c.requires.fits
