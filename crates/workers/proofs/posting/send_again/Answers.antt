use Rattle.std.proofs.Common.{refl}
use Rattle.workers.proofs.PassLaws.{served-sent}
use Rattle.workers.proofs.posting.send_again.Goals as goal

-- memory ran out
pub returns-in_err-again-clause-served : goal.returns-in_err-again-clause-served
returns-in_err-again-clause-served g c = served-sent c.args.case.now (g.D.Desk.view c.args.desk.now) (g.D.Desk.view c.first_again.new.desk)
    c.args.node.now c.args.node.now c.requires.fits.of_case c.first_again.ensures.fits refl c.first_again.ensures.looked

-- a record was sent once more
pub returns-in-Some-clause-served : goal.returns-in-Some-clause-served
returns-in-Some-clause-served g c = served-sent c.args.case.now (g.D.Desk.view c.args.desk.now) (g.D.Desk.view c.first_again.new.desk)
    c.args.node.now c.args.node.now c.requires.fits.of_case c.first_again.ensures.fits refl c.first_again.ensures.looked

-- there is none
pub returns-in-None-clause-served : goal.returns-in-None-clause-served
returns-in-None-clause-served g c = served-sent c.args.case.now (g.D.Desk.view c.args.desk.now) (g.D.Desk.view c.first_again.new.desk)
    c.args.node.now c.args.node.now c.requires.fits.of_case c.first_again.ensures.fits refl c.first_again.ensures.looked
