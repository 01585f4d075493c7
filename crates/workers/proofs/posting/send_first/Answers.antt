use Rattle.workers.proofs.PassLaws.{served-sent}
use Rattle.workers.proofs.posting.send_first.Goals as goal

-- a message was sent
pub returns-in-Some-clause-served : goal.returns-in-Some-clause-served
returns-in-Some-clause-served g c = served-sent c.args.case.now (g.D.Desk.view c.args.desk.now) (g.D.Desk.view c.next_message.new.desk)
    c.args.node.now c.next_message.new.self c.requires.fits.of_case c.next_message.ensures.fits c.next_message.ensures.rest
    c.next_message.ensures.looked

-- there is none
pub returns-in-None-clause-served : goal.returns-in-None-clause-served
returns-in-None-clause-served g c = served-sent c.args.case.now (g.D.Desk.view c.args.desk.now) (g.D.Desk.view c.next_message.new.desk)
    c.args.node.now c.next_message.new.self c.requires.fits.of_case c.next_message.ensures.fits c.next_message.ensures.rest
    c.next_message.ensures.looked
