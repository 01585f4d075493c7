use Rattle.node.proofs.LookLaws.{grown-later, looked-later}
use Rattle.node.proofs.OutLaws.{Fits-looked}
use Rattle.node.proofs.PurgeLaws.{forget-answers, forget-fails}
use Rattle.node.proofs.node.Node.purge_row.Goals as goal

-- the node fits what the desk has seen as it was asked for its floor
pub forget-requires-clause-fits : goal.forget-requires-clause-fits
forget-requires-clause-fits g c = Fits-looked c.args.case.now (g.D.Desk.view c.args.desk.now) (g.D.Desk.view
    c.floor-floor.new.self) c.args.self.now
    c.sound.ensures.sound c.sound-2.ensures.sound c.floor-floor.ensures.looked c.requires.fits

pub returns-then-may_forget-clause-answers : goal.returns-then-may_forget-clause-answers
returns-then-may_forget-clause-answers g c = forget-answers c.args.case.now (g.D.Desk.view c.args.desk.now) (g.D.Desk.view
    c.floor-floor.new.self)
    (g.D.Desk.view c.forget.new.desk) c.args.self.now c.forget.new.self c.args.name.now c.args.least c.floor-floor.result c.forget.result
    c.sound.ensures.sound c.sound-2.ensures.sound c.floor-floor.ensures.looked c.floor-floor.ensures.floor c.requires.fits
    c.forget.ensures.grown (c.may_forget.ensures.may c.if-may_forget.true) c.forget.ensures.answers

pub returns-then-may_forget-clause-fault : goal.returns-then-may_forget-clause-fault
returns-then-may_forget-clause-fault g c = forget-fails c.args.case.now (g.D.Desk.view c.args.desk.now) (g.D.Desk.view
    c.floor-floor.new.self)
    (g.D.Desk.view c.forget.new.desk) c.args.self.now c.args.name.now c.args.least c.floor-floor.result c.forget.result
    c.sound.ensures.sound c.sound-2.ensures.sound c.floor-floor.ensures.looked c.floor-floor.ensures.floor
    c.forget.ensures.grown (c.may_forget.ensures.may c.if-may_forget.true) c.forget.ensures.fault

pub returns-then-may_forget-clause-looked : goal.returns-then-may_forget-clause-looked
returns-then-may_forget-clause-looked g c = looked-later (g.D.Desk.view c.args.desk.now) (g.D.Desk.view c.floor-floor.new.self)
    (g.D.Desk.view c.forget.new.desk) c.forget.result c.floor-floor.ensures.looked c.forget.ensures.looked

pub returns-then-may_forget-clause-grown : goal.returns-then-may_forget-clause-grown
returns-then-may_forget-clause-grown g c = grown-later (g.D.Desk.view c.args.desk.now) (g.D.Desk.view c.floor-floor.new.self)
    (g.D.Desk.view c.forget.new.desk) c.args.self.now.held c.floor-floor.ensures.looked c.forget.ensures.grown

-- where the row has none to forget
pub returns-else-may_forget-clause-fits : goal.returns-else-may_forget-clause-fits
returns-else-may_forget-clause-fits g c = Fits-looked c.args.case.now (g.D.Desk.view c.args.desk.now) (g.D.Desk.view
    c.floor-floor.new.self) c.args.self.now
    c.sound.ensures.sound c.sound-2.ensures.sound c.floor-floor.ensures.looked c.requires.fits
