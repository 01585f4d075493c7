use Rattle.std.proofs.lemmas.Result.{IfErr-weaker}
use Rattle.book.specs.Desks.{DeskView}
use Rattle.workers.specs.Slices.{IsSliceFault}
use Rattle.workers.proofs.CallLaws.{fire-answered}
use Rattle.workers.proofs.FaultLaws.{fault-fire}
use Rattle.workers.proofs.Serving.{appended-few}
use Rattle.workers.proofs.calls.FireCall.make.Goals as goal

-- the call appends what it answers
pub returns-clause-served : goal.returns-clause-served
returns-clause-served g c =
    let old : DeskView = g.D.Desk.view c.args.desk.now in
    let new : DeskView = g.D.Desk.view c.fire.new.desk in
    fire-answered c.args.case.now old new c.args.self.now.part c.args.node.now c.fire.new.self c.fire.result c.requires.fits
    c.fire.ensures.fits c.fire.ensures.number c.fire.ensures.answers c.fire.ensures.looked c.fire.ensures.kept

pub returns-clause-few : goal.returns-clause-few
returns-clause-few g c = appended-few c.fire.result

-- and fails for its cause
pub returns-clause-fault : goal.returns-clause-fault
returns-clause-fault g c =
    let old : DeskView = g.D.Desk.view c.args.desk.now in
    let new : DeskView = g.D.Desk.view c.fire.new.desk in
    IfErr-weaker c.fire.result _ (IsSliceFault old new) (fault-fire c.args.case.now old new c.args.self.now.part c.args.node.now)
    c.fire.ensures.fault
