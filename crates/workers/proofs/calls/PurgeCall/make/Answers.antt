use Rattle.std.proofs.lemmas.Result.{IfErr-weaker}
use Rattle.book.specs.Desks.{DeskView}
use Rattle.workers.specs.Slices.{IsSliceFault}
use Rattle.workers.proofs.CallLaws.{purge-answered}
use Rattle.workers.proofs.FaultLaws.{fault-purge}
use Rattle.workers.proofs.Serving.{appended-few}
use Rattle.workers.proofs.calls.PurgeCall.make.Goals as goal

-- the call appends what it answers
pub returns-clause-served : goal.returns-clause-served
returns-clause-served g c =
    let old : DeskView = g.D.Desk.view c.args.desk.now in
    let new : DeskView = g.D.Desk.view c.purge.new.desk in
    purge-answered c.args.case.now old new c.args.self.now.interval 64 c.args.node.now c.purge.new.self c.purge.result c.requires.fits
    c.purge.ensures.fits c.purge.ensures.number c.purge.ensures.answers c.purge.ensures.looked c.purge.ensures.kept

pub returns-clause-few : goal.returns-clause-few
returns-clause-few g c = appended-few c.purge.result

-- and fails for its cause
pub returns-clause-fault : goal.returns-clause-fault
returns-clause-fault g c =
    let old : DeskView = g.D.Desk.view c.args.desk.now in
    let new : DeskView = g.D.Desk.view c.purge.new.desk in
    IfErr-weaker c.purge.result _ (IsSliceFault old new)
    (fault-purge c.args.case.now.topology old new c.args.self.now.interval 64 c.args.node.now) c.purge.ensures.fault
