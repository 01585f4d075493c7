use Rattle.std.proofs.lemmas.Result.{IfErr-weaker}
use Rattle.book.specs.Desks.{DeskView}
use Rattle.node.specs.Asking.{work_asked}
use Rattle.workers.specs.Slices.{IsSliceFault}
use Rattle.workers.proofs.CallLaws.{commit-answered}
use Rattle.workers.proofs.FaultLaws.{fault-asked}
use Rattle.workers.proofs.Serving.{appended-few}
use Rattle.workers.proofs.calls.CommitCall.make.Goals as goal

-- the call appends what it answers
pub returns-clause-served : goal.returns-clause-served
returns-clause-served g c =
    let old : DeskView = g.D.Desk.view c.args.desk.now in
    let new : DeskView = g.D.Desk.view c.commit.new.desk in
    commit-answered c.args.case.now old new c.args.node.now c.commit.new.self c.commit.result c.requires.fits
    c.commit.ensures.fits c.commit.ensures.number c.commit.ensures.answers c.commit.ensures.looked c.commit.ensures.kept

pub returns-clause-few : goal.returns-clause-few
returns-clause-few g c = appended-few c.commit.result

-- and fails for its cause
pub returns-clause-fault : goal.returns-clause-fault
returns-clause-fault g c =
    let old : DeskView = g.D.Desk.view c.args.desk.now in
    let new : DeskView = g.D.Desk.view c.commit.new.desk in
    IfErr-weaker c.commit.result _ (IsSliceFault old new) (fault-asked old new (work_asked c.args.case.now.topology c.args.node.now))
    c.commit.ensures.fault
