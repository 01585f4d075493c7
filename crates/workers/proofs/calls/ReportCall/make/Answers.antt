use Rattle.std.proofs.lemmas.Result.{IfErr-weaker}
use Rattle.book.specs.Desks.{DeskView}
use Rattle.holdings.specs.Holding.{held_at}
use Rattle.workers.specs.Slices.{IsSliceFault}
use Rattle.workers.proofs.CallLaws.{report-answered, report-few}
use Rattle.workers.proofs.FaultLaws.{fault-memory}
use Rattle.list_lemmas.proofs.Told.{on_err-anyway}
use Rattle.workers.proofs.calls.ReportCall.make.Goals as goal

-- the call appends what it answers
pub returns-clause-served : goal.returns-clause-served
returns-clause-served g c =
    let old : DeskView = g.D.Desk.view c.args.desk.now in
    let new : DeskView = g.D.Desk.view c.report.new.desk in
    report-answered c.args.case.now old new c.args.self.now.interval c.args.node.now c.report.new.self c.report.result c.requires.fits
    c.report.ensures.fits c.report.ensures.number c.report.ensures.answers (on_err-anyway c.report.result c.report.ensures.looked)
    c.report.ensures.kept

-- nothing
pub returns-clause-few : goal.returns-clause-few
returns-clause-few g c =
    let old : DeskView = g.D.Desk.view c.args.desk.now in
    let new : DeskView = g.D.Desk.view c.report.new.desk in
    report-few c.args.case.now old new (held_at c.args.node.now.held c.args.self.now.interval) c.args.node.now c.report.new.self
    c.report.result c.report.ensures.answers

-- and fails for its cause
pub returns-clause-fault : goal.returns-clause-fault
returns-clause-fault g c =
    let old : DeskView = g.D.Desk.view c.args.desk.now in
    let new : DeskView = g.D.Desk.view c.report.new.desk in
    IfErr-weaker c.report.result _ (IsSliceFault old new) (fault-memory old new) c.report.ensures.memory
