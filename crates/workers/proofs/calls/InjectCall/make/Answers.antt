use Rattle.std.proofs.lemmas.Result.{IfErr-weaker}
use Rattle.book.specs.Desks.{DeskView}
use Rattle.node.specs.Asking.{line_asked}
use Rattle.workers.specs.Slices.{IsSliceFault}
use Rattle.workers.proofs.CallLaws.{inject-answered}
use Rattle.workers.proofs.FaultLaws.{fault-asked}
use Rattle.workers.proofs.LineLaws.{lines-answered}
use Rattle.workers.proofs.Serving.{appended-few}
use Rattle.workers.proofs.calls.InjectCall.make.Goals as goal

-- the call appends what it answers
pub returns-clause-served : goal.returns-clause-served
returns-clause-served g c =
    let old : DeskView = g.D.Desk.view c.args.desk.now in
    let new : DeskView = g.D.Desk.view c.inject.new.desk in
    inject-answered c.args.case.now old new c.args.self.now.part c.args.node.now c.inject.new.self c.inject.result c.requires.fits
    c.inject.ensures.fits c.inject.ensures.number c.inject.ensures.answers c.inject.ensures.looked c.inject.ensures.kept

pub returns-clause-few : goal.returns-clause-few
returns-clause-few g c = appended-few c.inject.result

-- and fails for its cause
pub returns-clause-fault : goal.returns-clause-fault
returns-clause-fault g c =
    let old : DeskView = g.D.Desk.view c.args.desk.now in
    let new : DeskView = g.D.Desk.view c.inject.new.desk in
    IfErr-weaker c.inject.result _ (IsSliceFault old new)
    (fault-asked old new (line_asked c.args.case.now c.args.node.now c.args.self.now.part)) c.inject.ensures.fault

-- and injects a line, or there is none
pub returns-clause-lines : goal.returns-clause-lines
returns-clause-lines g c = λ free.
    let old : DeskView = g.D.Desk.view c.args.desk.now in
    let new : DeskView = g.D.Desk.view c.inject.new.desk in
    lines-answered c.args.case.now old new c.args.self.now.part c.args.node.now c.inject.new.self c.inject.result
    c.sound.ensures.sound c.requires.fits c.requires.may free c.inject.ensures.answers
