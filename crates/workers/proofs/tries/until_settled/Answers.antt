use Rattle.std.proofs.Common.{◌∙◌, refl}
use Rattle.std.proofs.lemmas.Result.{IfErr-weaker}
use Rattle.book.specs.Desks.{DeskView}
use Rattle.node.specs.Asking.{settle_asked}
use Rattle.workers.specs.Serving.{HasServed, IsBusy, appended}
use Rattle.workers.specs.Slices.{IsSliceFault}
use Rattle.workers.proofs.CallLaws.{handled-served, settle-answered}
use Rattle.workers.proofs.FaultLaws.{fault-asked}
use Rattle.workers.proofs.Serving.{faults-after, served-not, tried-again, tried-last}
use Rattle.workers.proofs.tries.until_settled.Goals as goal

pub loop-init : goal.loop-init
loop-init g c = record { served = served-not c.requires.fits; handled = c.requires.handled; loan = refl; home = refl }

-- the last try was not turned away
pub returns-then-not-is_busy-clause-free : goal.returns-then-not-is_busy-clause-free
returns-then-not-is_busy-clause-free g c = c.if-not-is_busy.ensures.not_busy search

-- it appended at most one entry
pub returns-then-not-is_busy-clause-served : goal.returns-then-not-is_busy-clause-served
returns-then-not-is_busy-clause-served g c =
    let mid : DeskView = g.D.Desk.view c.loop.desk in
    let new : DeskView = g.D.Desk.view c.settle-answer.new.desk in
    tried-last c.settle-answer.result c.loop.invariant.served
    (settle-answered c.args.case.now mid new c.args.to.now c.args.id c.loop.node c.settle-answer.new.self c.settle-answer.result
    c.loop.invariant.served.fits c.settle-answer.ensures.fits c.settle-answer.ensures.number c.settle-answer.ensures.answers
    c.settle-answer.ensures.looked c.settle-answer.ensures.kept)

-- and failed for its cause
pub returns-then-not-is_busy-clause-fault : goal.returns-then-not-is_busy-clause-fault
returns-then-not-is_busy-clause-fault g c =
    let mid : DeskView = g.D.Desk.view c.loop.desk in
    let new : DeskView = g.D.Desk.view c.settle-answer.new.desk in
    faults-after new c.settle-answer.result c.loop.invariant.served.worked
    (IfErr-weaker c.settle-answer.result _ (IsSliceFault mid new)
    (fault-asked mid new (settle_asked c.args.case.now.topology c.loop.node c.args.to.now c.args.id)) c.settle-answer.ensures.fault)

-- a try that was turned away appended nothing, and the record is handled still
pub loop-preserved : goal.loop-preserved
loop-preserved g c =
    let mid : DeskView = g.D.Desk.view c.loop.desk in
    let new : DeskView = g.D.Desk.view c.settle-answer.new.desk in
    let busy : IsBusy c.settle-answer.result = c.if-not-is_busy.ensures.busy search in
    let tried : HasServed c.args.case.now (appended c.settle-answer.result) mid new c.loop.node c.settle-answer.new.self =
    settle-answered c.args.case.now mid new c.args.to.now c.args.id c.loop.node c.settle-answer.new.self c.settle-answer.result
    c.loop.invariant.served.fits c.settle-answer.ensures.fits c.settle-answer.ensures.number c.settle-answer.ensures.answers
    c.settle-answer.ensures.looked c.settle-answer.ensures.kept in record {
      served = tried-again c.settle-answer.result c.loop.invariant.served tried busy;
      handled = handled-served c.args.id tried c.loop.invariant.handled;
      loan = c.settle-answer.ensures.loan ∙ c.loop.invariant.loan;
      home = c.settle-answer.ensures.home ∙ c.loop.invariant.home;
    }
