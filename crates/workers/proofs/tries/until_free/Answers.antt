use Rattle.std.proofs.Common.{◌∙◌, refl, arith}
use Rattle.workers.specs.Serving.{IsBusy, appended, lines_by}
use Rattle.workers.proofs.LineLaws.{lines-last}
use Rattle.workers.proofs.Serving.{faults-after, served-lines, served-not, tried-again, tried-answered}
use Rattle.workers.proofs.tries.until_free.Goals as goal

pub loop-init : goal.loop-init
loop-init g c = record { served = served-not c.requires.fits; loan = refl; home = refl }

-- the last try appended what it may
pub returns-then-not-is_busy-clause-served : goal.returns-then-not-is_busy-clause-served
returns-then-not-is_busy-clause-served g c =
    served-lines (lines_by (g.A.Call.injector c.args.call.now)) 0 (appended c.make-answer.result) (g.A.Call.most c.args.call.now)
    (let few = c.make-answer.ensures.few in omega (arith, few)) (λ part. omega arith) c.loop.invariant.served
    c.make-answer.ensures.served

-- and what it answers
pub returns-then-not-is_busy-clause-answered : goal.returns-then-not-is_busy-clause-answered
returns-then-not-is_busy-clause-answered g c =
    tried-answered (lines_by (g.A.Call.injector c.args.call.now)) c.make-answer.result c.loop.invariant.served c.make-answer.ensures.served

-- and failed for its cause
pub returns-then-not-is_busy-clause-fault : goal.returns-then-not-is_busy-clause-fault
returns-then-not-is_busy-clause-fault g c = faults-after (g.D.Desk.view c.make-answer.new.desk) c.make-answer.result
    c.loop.invariant.served.worked c.make-answer.ensures.fault

-- and told of its line
pub returns-then-not-is_busy-clause-lines : goal.returns-then-not-is_busy-clause-lines
returns-then-not-is_busy-clause-lines g c =
    let free : IsBusy c.make-answer.result → ⊥ = c.if-not-is_busy.ensures.not_busy search in
    lines-last (g.A.Call.injector c.args.call.now) c.make-answer.result c.loop.invariant.served c.make-answer.ensures.served
    (c.make-answer.ensures.lines free)

-- a try that was turned away appended nothing
pub loop-preserved : goal.loop-preserved
loop-preserved g c =
    let busy : IsBusy c.make-answer.result = c.if-not-is_busy.ensures.busy search in record {
      served = tried-again c.make-answer.result c.loop.invariant.served c.make-answer.ensures.served busy;
      loan = c.make-answer.ensures.loan ∙ c.loop.invariant.loan;
      home = c.make-answer.ensures.home ∙ c.loop.invariant.home;
    }
