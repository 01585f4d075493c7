use Rattle.std.proofs.Common.{◌≡◌, arith, rules}
use Rattle.node.specs.declared.outcome.Outcome.TheVariants as outcomes
use Rattle.workers.specs.Slices.{IsSliceFault}
use Rattle.workers.proofs.Serving.{fault-after, served-nothing, served-then}
use Rattle.workers.proofs.steps.fire_next.Goals as goal

-- no timer was due, and own work is not reported
pub returns-in_err-report_part-clause-served : goal.returns-in_err-report_part-clause-served
returns-in_err-report_part-clause-served g c =
    let nothing : c.in_ok-first.first ≡ outcomes.Nothing = c.if-not-is_nothing.ensures.nothing search in
    served-then 0 0 1 (omega arith) (served-nothing c.in_ok-first.first nothing c.in_ok-first.ensures.answered)
    c.report_part.ensures.served

pub returns-in_err-report_part-clause-fault : goal.returns-in_err-report_part-clause-fault
returns-in_err-report_part-clause-fault g c =
    let fault : IsSliceFault (g.D.Desk.view c.args.desk.now) (g.D.Desk.view c.report_part.new.desk) c.in_err-report_part.field-0.0 =
    fault-after c.until_free.ensures.served.worked c.in_err-report_part.ensures.fault in search rules

-- own work is reported, and the next one does not fire
pub returns-in_err-next-clause-served : goal.returns-in_err-next-clause-served
returns-in_err-next-clause-served g c =
    let nothing : c.in_ok-first.first ≡ outcomes.Nothing = c.if-not-is_nothing.ensures.nothing search in
    served-then 0 1 1 (omega arith)
    (served-then 0 0 0 (omega arith) (served-nothing c.in_ok-first.first nothing c.in_ok-first.ensures.answered)
    c.report_part.ensures.served) c.until_free-2.ensures.served

pub returns-in_err-next-clause-fault : goal.returns-in_err-next-clause-fault
returns-in_err-next-clause-fault g c =
    let before = served-then 1 0 1 (omega arith) c.until_free.ensures.served c.report_part.ensures.served in
    let fault : IsSliceFault (g.D.Desk.view c.args.desk.now) (g.D.Desk.view c.until_free-2.new.desk) c.in_err-next.field-0.0 =
    fault-after before.worked c.in_err-next.ensures.fault in search rules

-- or does
pub returns-clause-served : goal.returns-clause-served
returns-clause-served g c =
    let nothing : c.in_ok-first.first ≡ outcomes.Nothing = c.if-not-is_nothing.ensures.nothing search in
    served-then 0 1 1 (omega arith)
    (served-then 0 0 0 (omega arith) (served-nothing c.in_ok-first.first nothing c.in_ok-first.ensures.answered)
    c.report_part.ensures.served) c.until_free-2.ensures.served
