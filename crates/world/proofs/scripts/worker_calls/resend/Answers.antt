use Rattle.std.proofs.Common.{ap, rules}
use Rattle.std.specs.Prelude.{IfErr, IfOk}
use Rattle.book.specs.OwnDesks.{own_view}
use Rattle.node.specs.Workers.{NodeView, leases_of, worker_at}
use Rattle.node.proofs.FitLaws.{grown_looked, looked_not}
use Rattle.plans.specs.declared.step.Step.TheVariants as steps
use Rattle.world.specs.scripts.WorkerCalls.{ActsOn, HasCalled, IsFullOn}
use Rattle.world.proofs.scripts.ActsOnLaws.{resend-on}
use Rattle.world.proofs.Results.{err-then, ok-then}
use Rattle.world.proofs.scripts.WorkerLaws.{called-by, leases-kept}
use Rattle.world.specs.scripts.Stepping.{IsCausedBy}
use Rattle.world.proofs.scripts.CauseLaws.{swept-cause}
use Rattle.world.proofs.scripts.FullSteps.{no-full}
use Rattle.world.proofs.scripts.worker_calls.resend.Goals as goal

-- the worker has called its desk
pub returns-clause-called : goal.returns-clause-called
returns-clause-called g c =
    let old = c.args.book.now in
    let was = c.args.node.now in
    let node = c.sweep-result.new.self in
    let called : HasCalled old old was node =
    called-by c.case-case.result.now old old was node c.case-case.ensures.case c.sound.ensures.sound c.sound.ensures.sound
    (grown_looked was.held (own_view old) (own_view old) (looked_not (own_view old))) c.sweep-result.ensures.fits c.sweep-result.ensures.number
    (leases-kept old was node (ap (λ (n : NodeView). leases_of n.held) c.sweep-result.ensures.rest)) in search rules

-- as the script does
pub returns-clause-acted : goal.returns-clause-acted
returns-clause-acted g c =
    let old = c.args.book.now in
    let was = c.args.node.now in
    let node = c.sweep-result.new.self in
    let acted : IfOk c.sweep-result.result (ActsOn (steps.Resend was.number) old was old node) =
    ok-then c.sweep-result.result (λ outcome answers. resend-on old was node outcome c.history.ensures.lawful c.requires.fits answers)
    c.sweep-result.ensures.answers in search rules

-- its answer has its cause
pub returns-clause-cause : goal.returns-clause-cause
returns-clause-cause g c =
    let old = c.args.book.now in
    let was = c.args.node.now in
    let node = c.sweep-result.new.self in
    let cause : IfOk c.sweep-result.result (IsCausedBy (worker_at was) old.history old.history) =
    ok-then c.sweep-result.result (λ outcome answers. swept-cause old was node outcome answers)
    c.sweep-result.ensures.answers in search rules

-- what is sent again appends nothing
pub returns-clause-full : goal.returns-clause-full
returns-clause-full g c =
    let old = c.args.book.now in
    let was = c.args.node.now in
    let full : IfErr c.sweep-result.result (IsFullOn (steps.Resend was.number) old was) =
    err-then c.sweep-result.result (λ why is. no-full (steps.Resend was.number) old was why is)
    c.sweep-result.ensures.fault in search rules
