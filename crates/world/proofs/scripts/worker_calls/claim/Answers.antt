use Rattle.std.proofs.Common.{rules}
use Rattle.world.specs.scripts.WorkerCalls.{HasCalled, IsFullOn}
use Rattle.world.proofs.scripts.WorkerLaws.{by-result, called-by, leases-claim, leases-same}
use Rattle.std.specs.Prelude.{IfErr, IfOk}
use Rattle.node.specs.Workers.{worker_at}
use Rattle.world.specs.scripts.Stepping.{IsCausedBy}
use Rattle.world.proofs.Results.{err-then, ok-then}
use Rattle.world.proofs.scripts.CauseLaws.{claim-cause}
use Rattle.plans.specs.declared.step.Step.TheVariants as steps
use Rattle.world.proofs.scripts.FullSteps.{claim-full}
use Rattle.world.proofs.scripts.worker_calls.claim.Goals as goal

-- the worker has called its desk
pub returns-clause-called : goal.returns-clause-called
returns-clause-called g c =
    let old = c.args.book.now in
    let new = c.claim-result.new.desk.book.now in
    let was = c.args.node.now in
    let node = c.claim-result.new.self in
    let called : HasCalled old new was node =
    called-by c.case-case.result.now old new was node c.case-case.ensures.case c.sound.ensures.sound c.sound-2.ensures.sound
    c.claim-result.ensures.grown c.claim-result.ensures.fits c.claim-result.ensures.number
    (by-result c.claim-result.result (λ outcome answers. leases-claim c.case-case.result.now.topology old new c.args.interval was node outcome answers)
    (leases-same new was node) c.claim-result.ensures.answers c.claim-result.ensures.kept) in search rules

-- its answer has its cause
pub returns-clause-cause : goal.returns-clause-cause
returns-clause-cause g c =
    let old = c.args.book.now in
    let new = c.claim-result.new.desk.book.now in
    let was = c.args.node.now in
    let node = c.claim-result.new.self in
    let cause : IfOk c.claim-result.result (IsCausedBy (worker_at was) old.history new.history) =
    ok-then c.claim-result.result (λ outcome answers. claim-cause c.case-case.result.now.topology old new c.args.interval was node outcome answers)
    c.claim-result.ensures.answers in search rules

-- where the history is full the step would have appended an entry
pub returns-clause-full : goal.returns-clause-full
returns-clause-full g c =
    let old = c.args.book.now in
    let was = c.args.node.now in
    let full : IfErr c.claim-result.result (IsFullOn (steps.Claim was.number c.args.interval) old was) =
    err-then c.claim-result.result (λ why fault. claim-full old was c.args.interval why) c.claim-result.ensures.fault in search rules
