use Rattle.std.proofs.Common.{rules}
use Rattle.std.specs.Prelude.{IfErr, IfOk}
use Rattle.plans.specs.declared.step.Step.TheVariants as steps
use Rattle.world.specs.scripts.WorkerCalls.{ActsOn, HasCalled, IsFullOn}
use Rattle.world.proofs.scripts.ActsOnLaws.{purge-on}
use Rattle.world.proofs.Results.{ok-then}
use Rattle.world.proofs.scripts.WorkerLaws.{by-result, called-by, leases-some, leases-same}
use Rattle.node.specs.Asking.{MayAskPurge}
use Rattle.world.specs.drains.Turns.{HasFailed}
use Rattle.world.proofs.drains.TurnLaws.{failed-some}
use Rattle.world.proofs.scripts.WorkerLaws.{err-with}
use Rattle.node.specs.Workers.{worker_at}
use Rattle.world.specs.scripts.Stepping.{IsCausedBy}
use Rattle.world.proofs.scripts.CauseLaws.{purge-cause}
use Rattle.world.proofs.scripts.FullSteps.{purge-full}
use Rattle.world.proofs.scripts.worker_calls.purge.Goals as goal

-- the worker has called its desk
pub returns-clause-called : goal.returns-clause-called
returns-clause-called g c =
    let old = c.args.book.now in
    let new = c.purge-result.new.desk.book.now in
    let was = c.args.node.now in
    let node = c.purge-result.new.self in
    let called : HasCalled old new was node =
    called-by c.case-case.result.now old new was node c.case-case.ensures.case c.sound.ensures.sound c.sound-2.ensures.sound
    c.purge-result.ensures.grown c.purge-result.ensures.fits c.purge-result.ensures.number
    (by-result c.purge-result.result (λ outcome answers. leases-some c.case-case.result.now.topology old new
    (MayAskPurge c.case-case.result.now.topology was c.args.interval 1 answers.floor) was node outcome answers.answers)
    (leases-same new was node) c.purge-result.ensures.answers c.purge-result.ensures.kept) in search rules

-- as the script does
pub returns-clause-acted : goal.returns-clause-acted
returns-clause-acted g c =
    let old = c.args.book.now in
    let new = c.purge-result.new.desk.book.now in
    let was = c.args.node.now in
    let node = c.purge-result.new.self in
    let acted : IfOk c.purge-result.result (ActsOn (steps.Purge was.number c.args.interval) old was new node) =
    ok-then c.purge-result.result (λ outcome answers. purge-on c.case-case.result.now old new was node c.args.interval outcome c.case-case.ensures.case c.history.ensures.lawful c.purge-result.ensures.marks c.requires.fits answers) c.purge-result.ensures.answers in search rules

-- a refusal has its cause
pub returns-clause-failed : goal.returns-clause-failed
returns-clause-failed g c =
    let old = c.args.book.now in
    let new = c.purge-result.new.desk.book.now in
    let failed : IfErr c.purge-result.result (HasFailed old new) =
    err-with c.purge-result.result (λ why fails looked. failed-some old new
    (MayAskPurge c.case-case.result.now.topology c.args.node.now c.args.interval 1 fails.floor) why looked fails.fails)
    c.purge-result.ensures.fault c.purge-result.ensures.looked in search rules

-- its answer has its cause
pub returns-clause-cause : goal.returns-clause-cause
returns-clause-cause g c =
    let old = c.args.book.now in
    let new = c.purge-result.new.desk.book.now in
    let was = c.args.node.now in
    let node = c.purge-result.new.self in
    let cause : IfOk c.purge-result.result (IsCausedBy (worker_at was) old.history new.history) =
    ok-then c.purge-result.result (λ outcome answers. purge-cause c.case-case.result.now.topology old new c.args.interval 1 answers.floor was node
    outcome c.requires.fits answers.answers)
    c.purge-result.ensures.answers in search rules

-- where the history is full the step would have appended an entry
pub returns-clause-full : goal.returns-clause-full
returns-clause-full g c =
    let old = c.args.book.now in
    let new = c.purge-result.new.desk.book.now in
    let was = c.args.node.now in
    let full : IfErr c.purge-result.result (IsFullOn (steps.Purge was.number c.args.interval) old was) =
    err-with c.purge-result.result (λ why fails looked. purge-full c.case-case.result.now old new was c.args.interval why
    c.case-case.ensures.case c.history.ensures.lawful c.requires.fits looked fails) c.purge-result.ensures.fault
    c.purge-result.ensures.looked in search rules
