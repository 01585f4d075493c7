use Rattle.std.proofs.Common.{rules}
use Rattle.std.specs.Prelude.{IfErr, IfOk}
use Rattle.plans.specs.declared.step.Step.TheVariants as steps
use Rattle.world.specs.scripts.WorkerCalls.{ActsOn, HasCalled, IsFullOn}
use Rattle.world.proofs.scripts.ActsOnLaws.{fire-on}
use Rattle.world.proofs.Results.{ok-then}
use Rattle.world.proofs.scripts.WorkerLaws.{by-result, called-by, leases-some, leases-same}
use Rattle.node.specs.Asking.{MayAskFire}
use Rattle.world.specs.drains.Turns.{HasFailed}
use Rattle.world.proofs.drains.TurnLaws.{failed-some}
use Rattle.world.proofs.scripts.WorkerLaws.{err-with}
use Rattle.node.specs.Workers.{worker_at}
use Rattle.world.specs.scripts.Stepping.{IsCausedBy}
use Rattle.world.proofs.scripts.CauseLaws.{fire-cause}
use Rattle.world.proofs.scripts.FullSteps.{fire-full}
use Rattle.world.proofs.scripts.worker_calls.fire.Goals as goal

-- the worker has called its desk
pub returns-clause-called : goal.returns-clause-called
returns-clause-called g c =
    let old = c.args.book.now in
    let new = c.fire-result.new.desk.book.now in
    let was = c.args.node.now in
    let node = c.fire-result.new.self in
    let called : HasCalled old new was node =
    called-by c.case-case.result.now old new was node c.case-case.ensures.case c.sound.ensures.sound c.sound-2.ensures.sound
    c.fire-result.ensures.grown c.fire-result.ensures.fits c.fire-result.ensures.number
    (by-result c.fire-result.result (λ outcome answers. leases-some c.case-case.result.now.topology old new
    (MayAskFire c.case-case.result.now was c.args.part answers.mark) was node outcome answers.answers)
    (leases-same new was node) c.fire-result.ensures.answers c.fire-result.ensures.kept) in search rules

-- as the script does
pub returns-clause-acted : goal.returns-clause-acted
returns-clause-acted g c =
    let old = c.args.book.now in
    let new = c.fire-result.new.desk.book.now in
    let was = c.args.node.now in
    let node = c.fire-result.new.self in
    let acted : IfOk c.fire-result.result (ActsOn (steps.Fire was.number c.args.part) old was new node) =
    ok-then c.fire-result.result (λ outcome answers. fire-on c.case-case.result.now old new was node c.args.part outcome c.case-case.ensures.case c.history.ensures.lawful c.fire-result.ensures.marks c.requires.fits answers) c.fire-result.ensures.answers in search rules

-- a refusal has its cause
pub returns-clause-failed : goal.returns-clause-failed
returns-clause-failed g c =
    let old = c.args.book.now in
    let new = c.fire-result.new.desk.book.now in
    let failed : IfErr c.fire-result.result (HasFailed old new) =
    err-with c.fire-result.result (λ why fails looked. failed-some old new
    (MayAskFire c.case-case.result.now c.args.node.now c.args.part fails.mark) why looked fails.fails) c.fire-result.ensures.fault
    c.fire-result.ensures.looked in search rules

-- its answer has its cause
pub returns-clause-cause : goal.returns-clause-cause
returns-clause-cause g c =
    let old = c.args.book.now in
    let new = c.fire-result.new.desk.book.now in
    let was = c.args.node.now in
    let node = c.fire-result.new.self in
    let cause : IfOk c.fire-result.result (IsCausedBy (worker_at was) old.history new.history) =
    ok-then c.fire-result.result (λ outcome answers. fire-cause c.case-case.result.now old new c.args.part answers.mark was node outcome
    c.requires.fits answers.answers)
    c.fire-result.ensures.answers in search rules

-- where the history is full the step would have appended an entry
pub returns-clause-full : goal.returns-clause-full
returns-clause-full g c =
    let old = c.args.book.now in
    let new = c.fire-result.new.desk.book.now in
    let was = c.args.node.now in
    let full : IfErr c.fire-result.result (IsFullOn (steps.Fire was.number c.args.part) old was) =
    err-with c.fire-result.result (λ why fails looked. fire-full c.case-case.result.now old new was c.args.part why
    c.case-case.ensures.case c.history.ensures.lawful c.fire-result.ensures.marks c.requires.fits looked fails)
    c.fire-result.ensures.fault c.fire-result.ensures.looked in search rules
