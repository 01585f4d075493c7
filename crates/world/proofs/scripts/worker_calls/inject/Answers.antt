use Rattle.std.proofs.Common.{refl, rules}
use Rattle.std.specs.Prelude.{IfErr, IfOk}
use Rattle.plans.specs.declared.step.Step.TheVariants as steps
use Rattle.world.specs.scripts.WorkerCalls.{ActsOn, HasCalled, IsFullOn}
use Rattle.world.proofs.scripts.ActsOnLaws.{inject-on}
use Rattle.world.proofs.Results.{ok-then}
use Rattle.world.proofs.scripts.WorkerLaws.{by-result, called-by, err-with, leases-asked, leases-same}
use Rattle.node.specs.Asking.{line_asked}
use Rattle.node.specs.Workers.{worker_at}
use Rattle.world.specs.scripts.Stepping.{IsCausedBy}
use Rattle.world.proofs.scripts.CauseLaws.{line-cause}
use Rattle.world.proofs.scripts.FullSteps.{inject-full}
use Rattle.world.proofs.scripts.worker_calls.inject.Goals as goal

-- the worker has called its desk
pub returns-clause-called : goal.returns-clause-called
returns-clause-called g c =
    let old = c.args.book.now in
    let new = c.inject-result.new.desk.book.now in
    let was = c.args.node.now in
    let node = c.inject-result.new.self in
    let called : HasCalled old new was node =
    called-by c.case-case.result.now old new was node c.case-case.ensures.case c.sound.ensures.sound c.sound-2.ensures.sound
    c.inject-result.ensures.grown c.inject-result.ensures.fits c.inject-result.ensures.number
    (by-result c.inject-result.result (λ outcome answers. leases-asked c.case-case.result.now.topology old new (line_asked c.case-case.result.now was c.args.part) (worker_at was) was node outcome refl answers)
    (leases-same new was node) c.inject-result.ensures.answers c.inject-result.ensures.kept) in search rules

-- as the script does
pub returns-clause-acted : goal.returns-clause-acted
returns-clause-acted g c =
    let old = c.args.book.now in
    let new = c.inject-result.new.desk.book.now in
    let was = c.args.node.now in
    let node = c.inject-result.new.self in
    let acted : IfOk c.inject-result.result (ActsOn (steps.Inject was.number c.args.part) old was new node) =
    ok-then c.inject-result.result (λ outcome answers. inject-on c.case-case.result.now old new was node c.args.part outcome c.case-case.ensures.case c.history.ensures.lawful c.inject-result.ensures.marks c.requires.fits answers) c.inject-result.ensures.answers in search rules

-- its answer has its cause
pub returns-clause-cause : goal.returns-clause-cause
returns-clause-cause g c =
    let old = c.args.book.now in
    let new = c.inject-result.new.desk.book.now in
    let was = c.args.node.now in
    let node = c.inject-result.new.self in
    let cause : IfOk c.inject-result.result (IsCausedBy (worker_at was) old.history new.history) =
    ok-then c.inject-result.result (λ outcome answers. line-cause c.case-case.result.now old new c.args.part was node outcome
    c.requires.fits answers)
    c.inject-result.ensures.answers in search rules

-- where the history is full the step would have appended an entry
pub returns-clause-full : goal.returns-clause-full
returns-clause-full g c =
    let old = c.args.book.now in
    let new = c.inject-result.new.desk.book.now in
    let was = c.args.node.now in
    let full : IfErr c.inject-result.result (IsFullOn (steps.Inject was.number c.args.part) old was) =
    err-with c.inject-result.result (λ why fails looked. inject-full c.case-case.result.now old new was c.args.part why
    c.case-case.ensures.case c.history.ensures.lawful c.requires.fits looked fails) c.inject-result.ensures.fault
    c.inject-result.ensures.looked in search rules
