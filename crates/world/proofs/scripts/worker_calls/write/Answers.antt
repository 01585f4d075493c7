use Rattle.std.proofs.Common.{rules}
use Rattle.std.specs.Prelude.{IfErr, IfOk}
use Rattle.plans.specs.declared.step.Step.TheVariants as steps
use Rattle.world.specs.scripts.WorkerCalls.{ActsOn, HasCalled, IsFullOn}
use Rattle.world.proofs.scripts.ActsOnLaws.{write-on}
use Rattle.world.proofs.Results.{ok-then}
use Rattle.world.proofs.scripts.WorkerLaws.{by-result, called-by, err-with, leases-asked, leases-same, written-leases}
use Rattle.node.specs.Asking.{work_asked}
use Rattle.node.specs.Workers.{sending_of, with_written, worker_at}
use Rattle.world.specs.scripts.Stepping.{IsCausedBy}
use Rattle.world.proofs.scripts.CauseLaws.{work-cause}
use Rattle.world.proofs.scripts.FullSteps.{write-full}
use Rattle.world.proofs.scripts.worker_calls.write.Goals as goal

-- the worker has called its desk
pub returns-clause-called : goal.returns-clause-called
returns-clause-called g c =
    let old = c.args.book.now in
    let new = c.commit-result.new.desk.book.now in
    let was = c.args.node.now in
    let node = c.commit-result.new.self in
    let called : HasCalled old new was node =
    called-by c.case-case.result.now old new was node c.case-case.ensures.case c.sound.ensures.sound c.sound-2.ensures.sound
    c.commit-result.ensures.grown c.commit-result.ensures.fits c.commit-result.ensures.number
    (by-result c.commit-result.result (λ outcome answers. leases-asked c.case-case.result.now.topology old new (work_asked c.case-case.result.now.topology was)
    (with_written (sending_of was) (worker_at was)) was node outcome (written-leases (sending_of was) (worker_at was)) answers)
    (leases-same new was node) c.commit-result.ensures.answers c.commit-result.ensures.kept) in search rules

-- as the script does
pub returns-clause-acted : goal.returns-clause-acted
returns-clause-acted g c =
    let old = c.args.book.now in
    let new = c.commit-result.new.desk.book.now in
    let was = c.args.node.now in
    let node = c.commit-result.new.self in
    let acted : IfOk c.commit-result.result (ActsOn (steps.Write was.number) old was new node) =
    ok-then c.commit-result.result (λ outcome answers. write-on c.case-case.result.now old new was node outcome c.case-case.ensures.case c.history.ensures.lawful c.commit-result.ensures.marks c.requires.fits answers) c.commit-result.ensures.answers in search rules

-- its answer has its cause
pub returns-clause-cause : goal.returns-clause-cause
returns-clause-cause g c =
    let old = c.args.book.now in
    let new = c.commit-result.new.desk.book.now in
    let was = c.args.node.now in
    let node = c.commit-result.new.self in
    let cause : IfOk c.commit-result.result (IsCausedBy (worker_at was) old.history new.history) =
    ok-then c.commit-result.result (λ outcome answers. work-cause c.case-case.result.now.topology old new
    (with_written (sending_of was) (worker_at was)) was node outcome c.requires.fits answers)
    c.commit-result.ensures.answers in search rules

-- where the history is full the step would have appended an entry
pub returns-clause-full : goal.returns-clause-full
returns-clause-full g c =
    let old = c.args.book.now in
    let new = c.commit-result.new.desk.book.now in
    let was = c.args.node.now in
    let full : IfErr c.commit-result.result (IsFullOn (steps.Write was.number) old was) =
    err-with c.commit-result.result (λ why fails looked. write-full c.case-case.result.now old new was why
    c.case-case.ensures.case c.history.ensures.lawful c.requires.fits looked fails) c.commit-result.ensures.fault
    c.commit-result.ensures.looked in search rules
