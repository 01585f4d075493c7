use Rattle.std.proofs.Common.{refl, rules}
use Rattle.std.specs.Prelude.{IfErr, IfOk}
use Rattle.plans.specs.declared.step.Step.TheVariants as steps
use Rattle.world.specs.scripts.WorkerCalls.{ActsOn, HasCalled, IsFullOn}
use Rattle.world.proofs.scripts.ActsOnLaws.{report-on}
use Rattle.world.proofs.scripts.ActsOnLaws.{ok-is, same-answer}
use Rattle.world.proofs.scripts.WorkerLaws.{by-result, called-by, leases-report, leases-same}
use Rattle.holdings.specs.Holding.{held_at}
use Rattle.world.specs.drains.Turns.{HasFailed}
use Rattle.world.proofs.Results.{err-then, ok-then}
use Rattle.world.proofs.scripts.WorkerLaws.{failed-only-memory}
use Rattle.node.specs.Workers.{worker_at}
use Rattle.world.specs.scripts.Stepping.{IsCausedBy}
use Rattle.world.proofs.scripts.CauseLaws.{report-cause}
use Rattle.world.proofs.scripts.FullSteps.{no-full}
use Rattle.world.proofs.scripts.worker_calls.report.Goals as goal

-- the worker has called its desk
pub returns-clause-called : goal.returns-clause-called
returns-clause-called g c =
    let old = c.args.book.now in
    let new = c.report-result.new.desk.book.now in
    let was = c.args.node.now in
    let node = c.report-result.new.self in
    let called : HasCalled old new was node =
    called-by c.case-case.result.now old new was node c.case-case.ensures.case c.sound.ensures.sound c.sound-2.ensures.sound
    c.report-result.ensures.grown c.report-result.ensures.fits c.report-result.ensures.number
    (by-result c.report-result.result (λ outcome answers. leases-report c.case-case.result.now old new (held_at was.held c.args.interval) was node outcome answers)
    (leases-same new was node) c.report-result.ensures.answers c.report-result.ensures.kept) in search rules

-- as the script does
pub returns-clause-acted : goal.returns-clause-acted
returns-clause-acted g c =
    let old = c.args.book.now in
    let new = c.report-result.new.desk.book.now in
    let was = c.args.node.now in
    let node = c.report-result.new.self in
    let acted : IfOk c.report-result.result (ActsOn (steps.Report was.number c.args.interval) old was new node) =
    ok-is c.report-result.result (λ outcome is answers. report-on c.case-case.result.now old new was node c.args.interval outcome c.case-case.ensures.case
    c.history.ensures.lawful (λ unmarked. c.report-result.ensures.unchanged refl (λ mark marked. unmarked mark (same-answer c.report-result.result outcome _ is marked)))
    c.requires.fits c.requires.there answers) c.report-result.ensures.answers in search rules

-- a refusal has its cause
pub returns-clause-failed : goal.returns-clause-failed
returns-clause-failed g c =
    let old = c.args.book.now in
    let new = c.report-result.new.desk.book.now in
    let failed : IfErr c.report-result.result (HasFailed old new) =
    err-then c.report-result.result (λ why is. failed-only-memory old new why c.report-result.ensures.looked is)
    c.report-result.ensures.memory in search rules

-- its answer has its cause
pub returns-clause-cause : goal.returns-clause-cause
returns-clause-cause g c =
    let old = c.args.book.now in
    let new = c.report-result.new.desk.book.now in
    let was = c.args.node.now in
    let node = c.report-result.new.self in
    let cause : IfOk c.report-result.result (IsCausedBy (worker_at was) old.history new.history) =
    ok-then c.report-result.result (λ outcome answers. report-cause c.case-case.result.now old new c.args.interval was node outcome
    c.requires.fits answers)
    c.report-result.ensures.answers in search rules

-- a report appends nothing
pub returns-clause-full : goal.returns-clause-full
returns-clause-full g c =
    let old = c.args.book.now in
    let was = c.args.node.now in
    let full : IfErr c.report-result.result (IsFullOn (steps.Report was.number c.args.interval) old was) =
    err-then c.report-result.result (λ why is. no-full (steps.Report was.number c.args.interval) old was why is)
    c.report-result.ensures.memory in search rules
