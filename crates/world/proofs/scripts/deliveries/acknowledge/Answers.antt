use Rattle.std.proofs.Common.{rules, ℕ}
use Rattle.std.specs.Prelude.{IfErr, IfOk}
use Rattle.node.specs.declared.outcome.Outcome.{Outcome}
use Rattle.outbox.specs.declared.outgoing.Outgoing.TheVariants as outgoing
use Rattle.node.specs.Asking.{ack_asked}
use Rattle.world.specs.drains.Turns.{HasFailed}
use Rattle.world.specs.scripts.WorkerCalls.{HasCalled, IsFullTaking, TakesOn}
use Rattle.world.proofs.Results.{ok-then}
use Rattle.world.proofs.scripts.TakeLaws.{ack-on}
use Rattle.world.proofs.drains.TurnLaws.{failed-asked}
use Rattle.world.proofs.scripts.WorkerLaws.{by-result, called-by, err-with, leases-ack, leases-same}
use Rattle.node.specs.Workers.{worker_at}
use Rattle.world.specs.scripts.Stepping.{IsCausedBy}
use Rattle.world.proofs.scripts.CauseLaws.{ack-cause}
use Rattle.node.specs.declared.outcome.NodeFault.{NodeFault}
use Rattle.world.proofs.scripts.FullSteps.{ack-full}
use Rattle.world.proofs.scripts.deliveries.acknowledge.Goals as goal

-- the worker has called its desk
pub returns-clause-called : goal.returns-clause-called
returns-clause-called g c =
    let old = c.args.book.now in
    let new = c.take_ack-result.new.desk.book.now in
    let was = c.args.node.now in
    let node = c.take_ack-result.new.self in
    let taken = outgoing.Ack c.args.receipt.to c.args.receipt.id in
    let called : HasCalled old new was node =
    called-by c.case-case.result.now old new was node c.case-case.ensures.case c.sound.ensures.sound c.sound-2.ensures.sound
    c.take_ack-result.ensures.grown c.take_ack-result.ensures.fits c.take_ack-result.ensures.number
    (by-result c.take_ack-result.result (λ outcome answers. leases-ack c.case-case.result.now.topology old new taken was node outcome answers)
    (leases-same new was node) c.take_ack-result.ensures.answers c.take_ack-result.ensures.kept) in search rules

-- as the script does
pub returns-clause-acted : goal.returns-clause-acted
returns-clause-acted g c =
    let old = c.args.book.now in
    let new = c.take_ack-result.new.desk.book.now in
    let was = c.args.node.now in
    let node = c.take_ack-result.new.self in
    let taken = outgoing.Ack c.args.receipt.to c.args.receipt.id in
    let acted : IfOk c.take_ack-result.result (λ (outcome : Outcome). (number : ℕ) → TakesOn number taken old was new node outcome) =
    ok-then c.take_ack-result.result (λ outcome answers. ack-on c.case-case.result.now old new was node taken outcome
    c.case-case.ensures.case c.history.ensures.lawful c.take_ack-result.ensures.marks c.requires.fits c.requires.takes tt answers)
    c.take_ack-result.ensures.answers in search rules

-- a refusal has its cause
pub returns-clause-failed : goal.returns-clause-failed
returns-clause-failed g c =
    let old = c.args.book.now in
    let new = c.take_ack-result.new.desk.book.now in
    let was = c.args.node.now in
    let asked = ack_asked c.case-case.result.now.topology was (outgoing.Ack c.args.receipt.to c.args.receipt.id) in
    let failed : IfErr c.take_ack-result.result (HasFailed old new) =
    err-with c.take_ack-result.result (λ why fails looked. failed-asked old new asked why looked fails)
    c.take_ack-result.ensures.fault c.take_ack-result.ensures.looked in search rules

-- its answer has its cause
pub returns-clause-cause : goal.returns-clause-cause
returns-clause-cause g c =
    let old = c.args.book.now in
    let new = c.take_ack-result.new.desk.book.now in
    let was = c.args.node.now in
    let node = c.take_ack-result.new.self in
    let taken = outgoing.Ack c.args.receipt.to c.args.receipt.id in
    let cause : IfOk c.take_ack-result.result (IsCausedBy (worker_at was) old.history new.history) =
    ok-then c.take_ack-result.result (λ outcome answers. ack-cause c.case-case.result.now.topology old new taken was node outcome
    c.requires.fits answers) c.take_ack-result.ensures.answers in search rules

-- where the history is full the step would have appended an entry
pub returns-clause-full : goal.returns-clause-full
returns-clause-full g c =
    let old = c.args.book.now in
    let new = c.take_ack-result.new.desk.book.now in
    let was = c.args.node.now in
    let taken = outgoing.Ack c.args.receipt.to c.args.receipt.id in
    let full : IfErr c.take_ack-result.result (λ (why : NodeFault). (number : ℕ) → IsFullTaking number taken old was why) =
    err-with c.take_ack-result.result (λ why fails looked. ack-full c.case-case.result.now old new was c.args.receipt.to
    c.args.receipt.id why c.case-case.ensures.case c.history.ensures.lawful c.requires.fits c.requires.takes looked fails)
    c.take_ack-result.ensures.fault c.take_ack-result.ensures.looked in search rules
