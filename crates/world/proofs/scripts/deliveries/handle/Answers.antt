use Rattle.std.proofs.Common.{rules, ℕ}
use Rattle.std.specs.Prelude.{IfErr, IfOk, OnErr}
use Rattle.book.specs.OwnDesks.{own_view}
use Rattle.node.specs.declared.outcome.Outcome.{Outcome}
use Rattle.outbox.specs.declared.outgoing.Outgoing.TheVariants as outgoing
use Rattle.node.proofs.FitLaws.{grown_looked}
use Rattle.world.specs.drains.Turns.{HasFailed}
use Rattle.world.specs.scripts.WorkerCalls.{HasCalled, HasRested, IsFullTaking, TakesOn}
use Rattle.world.proofs.Results.{err-then, ok-then}
use Rattle.world.proofs.scripts.TakeLaws.{handle-on}
use Rattle.world.proofs.scripts.WorkerLaws.{by-result, called-by, err-left, failed-only-memory, leases-same, leases-taken, rested-by}
use Rattle.node.specs.Workers.{worker_at}
use Rattle.world.specs.scripts.Stepping.{IsCausedBy}
use Rattle.world.proofs.scripts.CauseLaws.{taken-cause}
use Rattle.node.specs.declared.outcome.NodeFault.{NodeFault}
use Rattle.world.proofs.scripts.FullSteps.{handle-full}
use Rattle.world.proofs.scripts.deliveries.handle.Goals as goal

-- the worker has called its desk
pub returns-clause-called : goal.returns-clause-called
returns-clause-called g c =
    let old = c.args.book.now in
    let new = c.prepare-result.new.desk.book.now in
    let was = c.args.node.now in
    let node = c.prepare-result.new.self in
    let taken = outgoing.Deliver c.args.parcel.delivery c.args.parcel.sender in
    let called : HasCalled old new was node =
    called-by c.case-case.result.now old new was node c.case-case.ensures.case c.sound.ensures.sound c.sound-2.ensures.sound
    (grown_looked was.held (own_view old) (own_view new) c.prepare-result.ensures.looked) c.prepare-result.ensures.fits
    c.prepare-result.ensures.number
    (by-result c.prepare-result.result (λ outcome is. leases-taken c.case-case.result.now.topology new was node taken outcome is)
    (leases-same new was node) c.prepare-result.ensures.answers c.prepare-result.ensures.kept) in search rules

-- as the script does
pub returns-clause-acted : goal.returns-clause-acted
returns-clause-acted g c =
    let old = c.args.book.now in
    let new = c.prepare-result.new.desk.book.now in
    let was = c.args.node.now in
    let node = c.prepare-result.new.self in
    let taken = outgoing.Deliver c.args.parcel.delivery c.args.parcel.sender in
    let acted : IfOk c.prepare-result.result (λ (outcome : Outcome). (number : ℕ) → TakesOn number taken old was new node outcome) =
    ok-then c.prepare-result.result (λ outcome is. handle-on c.case-case.result.now old new was node c.args.parcel.delivery
    c.args.parcel.sender outcome c.case-case.ensures.case c.history.ensures.lawful c.prepare-result.ensures.marks c.requires.fits
    c.requires.takes c.prepare-result.ensures.looked is) c.prepare-result.ensures.answers in search rules

-- a refusal leaves all as it was
pub returns-clause-rested : goal.returns-clause-rested
returns-clause-rested g c =
    let old = c.args.book.now in
    let new = c.prepare-result.new.desk.book.now in
    let was = c.args.node.now in
    let node = c.prepare-result.new.self in
    let rested : OnErr c.prepare-result.result (HasRested old new was node) =
    err-left c.prepare-result.result (λ kept. rested-by old new was node c.prepare-result.ensures.marks kept
    c.prepare-result.ensures.looked) c.prepare-result.ensures.kept in search rules

-- and is for lack of memory
pub returns-clause-failed : goal.returns-clause-failed
returns-clause-failed g c =
    let old = c.args.book.now in
    let new = c.prepare-result.new.desk.book.now in
    let failed : IfErr c.prepare-result.result (HasFailed old new) =
    err-then c.prepare-result.result (λ why is. failed-only-memory old new why c.prepare-result.ensures.looked is)
    c.prepare-result.ensures.fault in search rules

-- its answer has its cause
pub returns-clause-cause : goal.returns-clause-cause
returns-clause-cause g c =
    let old = c.args.book.now in
    let new = c.prepare-result.new.desk.book.now in
    let was = c.args.node.now in
    let node = c.prepare-result.new.self in
    let taken = outgoing.Deliver c.args.parcel.delivery c.args.parcel.sender in
    let cause : IfOk c.prepare-result.result (IsCausedBy (worker_at was) old.history new.history) =
    ok-then c.prepare-result.result (λ outcome is. taken-cause c.case-case.result.now.topology old new was node taken outcome is)
    c.prepare-result.ensures.answers in search rules

-- a record that is prepared appends nothing
pub returns-clause-full : goal.returns-clause-full
returns-clause-full g c =
    let old = c.args.book.now in
    let was = c.args.node.now in
    let taken = outgoing.Deliver c.args.parcel.delivery c.args.parcel.sender in
    let full : IfErr c.prepare-result.result (λ (why : NodeFault). (number : ℕ) → IsFullTaking number taken old was why) =
    err-then c.prepare-result.result (λ why is. handle-full taken old was why is) c.prepare-result.ensures.fault in search rules
