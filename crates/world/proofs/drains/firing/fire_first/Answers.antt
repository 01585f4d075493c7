use Rattle.std.proofs.Common.{arith, false, rules, subst, true}
use Rattle.std.specs.Prelude.{IfErr}
use Rattle.run_history.specs.Watermarks.{least}
use Rattle.watermark.specs.Marks.{marks_of}
use Rattle.node.specs.Asking.{MayAskFire}
use Rattle.outbox.specs.Messages.{IsComputation}
use Rattle.world.specs.drains.Turns.{HasAskedOne, IsFullAsking, worker_of}
use Rattle.world.proofs.drains.FullLaws.{firing-full}
use Rattle.world.proofs.drains.FireLoop.{firing-first, firing-on, firing-quiet, firing-turned}
use Rattle.world.proofs.Results.{err-then}
use Rattle.world.proofs.drains.firing.fire_first.Goals as goal

-- no injector has a timer
pub loop-part-init : goal.loop-part-init
loop-part-init g c = search (rules, firing-first c.args.book.now (worker_of c.args.held.now) c.requires.at_work)

-- a part more
pub loop-part-preserved : goal.loop-part-preserved
loop-part-preserved g c =
    let old = c.loop-part.book in
    let was = (worker_of c.loop-part.held) in
    let is : IsComputation old.case.topology c.loop-part.part = search (rules, arith) in
    let done : HasAskedOne old c.fire.new.book (MayAskFire old.case was c.loop-part.part
    (least (marks_of old.case.topology c.loop-part.part old.marks))) false =
    subst (HasAskedOne old c.fire.new.book (MayAskFire old.case was c.loop-part.part
    (least (marks_of old.case.topology c.loop-part.part old.marks)))) c.if-more.false c.in_ok-more.ensures.asked in
    firing-on c.args.book.now old c.fire.new.book was (worker_of c.fire.new.held) c.loop-part.part
    c.loop-part.invariant c.fire.ensures.lawful c.requires.exact is done c.in_ok-more.ensures.marks
    c.in_ok-more.ensures.at_work

-- a timer that fired is a turn
pub returns-then-more-clause-turned : goal.returns-then-more-clause-turned
returns-then-more-clause-turned g c =
    let old = c.loop-part.book in
    let was = (worker_of c.loop-part.held) in
    let is : IsComputation old.case.topology c.loop-part.part = search (rules, arith) in
    let done : HasAskedOne old c.fire.new.book (MayAskFire old.case was c.loop-part.part
    (least (marks_of old.case.topology c.loop-part.part old.marks))) true =
    subst (HasAskedOne old c.fire.new.book (MayAskFire old.case was c.loop-part.part
    (least (marks_of old.case.topology c.loop-part.part old.marks)))) c.if-more.true c.in_ok-more.ensures.asked in
    firing-turned c.args.book.now old c.fire.new.book was c.loop-part.part c.loop-part.invariant
    c.fire.ensures.lawful c.requires.settled c.requires.exact is done

-- after the last part no timer is due
pub returns-clause-quiet : goal.returns-clause-quiet
returns-clause-quiet g c = λ none told.
    firing-quiet c.args.book.now c.loop-part.book (worker_of c.loop-part.held) c.loop-part.part (search (rules, arith))
    c.loop-part.invariant (search rules) told

-- a timer that fails since the history is full was due
pub returns-in_err-more-clause-unended : goal.returns-in_err-more-clause-unended
returns-in_err-more-clause-unended g c =
    let r = c.from_residual.result in
    let start = c.args.book.now in
    let old = c.loop-part.book in
    let was = (worker_of c.loop-part.held) in
    let part = c.loop-part.part in
    let is : IsComputation old.case.topology part = search (rules, arith) in
    let asking : IfErr r (IsFullAsking (MayAskFire old.case was part (least (marks_of old.case.topology part old.marks)))) =
    search rules in
    err-then r (λ why a. firing-full start old was part why c.loop-part.invariant c.fire.ensures.lawful c.requires.settled
    c.requires.exact is a) asking
