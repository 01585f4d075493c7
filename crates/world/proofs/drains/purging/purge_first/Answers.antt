use Rattle.std.proofs.Common.{arith, false, rules, subst, true}
use Rattle.std.specs.Prelude.{IfErr}
use Rattle.run_history.specs.Legal.{floor_of}
use Rattle.run_history.specs.Runs.{run_of}
use Rattle.node.specs.Asking.{MayAskPurge}
use Rattle.world.specs.drains.Turns.{HasAskedOne, IsFullAsking, worker_of}
use Rattle.world.proofs.drains.FullLaws.{purging-full}
use Rattle.world.proofs.drains.PurgeLoop.{purging-ended, purging-first, purging-on, purging-turned}
use Rattle.world.proofs.Results.{err-then}
use Rattle.world.proofs.drains.purging.purge_first.Goals as goal

-- no interval is looked at yet
pub loop-interval-init : goal.loop-interval-init
loop-interval-init g c = purging-first c.args.book.now (worker_of c.args.held.now) c.requires.at_work

-- an interval more
pub loop-interval-preserved : goal.loop-interval-preserved
loop-interval-preserved g c =
    let old = c.loop-interval.book in
    let was = (worker_of c.loop-interval.held) in
    let done : HasAskedOne old c.purge.new.book (MayAskPurge old.case.topology was c.loop-interval.interval 1
    (floor_of (run_of old.case.topology old.history))) false =
    subst (HasAskedOne old c.purge.new.book (MayAskPurge old.case.topology was c.loop-interval.interval 1
    (floor_of (run_of old.case.topology old.history)))) c.if-more.false c.in_ok-more.ensures.asked in
    purging-on c.args.book.now old c.purge.new.book was (worker_of c.purge.new.held) c.loop-interval.interval
    c.loop-interval.invariant c.purge.ensures.lawful c.requires.settled done c.in_ok-more.ensures.at_work

-- a row that was purged is a turn
pub returns-then-more-clause-turned : goal.returns-then-more-clause-turned
returns-then-more-clause-turned g c =
    let old = c.loop-interval.book in
    let was = (worker_of c.loop-interval.held) in
    let done : HasAskedOne old c.purge.new.book (MayAskPurge old.case.topology was c.loop-interval.interval 1
    (floor_of (run_of old.case.topology old.history))) true =
    subst (HasAskedOne old c.purge.new.book (MayAskPurge old.case.topology was c.loop-interval.interval 1
    (floor_of (run_of old.case.topology old.history)))) c.if-more.true c.in_ok-more.ensures.asked in
    purging-turned c.args.book.now old c.purge.new.book was c.loop-interval.interval c.loop-interval.invariant
    c.purge.ensures.lawful c.requires.settled c.requires.quiet c.requires.injected done

-- after the last interval each drain has ended
pub returns-clause-ended : goal.returns-clause-ended
returns-clause-ended g c = λ none told.
    purging-ended c.args.book.now c.loop-interval.book (worker_of c.loop-interval.held) c.loop-interval.interval (search (rules, arith))
    c.loop-interval.invariant (search rules) told c.requires.settled (c.requires.quiet told) (c.requires.injected told)

-- a purge that fails since the history is full had a row to purge
pub returns-in_err-more-clause-unended : goal.returns-in_err-more-clause-unended
returns-in_err-more-clause-unended g c =
    let r = c.from_residual.result in
    let start = c.args.book.now in
    let old = c.loop-interval.book in
    let was = (worker_of c.loop-interval.held) in
    let interval = c.loop-interval.interval in
    let asking : IfErr r (IsFullAsking (MayAskPurge old.case.topology was interval 1 (floor_of (run_of old.case.topology old.history)))) =
    search rules in
    err-then r (λ why a. purging-full start old was interval why c.loop-interval.invariant c.purge.ensures.lawful c.requires.settled
    c.requires.quiet c.requires.injected a) asking
