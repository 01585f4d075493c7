use Rattle.std.proofs.Common.{subst}
use Rattle.world.specs.drains.Turns.{HasTurned, IsEndOf, IsQuiet, IsSettled}
use Rattle.world.proofs.drains.DrainLaws.{no-more, told-fact-back, told-fact-on}
use Rattle.world.proofs.drains.FullLaws.{unended-back}
use Rattle.world.proofs.GoLaws.{fact-on, failed-on, turned-on}
use Rattle.world.proofs.Results.{err-then, ok-then}
use Rattle.world.proofs.drains.turns.fire_or_inject.Goals as goal

-- a timer that fired is a turn
pub returns-then-fired-clause-turned : goal.returns-then-fired-clause-turned
returns-then-fired-clause-turned g c =
    subst (HasTurned c.args.book.now c.fire_first.new.book) c.if-fired.true c.in_ok-fired.ensures.turned

-- nothing is unacknowledged where no timer fired
pub inject_or_purge-requires-clause-settled : goal.inject_or_purge-requires-clause-settled
inject_or_purge-requires-clause-settled g c =
    let stayed = no-more c.args.book.now c.fire_first.new.book c.in_ok-fired.fired c.in_ok-fired.ensures.turned c.if-fired.false in
    fact-on IsSettled c.args.book.now c.fire_first.new.book stayed c.requires.settled

-- and no timer is due
pub inject_or_purge-requires-clause-quiet : goal.inject_or_purge-requires-clause-quiet
inject_or_purge-requires-clause-quiet g c =
    let stayed = no-more c.args.book.now c.fire_first.new.book c.in_ok-fired.fired c.in_ok-fired.ensures.turned c.if-fired.false in
    told-fact-on IsQuiet c.args.book.now c.fire_first.new.book stayed (c.in_ok-fired.ensures.quiet c.if-fired.false)

-- what comes after it is a turn
pub returns-clause-turned : goal.returns-clause-turned
returns-clause-turned g c =
    let stayed = no-more c.args.book.now c.fire_first.new.book c.in_ok-fired.fired c.in_ok-fired.ensures.turned c.if-fired.false in
    ok-then c.inject_or_purge.result
    (λ more done. turned-on c.args.book.now c.fire_first.new.book c.inject_or_purge.new.book more stayed done)
    c.inject_or_purge.ensures.turned

-- where nothing does, it is the end
pub returns-clause-ended : goal.returns-clause-ended
returns-clause-ended g c =
    let stayed = no-more c.args.book.now c.fire_first.new.book c.in_ok-fired.fired c.in_ok-fired.ensures.turned c.if-fired.false in
    ok-then c.inject_or_purge.result (λ more end none. told-fact-back IsEndOf c.args.book.now c.fire_first.new.book stayed (end none))
    c.inject_or_purge.ensures.ended

-- a fault is one of the whole
pub returns-clause-failed : goal.returns-clause-failed
returns-clause-failed g c =
    let stayed = no-more c.args.book.now c.fire_first.new.book c.in_ok-fired.fired c.in_ok-fired.ensures.turned c.if-fired.false in
    err-then c.inject_or_purge.result
    (λ why failed. failed-on c.args.book.now c.fire_first.new.book c.inject_or_purge.new.book why stayed failed)
    c.inject_or_purge.ensures.failed

-- one since the history is full too
pub returns-clause-unended : goal.returns-clause-unended
returns-clause-unended g c =
    let stayed = no-more c.args.book.now c.fire_first.new.book c.in_ok-fired.fired c.in_ok-fired.ensures.turned c.if-fired.false in
    err-then c.inject_or_purge.result (λ why is. unended-back c.args.book.now c.fire_first.new.book why stayed is)
    c.inject_or_purge.ensures.unended
