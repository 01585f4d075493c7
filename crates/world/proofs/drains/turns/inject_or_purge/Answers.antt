use Rattle.std.proofs.Common.{subst}
use Rattle.world.specs.drains.Turns.{HasTurned, IsEndOf, IsInjected, IsQuiet, IsSettled}
use Rattle.world.proofs.drains.DrainLaws.{no-more, told-fact-back, told-fact-on}
use Rattle.world.proofs.drains.FullLaws.{unended-back}
use Rattle.world.proofs.GoLaws.{fact-on, failed-on, turned-on}
use Rattle.world.proofs.Results.{err-then, ok-then}
use Rattle.world.proofs.drains.turns.inject_or_purge.Goals as goal

-- a line that was injected is a turn
pub returns-then-injected-clause-turned : goal.returns-then-injected-clause-turned
returns-then-injected-clause-turned g c =
    subst (HasTurned c.args.book.now c.inject_next.new.book) c.if-injected.true c.in_ok-injected.ensures.turned

-- nothing is unacknowledged where no line was injected
pub purge_first-requires-clause-settled : goal.purge_first-requires-clause-settled
purge_first-requires-clause-settled g c =
    let stayed = no-more c.args.book.now c.inject_next.new.book c.in_ok-injected.injected c.in_ok-injected.ensures.turned
    c.if-injected.false in
    fact-on IsSettled c.args.book.now c.inject_next.new.book stayed c.requires.settled

-- no timer is due
pub purge_first-requires-clause-quiet : goal.purge_first-requires-clause-quiet
purge_first-requires-clause-quiet g c =
    let stayed = no-more c.args.book.now c.inject_next.new.book c.in_ok-injected.injected c.in_ok-injected.ensures.turned
    c.if-injected.false in
    told-fact-on IsQuiet c.args.book.now c.inject_next.new.book stayed c.requires.quiet

-- and no line is left
pub purge_first-requires-clause-injected : goal.purge_first-requires-clause-injected
purge_first-requires-clause-injected g c =
    let stayed = no-more c.args.book.now c.inject_next.new.book c.in_ok-injected.injected c.in_ok-injected.ensures.turned
    c.if-injected.false in
    told-fact-on IsInjected c.args.book.now c.inject_next.new.book stayed (c.in_ok-injected.ensures.injected c.if-injected.false)

-- what comes after it is a turn
pub returns-clause-turned : goal.returns-clause-turned
returns-clause-turned g c =
    let stayed = no-more c.args.book.now c.inject_next.new.book c.in_ok-injected.injected c.in_ok-injected.ensures.turned
    c.if-injected.false in
    ok-then c.purge_first.result (λ more done. turned-on c.args.book.now c.inject_next.new.book c.purge_first.new.book more stayed done)
    c.purge_first.ensures.turned

-- where nothing does, it is the end
pub returns-clause-ended : goal.returns-clause-ended
returns-clause-ended g c =
    let stayed = no-more c.args.book.now c.inject_next.new.book c.in_ok-injected.injected c.in_ok-injected.ensures.turned
    c.if-injected.false in
    ok-then c.purge_first.result (λ more end none. told-fact-back IsEndOf c.args.book.now c.inject_next.new.book stayed (end none))
    c.purge_first.ensures.ended

-- a fault is one of the whole
pub returns-clause-failed : goal.returns-clause-failed
returns-clause-failed g c =
    let stayed = no-more c.args.book.now c.inject_next.new.book c.in_ok-injected.injected c.in_ok-injected.ensures.turned
    c.if-injected.false in
    err-then c.purge_first.result (λ why failed. failed-on c.args.book.now c.inject_next.new.book c.purge_first.new.book why stayed
    failed)
    c.purge_first.ensures.failed

-- one since the history is full too
pub returns-clause-unended : goal.returns-clause-unended
returns-clause-unended g c =
    let stayed = no-more c.args.book.now c.inject_next.new.book c.in_ok-injected.injected c.in_ok-injected.ensures.turned
    c.if-injected.false in
    err-then c.purge_first.result (λ why is. unended-back c.args.book.now c.inject_next.new.book why stayed is)
    c.purge_first.ensures.unended
