use Rattle.std.proofs.Common.{◌≡◌, ◌∙◌, rules, sym}
use Rattle.std.specs.Prelude.{IfErr}
use Rattle.node.specs.declared.outcome.NodeFault.TheVariants as faults
use Rattle.world.specs.drains.Turns.{IsEndOf, IsSettled}
use Rattle.world.proofs.drains.DrainLaws.{told-fact-back}
use Rattle.world.proofs.drains.FullLaws.{full-not, unended-back}
use Rattle.world.proofs.GoLaws.{fact-on, failed-on, round-exact, turned-on}
use Rattle.world.proofs.Results.{err-then, ok-then}
use Rattle.world.proofs.drains.turns.go_on.Goals as goal

-- nothing is unacknowledged after the reports
pub fire_or_inject-requires-clause-settled : goal.fire_or_inject-requires-clause-settled
fire_or_inject-requires-clause-settled g c =
    fact-on IsSettled c.args.book.now c.report_all.new.book c.report_all.ensures.stepped c.requires.settled

-- and the marks are exact
pub fire_or_inject-requires-clause-exact : goal.fire_or_inject-requires-clause-exact
fire_or_inject-requires-clause-exact g c = λ told.
    let was = sym c.report_all.ensures.stepped.tells ∙ told in
    round-exact c.args.book.now c.report_all.new.book c.history.ensures.lawful was c.requires.settled
    c.report_all.ensures.stepped (c.in_ok-report_all.ensures.round was)

-- a report fails for lack of memory alone
pub returns-in_err-report_all-clause-unended : goal.returns-in_err-report_all-clause-unended
returns-in_err-report_all-clause-unended g c =
    let r = c.from_residual.result in
    let none : IfErr r (λ why. why ≡ faults.NoMemory) = search rules in
    err-then r (λ why is. full-not c.args.book.now why is) none

-- what is written then is a turn
pub returns-clause-turned : goal.returns-clause-turned
returns-clause-turned g c = ok-then c.fire_or_inject.result (λ more done.
    turned-on c.args.book.now c.report_all.new.book c.fire_or_inject.new.book more c.report_all.ensures.stepped done)
    c.fire_or_inject.ensures.turned

-- where nothing is, it is the end
pub returns-clause-ended : goal.returns-clause-ended
returns-clause-ended g c = ok-then c.fire_or_inject.result (λ more end none.
    told-fact-back IsEndOf c.args.book.now c.report_all.new.book c.report_all.ensures.stepped (end none)) c.fire_or_inject.ensures.ended

-- a fault is one of the whole
pub returns-clause-failed : goal.returns-clause-failed
returns-clause-failed g c = err-then c.fire_or_inject.result (λ why failed.
    failed-on c.args.book.now c.report_all.new.book c.fire_or_inject.new.book why c.report_all.ensures.stepped failed)
    c.fire_or_inject.ensures.failed

-- one since the history is full too
pub returns-clause-unended : goal.returns-clause-unended
returns-clause-unended g c = err-then c.fire_or_inject.result (λ why is.
    unended-back c.args.book.now c.report_all.new.book why c.report_all.ensures.stepped is) c.fire_or_inject.ensures.unended
