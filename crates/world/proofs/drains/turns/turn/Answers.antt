use Rattle.std.proofs.Common.{◌≡◌, rules}
use Rattle.std.specs.Prelude.{IfErr}
use Rattle.node.specs.declared.outcome.NodeFault.TheVariants as faults
use Rattle.run_history.specs.Runs.{run_of}
use Rattle.book.specs.Senders.{IsLeastSent}
use Rattle.world.proofs.drains.DrainLaws.{not-ended}
use Rattle.world.proofs.drains.FullLaws.{full-not, sent-unended}
use Rattle.world.proofs.Results.{err-then, ok-then}
use Rattle.world.proofs.drains.TurnLaws.{failed-not}
use Rattle.world.proofs.drains.turns.turn.Goals as goal

-- there was no memory for the sender's name
pub returns-in_err-sender-clause-failed : goal.returns-in_err-sender-clause-failed
returns-in_err-sender-clause-failed g c =
    let none : IfErr c.from_residual.result (λ why. why ≡ faults.NoMemory) = search rules in
    err-then c.from_residual.result (λ why is. failed-not c.args.book.now why is) none

-- a delivery that is settled is not the end
pub returns-clause-ended : goal.returns-clause-ended
returns-clause-ended g c = ok-then c.work_on-worked.result (λ more is none. not-ended c.args.book.now more is none)
    c.work_on-worked.ensures.more

pub returns-in_err-sender-clause-unended : goal.returns-in_err-sender-clause-unended
returns-in_err-sender-clause-unended g c =
    let none : IfErr c.from_residual.result (λ why. why ≡ faults.NoMemory) = search rules in
    err-then c.from_residual.result (λ why is. full-not c.args.book.now why is) none

-- a delivery is left where one was to be settled
pub returns-clause-unended : goal.returns-clause-unended
returns-clause-unended g c =
    let book = c.args.book.now in
    let shape = book.case.topology in
    let least : IsLeastSent shape (run_of shape book.history) c.in-Some.id c.in-Some.sender.now = search rules in
    err-then c.work_on-worked.result (λ why failed full. sent-unended book c.in-Some.id c.in-Some.sender.now least)
    c.work_on-worked.ensures.failed
