use Rattle.std.proofs.Common.{◌≡◌, ◌∙◌, rules, sym}
use Rattle.std.specs.Prelude.{IfErr, None, Some}
use Rattle.node.specs.declared.outcome.NodeFault.TheVariants as faults
use Rattle.world.specs.drains.Turns.{sent_at, worker_of}
use Rattle.world.proofs.drains.DrainLaws.{found-least}
use Rattle.world.proofs.GoLaws.{turned-stayed}
use Rattle.world.proofs.Results.{err-then}
use Rattle.world.proofs.drains.LeastWorkLaws.{pending-sent, sent-own}
use Rattle.world.proofs.drains.TurnLaws.{failed-not, stepped-not}
use Rattle.world.proofs.drains.least_work.work_on_pending.Goals as goal

-- there was no memory for what was found
pub returns-in_err-delivery-clause-failed : goal.returns-in_err-delivery-clause-failed
returns-in_err-delivery-clause-failed g c =
    let none : IfErr c.from_residual.result (λ why. why ≡ faults.NoMemory) = search rules in
    err-then c.from_residual.result (λ why is. failed-not c.args.book.now why is) none

-- the least id is that of what was found
pub work_on_sent-requires-clause-least : goal.work_on_sent-requires-clause-least
work_on_sent-requires-clause-least g c =
    let shape = c.args.book.now.case.topology in
    let is : sent_at shape (worker_of c.args.held.now) c.args.sender.now c.args.id ≡ Some c.in-Some.delivery =
    sym (c.in_ok-delivery.ensures.sent shape c.requires.covers) ∙ c.in-Some.is in
    found-least c.args.book.now (worker_of c.args.held.now) c.args.sender.now c.args.id c.in-Some.delivery is c.requires.least

-- it was sent
pub work_on_sent-requires-clause-sent : goal.work_on_sent-requires-clause-sent
work_on_sent-requires-clause-sent g c =
    let shape = c.args.book.now.case.topology in
    let is : sent_at shape (worker_of c.args.held.now) c.args.sender.now c.args.id ≡ Some c.in-Some.delivery =
    sym (c.in_ok-delivery.ensures.sent shape c.requires.covers) ∙ c.in-Some.is in
    sent-own shape (worker_of c.args.held.now) c.args.sender.now c.args.id c.in-Some.delivery is

-- nothing was done
pub returns-in-None-clause-turned : goal.returns-in-None-clause-turned
returns-in-None-clause-turned g c = turned-stayed c.args.book.now c.args.book.now (stepped-not c.args.book.now)

-- as the least id is pending where the rows are told
pub returns-in-None-clause-more : goal.returns-in-None-clause-more
returns-in-None-clause-more g c = λ told.
    let shape = c.args.book.now.case.topology in
    let is : sent_at shape (worker_of c.args.held.now) c.args.sender.now c.args.id ≡ None =
    sym (c.in_ok-delivery.ensures.sent shape c.requires.covers) ∙ c.in-None.is in
    absurd (pending-sent c.args.book.now (worker_of c.args.held.now) c.args.sender.now c.args.id c.requires.at_work told
    c.requires.part c.requires.least.pending is)
