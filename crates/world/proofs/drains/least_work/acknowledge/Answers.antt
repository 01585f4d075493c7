use Rattle.std.proofs.Common.{◌≡◌, false, rules, true}
use Rattle.std.specs.Option.{is_some}
use Rattle.std.specs.Prelude.{Some}
use Rattle.holdings.specs.Holding.{held_at}
use Rattle.world.specs.drains.Turns.{sent_at, worker_of}
use Rattle.world.proofs.drains.CallLaws.{ack-asked, ack-not, may-settle}
use Rattle.world.proofs.drains.HeldLaws.{sent-here}
use Rattle.world.proofs.drains.least_work.acknowledge.Goals as goal

-- nothing is pending
pub returns-then-not-is_pending-clause-asked : goal.returns-then-not-is_pending-clause-asked
returns-then-not-is_pending-clause-asked g c =
    let shape = c.args.book.now.case.topology in
    let at : held_at c.args.held.now c.args.interval ≡ Some c.in-Some.here.now = search rules in
    let none : is_some (sent_at shape (worker_of c.args.held.now) c.args.sender.now c.args.id) ≡ false =
    (let is = sent-here shape c.args.held.now c.args.sender.now c.args.interval c.args.id c.in-Some.here.now c.is_pending.result
    c.requires.covers at (c.is_pending.ensures.pending shape) in search rules) in
    ack-not c.args.book.now c.args.held.now c.args.sender.now c.args.id none

-- the id may be settled
pub put-requires-clause-may : goal.put-requires-clause-may
put-requires-clause-may g c =
    let shape = c.args.book.now.case.topology in
    let at : held_at c.args.held.now c.args.interval ≡ Some c.in-Some.here.now = search rules in
    let some : is_some (sent_at shape (worker_of c.args.held.now) c.args.sender.now c.args.id) ≡ true =
    (let is = sent-here shape c.args.held.now c.args.sender.now c.args.interval c.args.id c.in-Some.here.now c.is_pending.result
    c.requires.covers at (c.is_pending.ensures.pending shape) in search rules) in
    may-settle c.args.book.now c.args.held.now c.args.sender.now c.args.id c.args.interval c.requires.at_work c.requires.covers some
    c.requires.handled

-- and is
pub returns-clause-asked : goal.returns-clause-asked
returns-clause-asked g c =
    let shape = c.args.book.now.case.topology in
    let at : held_at c.args.held.now c.args.interval ≡ Some c.in-Some.here.now = search rules in
    let some : is_some (sent_at shape (worker_of c.args.held.now) c.args.sender.now c.args.id) ≡ true =
    (let is = sent-here shape c.args.held.now c.args.sender.now c.args.interval c.args.id c.in-Some.here.now c.is_pending.result
    c.requires.covers at (c.is_pending.ensures.pending shape) in search rules) in
    ack-asked c.args.book.now c.put.new.book c.args.held.now c.args.sender.now c.args.id c.args.interval c.requires.at_work
    c.requires.covers some c.in_ok-put.ensures.put
