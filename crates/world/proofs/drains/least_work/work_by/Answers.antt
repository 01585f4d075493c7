use Rattle.std.proofs.Common.{rules, true}
use Rattle.world.specs.drains.Standings.{StandsIn}
use Rattle.world.specs.drains.Turns.{worker_of}
use Rattle.world.specs.declared.drains.standing.Standing.TheVariants as standings
use Rattle.world.proofs.drains.DrainLaws.{forgot-turned, found-part}
use Rattle.world.proofs.Results.{ok-then}
use Rattle.world.proofs.drains.LeastWorkLaws.{ack-turned, found-handled, found-next, handle-turned}
use Rattle.world.proofs.drains.RecordStands.{stands-finished, stands-full, stands-handling, stands-known, stands-left}
use Rattle.world.proofs.drains.least_work.work_by.Goals as goal

-- a record that is finished is handled
pub acknowledge-requires-clause-handled : goal.acknowledge-requires-clause-handled
acknowledge-requires-clause-handled g c =
    let worker = worker_of c.args.held.now in
    let found = c.requires.found in
    let covers = c.requires.to in
    let stands : StandsIn c.args.book.now c.args.held.now c.args.to c.args.delivery standings.Finished = search rules in
    found-handled c.args.book.now worker c.args.sender.now c.args.delivery found true
    (stands-finished c.args.book.now c.args.held.now c.args.to c.args.delivery c.requires.found.at_work covers stands)

-- an acknowledgement is a turn
pub returns-in-Finished-clause-turned : goal.returns-in-Finished-clause-turned
returns-in-Finished-clause-turned g c =
    let worker = worker_of c.args.held.now in
    let found = c.requires.found in
    let covers = c.requires.to in
    let stands : StandsIn c.args.book.now c.args.held.now c.args.to c.args.delivery standings.Finished = search rules in
    ok-then c.acknowledge.result (λ more done. (ack-turned c.args.book.now c.acknowledge.new.book worker c.args.sender.now
    c.args.delivery.id c.args.delivery more c.requires.found.sent c.requires.found.least
    (found-handled c.args.book.now worker c.args.sender.now c.args.delivery found true
    (stands-finished c.args.book.now c.args.held.now c.args.to c.args.delivery c.requires.found.at_work covers stands)) done).0)
    c.acknowledge.ensures.asked

-- and writes an entry
pub returns-in-Finished-clause-more : goal.returns-in-Finished-clause-more
returns-in-Finished-clause-more g c =
    let worker = worker_of c.args.held.now in
    let found = c.requires.found in
    let covers = c.requires.to in
    let stands : StandsIn c.args.book.now c.args.held.now c.args.to c.args.delivery standings.Finished = search rules in
    ok-then c.acknowledge.result (λ more done told. (ack-turned c.args.book.now c.acknowledge.new.book worker c.args.sender.now
    c.args.delivery.id c.args.delivery more c.requires.found.sent c.requires.found.least
    (found-handled c.args.book.now worker c.args.sender.now c.args.delivery found true
    (stands-finished c.args.book.now c.args.held.now c.args.to c.args.delivery c.requires.found.at_work covers stands)) done).1)
    c.acknowledge.ensures.asked

-- its row may be there
pub forget-forgotten-requires-clause-part : goal.forget-forgotten-requires-clause-part
forget-forgotten-requires-clause-part g c =
    let worker = worker_of c.args.held.now in
    let found = c.requires.found in
    found-part c.args.book.now worker c.args.sender.now c.args.delivery found

-- and is full
pub forget-forgotten-requires-clause-full : goal.forget-forgotten-requires-clause-full
forget-forgotten-requires-clause-full g c =
    let covers = c.requires.to in
    let stands : StandsIn c.args.book.now c.args.held.now c.args.to c.args.delivery standings.Full = search rules in
    (stands-full c.args.book.now c.args.held.now c.args.to c.args.delivery c.requires.found.at_work covers stands).1

-- a row that forgets is a turn
pub returns-in-Full-clause-turned : goal.returns-in-Full-clause-turned
returns-in-Full-clause-turned g c =
    let worker = worker_of c.args.held.now in
    let found = c.requires.found in
    let covers = c.requires.to in
    let stands : StandsIn c.args.book.now c.args.held.now c.args.to c.args.delivery standings.Full = search rules in
    ok-then c.forget-forgotten.result (λ more done. forgot-turned c.args.book.now c.forget-forgotten.new.book worker c.args.sender.now
    c.args.delivery more found (stands-full c.args.book.now c.args.held.now c.args.to c.args.delivery c.requires.found.at_work covers
    stands).0 done) c.forget-forgotten.ensures.asked

-- and writes an entry
pub returns-in-Full-clause-more : goal.returns-in-Full-clause-more
returns-in-Full-clause-more g c =
    ok-then c.forget-forgotten.result (λ more is told. is) c.forget-forgotten.ensures.more

-- the row of a record that was handled may be there
pub handle-requires-clause-part : goal.handle-requires-clause-part
handle-requires-clause-part g c =
    let worker = worker_of c.args.held.now in
    let found = c.requires.found in
    found-part c.args.book.now worker c.args.sender.now c.args.delivery found

-- it was handled as the row is held
pub handle-requires-clause-handling : goal.handle-requires-clause-handling
handle-requires-clause-handling g c =
    let covers = c.requires.to in
    let stands : StandsIn c.args.book.now c.args.held.now c.args.to c.args.delivery (standings.Handled c.in-Handled.effects) = search
    rules in
    stands-handling c.args.book.now c.args.held.now c.args.to c.args.delivery c.in-Handled.effects c.requires.found.at_work covers
    c.requires.kept stands

-- and was made
pub handle-requires-clause-sent : goal.handle-requires-clause-sent
handle-requires-clause-sent g c =
    let worker = worker_of c.args.held.now in
    let found = c.requires.found in
    let covers = c.requires.to in
    let stands : StandsIn c.args.book.now c.args.held.now c.args.to c.args.delivery (standings.Handled c.in-Handled.effects) = search
    rules in
    stands-known c.args.book.now c.args.held.now c.args.sender.now c.args.to c.args.delivery c.in-Handled.effects found covers stands

-- that it is handled is a turn
pub returns-in-Handled-clause-turned : goal.returns-in-Handled-clause-turned
returns-in-Handled-clause-turned g c =
    let worker = worker_of c.args.held.now in
    let found = c.requires.found in
    let covers = c.requires.to in
    let stands : StandsIn c.args.book.now c.args.held.now c.args.to c.args.delivery (standings.Handled c.in-Handled.effects) = search
    rules in
    let left = stands-left c.args.book.now c.args.held.now c.args.to c.args.delivery c.in-Handled.effects c.requires.found.at_work
    covers stands in
    ok-then c.handle.result (λ more done. handle-turned c.args.book.now c.handle.new.book c.args.sender.now c.args.delivery more
    c.requires.found.least (found-next c.args.book.now worker c.args.sender.now c.args.delivery found left.0 left.1) done)
    c.handle.ensures.handled

-- and writes an entry
pub returns-in-Handled-clause-more : goal.returns-in-Handled-clause-more
returns-in-Handled-clause-more g c =
    ok-then c.handle.result (λ more done told. done.is_more) c.handle.ensures.handled
