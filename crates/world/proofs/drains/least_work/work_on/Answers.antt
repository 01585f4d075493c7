use Rattle.std.proofs.Common.{◌≡◌, rules, true}
use Rattle.run_history.specs.Finished.{is_handled}
use Rattle.world.specs.drains.Turns.{worker_of}
use Rattle.world.proofs.Results.{ok-then}
use Rattle.world.proofs.drains.LeastWorkLaws.{ack-least, ack-more}
use Rattle.world.proofs.drains.least_work.work_on.Goals as goal

-- word that it was handled is a turn
pub returns-then-is_last_handled-clause-turned : goal.returns-then-is_last_handled-clause-turned
returns-then-is_last_handled-clause-turned g c =
    let handled : is_handled c.args.id c.args.book.now.history ≡ true = search rules in
    ok-then c.acknowledge.result (λ more done. ack-least c.args.book.now c.acknowledge.new.book (worker_of c.args.held.now)
    c.args.sender.now c.args.id more c.requires.least (λ told. handled) done) c.acknowledge.ensures.asked

-- and writes an entry
pub returns-then-is_last_handled-clause-more : goal.returns-then-is_last_handled-clause-more
returns-then-is_last_handled-clause-more g c =
    let handled : is_handled c.args.id c.args.book.now.history ≡ true = search rules in
    ok-then c.acknowledge.result (λ more done. ack-more c.args.book.now c.acknowledge.new.book (worker_of c.args.held.now)
    c.args.sender.now c.args.id more c.requires.at_work c.requires.part c.requires.least (λ told. handled) done)
    c.acknowledge.ensures.asked
