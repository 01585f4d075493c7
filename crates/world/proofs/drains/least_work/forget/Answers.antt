use Rattle.std.proofs.Common.{◌≡◌, rules}
use Rattle.run_history.specs.Legal.{floor_of}
use Rattle.run_history.specs.Runs.{run_of}
use Rattle.world.proofs.drains.CallLaws.{forget-asked, forget-known}
use Rattle.world.proofs.drains.least_work.forget.Goals as goal

-- the row may forget
pub put-requires-clause-may : goal.put-requires-clause-may
put-requires-clause-may g c =
    let floor : c.floor-floor.result ≡ floor_of (run_of c.args.book.now.case.topology c.args.book.now.history) = search rules in
    forget-known c.args.book.now c.args.held.now c.args.name.now c.args.interval c.floor-floor.result floor c.requires.at_work
    c.requires.covers c.requires.full c.requires.part

-- and has forgotten
pub returns-clause-asked : goal.returns-clause-asked
returns-clause-asked g c =
    let floor : c.floor-floor.result ≡ floor_of (run_of c.args.book.now.case.topology c.args.book.now.history) = search rules in
    forget-asked c.args.book.now c.put.new.book c.args.held.now c.args.name.now c.args.interval c.floor-floor.result floor
    c.requires.at_work c.requires.covers c.requires.full c.in_ok-put.ensures.put
