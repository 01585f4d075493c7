use Rattle.std.proofs.Common.{◌≡◌, refl, rules, subst, sym}
use Rattle.std.specs.Prelude.{IfErr, IfOk, IsSome}
use Rattle.run_history.specs.Legal.{floor_of}
use Rattle.run_history.specs.Runs.{run_of}
use Rattle.node.specs.Asking.{MayAskPurge}
use Rattle.node.specs.declared.outcome.NodeFault.TheVariants as faults
use Rattle.world.specs.drains.Turns.{HasAskedOne, IsFullAsking, worker_of}
use Rattle.world.proofs.drains.CallLaws.{memory-asking, to-purge}
use Rattle.world.proofs.Results.{err-then}
use Rattle.world.proofs.drains.purging.purge.Goals as goal

-- the interval is held
pub to_purge-requires : goal.to_purge-requires
to_purge-requires g c =
    record { there = subst IsSome (sym (c.requires.at_work.each c.args.interval c.requires.there).there) refl }

-- its first row that has ids to forget is the one that may be asked
pub purge_found-requires-clause-found : goal.purge_found-requires-clause-found
purge_found-requires-clause-found g c =
    to-purge c.args.book.now c.args.held.now c.args.interval c.floor-floor.result c.in_ok-found.found c.requires.at_work c.requires.there
    c.in_ok-found.ensures.first

-- what was asked for under the floor was so under the run's
pub returns-clause-asked : goal.returns-clause-asked
returns-clause-asked g c =
    let book = c.args.book.now in
    let floor : c.floor-floor.result ≡ floor_of (run_of book.case.topology book.history) = search rules in
    subst (λ f. IfOk c.purge_found.result (HasAskedOne book c.purge_found.new.book
    (MayAskPurge book.case.topology (worker_of c.args.held.now) c.args.interval 1 f))) floor c.purge_found.ensures.asked

-- and where that failed
pub returns-clause-asking : goal.returns-clause-asking
returns-clause-asking g c =
    let book = c.args.book.now in
    let floor : c.floor-floor.result ≡ floor_of (run_of book.case.topology book.history) = search rules in
    subst (λ f. IfErr c.purge_found.result (IsFullAsking
    (MayAskPurge book.case.topology (worker_of c.args.held.now) c.args.interval 1 f))) floor c.purge_found.ensures.asking

-- there was no memory for the row's name
pub returns-in_err-found-clause-asking : goal.returns-in_err-found-clause-asking
returns-in_err-found-clause-asking g c =
    let r = c.from_residual.result in
    let none : IfErr r (λ why. why ≡ faults.NoMemory) = search rules in
    err-then r (λ why is. memory-asking _ why is) none
