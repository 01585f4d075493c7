use Rattle.std.proofs.Common.{◌≡◌, refl, rules, subst, sym}
use Rattle.std.specs.Prelude.{IfErr, IfOk}
use Rattle.run_history.specs.Cases.{CaseShape}
use Rattle.run_history.specs.Watermarks.{least}
use Rattle.watermark.specs.Marks.{marks_of}
use Rattle.book.specs.OwnDesks.{own_view}
use Rattle.node.specs.Asking.{MayAskFire}
use Rattle.node.specs.FireSteps.{AreAllWithin, IsTimerToFire}
use Rattle.node.specs.declared.outcome.NodeFault.TheVariants as faults
use Rattle.node.proofs.FirstLaws.{rows-within}
use Rattle.world.specs.drains.Turns.{HasAskedOne, IsFullAsking, worker_of}
use Rattle.world.proofs.drains.CallLaws.{memory-asking}
use Rattle.world.proofs.Results.{err-then}
use Rattle.world.proofs.drains.firing.fire.Goals as goal

-- what is held of each interval lies there
pub first_due-requires : goal.first_due-requires
first_due-requires g c =
    let book = c.args.book.now in
    record {
      within = subst (λ (k : CaseShape). AreAllWithin k.topology c.args.held.now) (sym c.case-case.ensures.case)
          (λ interval. rows-within book.case (own_view book) (worker_of c.args.held.now) interval c.requires.at_work.fits);
    }

-- what was found is the next timer of the worker that the drain is
pub fire_found-requires-clause-found : goal.fire_found-requires-clause-found
fire_found-requires-clause-found g c =
    let worker = worker_of c.args.held.now in
    let next : IsTimerToFire c.case-case.result.now.topology worker c.args.part c.low-mark.result c.in_ok-found.found =
    c.in_ok-found.ensures.found worker refl refl in search rules

-- a timer that was asked for under the mark has fired under the least
pub returns-clause-asked : goal.returns-clause-asked
returns-clause-asked g c =
    let book = c.args.book.now in
    let exact : c.low-mark.result ≡ least (marks_of book.case.topology c.args.part book.marks) = search rules in
    let asked : IfOk c.fire_found.result (HasAskedOne book c.fire_found.new.book
    (MayAskFire book.case (worker_of c.args.held.now) c.args.part c.low-mark.result)) = search rules in
    subst (λ m. IfOk c.fire_found.result (HasAskedOne book c.fire_found.new.book
    (MayAskFire book.case (worker_of c.args.held.now) c.args.part m))) exact asked

-- one that failed too
pub returns-clause-asking : goal.returns-clause-asking
returns-clause-asking g c =
    let book = c.args.book.now in
    let exact : c.low-mark.result ≡ least (marks_of book.case.topology c.args.part book.marks) = search rules in
    let asking : IfErr c.fire_found.result (IsFullAsking
    (MayAskFire book.case (worker_of c.args.held.now) c.args.part c.low-mark.result)) = search rules in
    subst (λ m. IfErr c.fire_found.result (IsFullAsking
    (MayAskFire book.case (worker_of c.args.held.now) c.args.part m))) exact asking

-- there was no memory to look
pub returns-in_err-found-clause-asking : goal.returns-in_err-found-clause-asking
returns-in_err-found-clause-asking g c =
    let r = c.from_residual.result in
    let none : IfErr r (λ why. why ≡ faults.NoMemory) = search rules in
    err-then r (λ why is. memory-asking _ why is) none
