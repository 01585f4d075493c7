use Rattle.std.proofs.Common.{◌≡◌, rules, subst}
use Rattle.std.specs.Prelude.{IfErr, Some}
use Rattle.run_history.specs.Cases.{CaseShape}
use Rattle.run_history.specs.Fences.{interval_of}
use Rattle.book.specs.OwnDesks.{own_view}
use Rattle.node.specs.Asking.{MayAskFire}
use Rattle.node.specs.FireSteps.{IsLeftByHandler}
use Rattle.node.specs.declared.outcome.NodeFault.TheVariants as faults
use Rattle.node.proofs.FiringLaws.{set-at}
use Rattle.world.specs.drains.Turns.{worker_of}
use Rattle.world.proofs.drains.CallLaws.{memory-asking}
use Rattle.world.proofs.Results.{err-then}
use Rattle.world.proofs.drains.firing.fire_one.Goals as goal

-- the row of the timer is there
pub effects_of-requires-clause-set : goal.effects_of-requires-clause-set
effects_of-requires-clause-set g c =
    let book = c.args.book.now in
    let name = c.args.found.now.name in
    let covers : interval_of book.case.topology name ≡ Some c.interval_of-interval.result = search rules in
    let set = set-at book.case (own_view book) (worker_of c.args.held.now) name.part c.args.mark c.interval_of-interval.result name
    c.args.found.now.timer c.requires.at_work.fits.held c.requires.part covers c.requires.next in search rules

-- so it is where it is written
pub write_fire-requires-clause-set : goal.write_fire-requires-clause-set
write_fire-requires-clause-set g c =
    let book = c.args.book.now in
    let name = c.args.found.now.name in
    let covers : interval_of book.case.topology name ≡ Some c.interval_of-interval.result = search rules in
    set-at book.case (own_view book) (worker_of c.args.held.now) name.part c.args.mark c.interval_of-interval.result name
    c.args.found.now.timer c.requires.at_work.fits.held c.requires.part covers c.requires.next

-- with what its handler left
pub write_fire-requires-clause-left : goal.write_fire-requires-clause-left
write_fire-requires-clause-left g c =
    subst (λ (k : CaseShape). IsLeftByHandler k c.args.held.now c.interval_of-interval.result c.args.found.now.name c.args.found.now.timer
    c.in_ok-effects.effects) c.case-case.ensures.case c.in_ok-effects.ensures.does

-- there was no memory for it
pub returns-in_err-effects-clause-asking : goal.returns-in_err-effects-clause-asking
returns-in_err-effects-clause-asking g c =
    let r = c.from_residual.result in
    let none : IfErr r (λ why. why ≡ faults.NoMemory) = search rules in
    err-then r (λ why is. memory-asking
    (MayAskFire c.args.book.now.case (worker_of c.args.held.now) c.args.found.now.name.part c.args.mark)
    why is) none
