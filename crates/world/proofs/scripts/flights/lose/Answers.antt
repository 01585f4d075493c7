use Rattle.std.proofs.Common.{◌≡◌, subst, sym, rules}
use Rattle.std.specs.Prelude.{None, slice_get, unwrap_or}
use Rattle.node.specs.declared.outcome.Outcome.TheVariants as outcomes
use Rattle.plans.specs.declared.step.Step.TheVariants as steps
use Rattle.world.specs.scripts.Standing.{AreOnWay}
use Rattle.world.specs.scripts.WorkerCalls.{FliesOn}
use Rattle.world.specs.scripts.WorldStates.{flight_of}
use Rattle.world.proofs.scripts.FlightLaws.{flight-gone, flying-gone, lose-gone, lose-not}
use Rattle.world.proofs.scripts.OnWays.{on_way-gone}
use Rattle.world.proofs.scripts.flights.lose.Goals as goal

-- no message is there
pub returns-then-is_none-clause-acted : goal.returns-then-is_none-clause-acted
returns-then-is_none-clause-acted c =
    let at : unwrap_or (slice_get c.args.flight.now.items c.args.message) None ≡ None = search rules in
    lose-not c.args.message c.args.flight.now.items at

-- a message is lost
pub returns-clause-acted : goal.returns-clause-acted
returns-clause-acted c =
    subst (λ f. FliesOn (steps.Lose c.args.message) (flight_of c.args.flight.now.items) (flight_of f) outcomes.Lost)
    (sym c.take_out.ensures.gone) (lose-gone c.args.message c.args.flight.now.items c.take_out.result c.take_out.ensures.taken)

-- what is left has as far to go as before
pub returns-clause-on_way : goal.returns-clause-on_way
returns-clause-on_way c = λ routes left on.
    let flight = c.args.flight.now.items in
    subst (λ f. AreOnWay routes (flight_of f) left) (sym c.take_out.ensures.gone)
    (subst (λ f. AreOnWay routes f left) (sym (flight-gone flight c.args.message))
    (on_way-gone routes (flight_of flight) left c.args.message on))

-- what is left may have been sent
pub returns-clause-flying : goal.returns-clause-flying
returns-clause-flying c = λ book each.
    let left = flying-gone book c.args.flight.now.items c.args.message each in
    rw c.take_out.ensures.gone left
