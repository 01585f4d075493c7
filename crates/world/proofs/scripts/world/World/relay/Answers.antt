use Rattle.std.proofs.Common.{refl, subst}
use Rattle.std.specs.Prelude.{IfOk}
use Rattle.list_lemmas.proofs.Told.{if-there}
use Rattle.plans.specs.declared.step.Step.TheVariants as steps
use Rattle.world.specs.scripts.Stepping.{HasActed}
use Rattle.world.specs.scripts.WorldStates.{WorldState, state_in, world_of}
use Rattle.world.proofs.Results.{ok-then}
use Rattle.world.proofs.scripts.RelayLaws.{relayed-world}
use Rattle.world.proofs.scripts.world.World.relay.Goals as goal

-- the world stands
pub invariant_of-self : goal.invariant_of-self
invariant_of-self g c =
    let state : WorldState = state_in c.self.inside in (
      relayed-world state c.args.number c.args.message c.relay.new.flight.items c.relay.new.left.items c.relay.new.relays.items
          c.relay.result c.self.invariant.0 c.relay.ensures.acted c.relay.ensures.flight c.relay.ensures.left c.relay.ensures.relays,
      c.self.invariant.1,
    )

-- the message comes to the relay as in the script
pub returns-clause-acted : goal.returns-clause-acted
returns-clause-acted g c =
    let state : WorldState = state_in c.self.inside in
    let new : WorldState = record state {
      flight = c.relay.new.flight.items;
      left = c.relay.new.left.items;
      relays = c.relay.new.relays.items;
    } in
    subst (λ (s : WorldState). IfOk c.relay.result (HasActed (steps.Relay c.args.number c.args.message) s new)) c.self.view_is
    (ok-then c.relay.result (λ outcome relayed. if-there state.book.rows (λ told. relayed state.book.case (world_of state)
    (record { routes = refl; flight = refl; left = refl; relays = refl }))) c.relay.ensures.acted)
