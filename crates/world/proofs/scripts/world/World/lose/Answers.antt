use Rattle.std.proofs.Common.{refl, subst}
use Rattle.list_lemmas.proofs.Told.{if-there}
use Rattle.node.specs.Workers.{idle}
use Rattle.plans.specs.declared.step.Step.TheVariants as steps
use Rattle.world.specs.scripts.Stepping.{HasActed}
use Rattle.world.specs.scripts.WorldStates.{WorldState, state_in, world_of}
use Rattle.world.proofs.scripts.world.World.lose.Goals as goal

-- a message is lost as in the script
pub returns-clause-acted : goal.returns-clause-acted
returns-clause-acted g c =
    let state : WorldState = state_in c.self.inside in
    let new : WorldState = record state { flight = c.lose.new.flight.items } in
    subst (λ (s : WorldState). HasActed (steps.Lose c.args.message) s new c.lose.result) c.self.view_is
    (if-there state.book.rows (λ told. c.lose.ensures.acted state.book.case (world_of state) refl))

-- its answer names no number that wants a cause
pub returns-clause-cause : goal.returns-clause-cause
returns-clause-cause g c = c.lose.ensures.cause idle _ _
