use Rattle.std.proofs.Common.{◌≡◌, ◌∙◌, ap, subst, sym}
use Rattle.topology.specs.Shapes.{parts_of}
use Rattle.run_history.specs.Cases.{CaseShape}
use Rattle.world.specs.drains.DrainTurns.{IsUnderWay}
use Rattle.world.specs.WorldDrains.{HasDrain}
use Rattle.world.specs.scripts.WorldStates.{WorldState, state_in}
use Rattle.world.proofs.StartedWorlds.{drain-on, drained-world, draining-world, idle-drain, ok-left, turned-case}
use Rattle.world.proofs.scripts.WorldSteps.{work-moved}
use Rattle.world.proofs.scripts.world.World.drain_turn.Goals as goal

-- the drain of the book is under way
pub drain_turn-requires-clause-under_way : goal.drain_turn-requires-clause-under_way
drain_turn-requires-clause-under_way g c =
    subst (λ (s : WorldState). IsUnderWay s.book c.args.drain.now) (sym c.self.view_is) c.requires.drain.under_way

-- its workers stand in a world over the book that is left
pub invariant_of-self : goal.invariant_of-self
invariant_of-self g c =
    let state : WorldState = state_in c.self.inside in
    let has : HasDrain state c.args.drain.now = subst (λ (s : WorldState). HasDrain s c.args.drain.now) (sym c.self.view_is) c.requires.drain in
    let same : c.drain_turn.new.book.case ≡ state.book.case =
    turned-case c.drain_turn.result c.args.drain.now.from state.book c.drain_turn.new.book c.drain_turn.ensures.drained
    c.drain_turn.ensures.failed in (
      draining-world c.drain_turn.new.book state (idle-drain state c.args.drain.now has)
          (c.self.invariant.0.routed ∙ ap (λ (k : CaseShape). parts_of k.topology) (sym same)),
      work-moved state.book.case c.drain_turn.new.book.case same c.self.invariant.1,
    )

-- the drain of the world is under way
pub returns-clause-drain : goal.returns-clause-drain
returns-clause-drain g c =
    let state : WorldState = state_in c.self.inside in
    let has : HasDrain state c.args.drain.now = subst (λ (s : WorldState). HasDrain s c.args.drain.now) (sym c.self.view_is) c.requires.drain in
    ok-left c.drain_turn.result (λ under. drain-on state c.drain_turn.new.book c.args.drain.now c.drain_turn.new.drain has under)
    c.drain_turn.ensures.under_way

-- its workers have nothing
pub returns-clause-begun : goal.returns-clause-begun
returns-clause-begun g c =
    let state : WorldState = state_in c.self.inside in
    let has : HasDrain state c.args.drain.now = subst (λ (s : WorldState). HasDrain s c.args.drain.now) (sym c.self.view_is) c.requires.drain in
    drained-world c.drain_turn.new.book state (idle-drain state c.args.drain.now has)
