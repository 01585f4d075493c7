use Rattle.std.proofs.Common.{◌≡◌, ◌∙◌, [], ap, rules, sym}
use Rattle.std.specs.Prelude.{replicate}
use Rattle.topology.specs.Shapes.{parts_of}
use Rattle.run_history.specs.Cases.{CaseShape}
use Rattle.world.specs.scripts.WorldStates.{WorldState, state_in}
use Rattle.world.proofs.StartedWorlds.{IsIdle, draining-world}
use Rattle.world.proofs.scripts.world.World.drain.Goals as goal

-- the new workers over the book that was drained are a world
pub invariant_of-self : goal.invariant_of-self
invariant_of-self g c =
    let state : WorldState = record (state_in c.self.inside) {
      nodes = c.in_ok-nodes.nodes.items;
      flight = c.new.result.items;
      left = c.new-2.result.items;
      relays = c.forget_all.new.relays.items;
    } in
    let idle : IsIdle state = record {
      new = c.in_ok-nodes.ensures;
      none = c.new.ensures.items;
      none_left = c.new-2.ensures.items;
      forgot = c.forget_all.ensures ∙ ap (λ n. replicate n []) c.self.invariant.0.relays;
    } in
    let same : c.drain.new.book.case ≡ c.self.inside.book.case = search rules in (
      draining-world c.drain.new.book state idle
          (c.self.invariant.0.routed ∙ ap (λ (k : CaseShape). parts_of k.topology) (sym same)),
      search rules,
    )
