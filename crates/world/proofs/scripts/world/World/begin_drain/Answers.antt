use Rattle.std.proofs.Common.{◌≡◌, ◌++◌, [], List, ap, arith, drop, length, rules, subst, sym, take, ℕ, ◌∙◌}
use Rattle.std.specs.Prelude.{Some, replicate, slice_get}
use Rattle.node.specs.Workers.{NodeView}
use Rattle.world.specs.scripts.Worlds.{world_on}
use Rattle.world.specs.scripts.WorldStates.{WorldState, state_in, world_of}
use Rattle.world.proofs.StartedWorlds.{IsIdle, crashed-whole, drained-world, draining-world}
use Rattle.world.proofs.scripts.world.World.begin_drain.Goals as goal

-- there are sixteen workers
pub crash_all-requires-clause-all : goal.crash_all-requires-clause-all
crash_all-requires-clause-all g c = ap (λ (ns : List NodeView). length ns) c.deref_mut.ensures.value ∙ c.self.invariant.0.sixteen

-- by their numbers
pub crash_all-requires-clause-numbered : goal.crash_all-requires-clause-numbered
crash_all-requires-clause-numbered g c =
    subst (λ (ns : List NodeView). (number : ℕ) (node : NodeView) → slice_get ns number ≡ Some node → node.number ≡ number)
    (sym c.deref_mut.ensures.value) c.self.invariant.0.numbered

-- once they have crashed they stand in a world
pub invariant_of-self : goal.invariant_of-self
invariant_of-self g c =
    let was = c.self.inside.nodes in
    let state : WorldState = record (state_in c.self.inside) {
      nodes = take was.len (c.crash_all.new.nodes ++ drop (length c.crash_all.new.nodes) was.items);
      flight = c.clear.new.self.items;
      left = c.clear-2.new.self.items;
      relays = c.forget_all.new.relays.items;
    } in
    let sixteen = c.self.invariant.0.sixteen in
    let idle : IsIdle state = record {
      new = crashed-whole was.len c.crash_all.new.nodes (drop (length c.crash_all.new.nodes) was.items) (omega (arith, sixteen, was.ok.0))
          c.crash_all.ensures.new;
      none = search rules;
      none_left = search rules;
      forgot = c.forget_all.ensures ∙ ap (λ n. replicate n []) c.self.invariant.0.relays;
    } in
    (draining-world c.self.inside.book state idle c.self.invariant.0.routed, c.self.invariant.1)

-- in which they have nothing
pub returns-clause-begun : goal.returns-clause-begun
returns-clause-begun g c =
    let was = c.self.inside.nodes in
    let state : WorldState = record (state_in c.self.inside) {
      nodes = take was.len (c.crash_all.new.nodes ++ drop (length c.crash_all.new.nodes) was.items);
      flight = c.clear.new.self.items;
      left = c.clear-2.new.self.items;
      relays = c.forget_all.new.relays.items;
    } in
    let sixteen = c.self.invariant.0.sixteen in
    let idle : IsIdle state = record {
      new = crashed-whole was.len c.crash_all.new.nodes (drop (length c.crash_all.new.nodes) was.items) (omega (arith, sixteen, was.ok.0))
          c.crash_all.ensures.new;
      none = search rules;
      none_left = search rules;
      forgot = c.forget_all.ensures ∙ ap (λ n. replicate n []) c.self.invariant.0.relays;
    } in
    subst (λ (s : WorldState). world_of state ≡ world_on s.routes s.book.history s.book.marks) c.self.view_is
    (drained-world c.self.inside.book state idle)

-- and the drain is under way
pub returns-clause-drain : goal.returns-clause-drain
returns-clause-drain g c =
    let was = c.self.inside.nodes in
    let sixteen = c.self.invariant.0.sixteen in record {
      under_way = c.begin_drain.ensures.under_way;
      idle = crashed-whole was.len c.crash_all.new.nodes (drop (length c.crash_all.new.nodes) was.items) (omega (arith, sixteen, was.ok.0))
          c.crash_all.ensures.new;
      none = search rules;
      none_left = search rules;
      forgot = c.forget_all.ensures ∙ ap (λ n. replicate n []) c.self.invariant.0.relays;
    }
