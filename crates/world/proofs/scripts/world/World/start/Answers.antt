use Rattle.std.proofs.Common.{[], ap, ◌∙◌}
use Rattle.std.specs.Prelude.{replicate}
use Rattle.world.specs.scripts.WorldStates.{WorldState}
use Rattle.world.proofs.StartedWorlds.{IsIdle, draining-world, routed-folded}
use Rattle.world.proofs.scripts.world.World.start.Goals as goal

-- sixteen new workers over a book, and relays that hold nothing, are a world
pub invariant_of-result : goal.invariant_of-result
invariant_of-result g c =
    let state : WorldState = record {
      book = c.args.book;
      nodes = c.in-Ok.nodes.items;
      flight = c.new.result.items;
      left = c.new-in-Ok.result.items;
      relays = c.in-Ok.relays.items;
      routes = c.args.routes;
    } in
    let idle : IsIdle state = record {
      new = c.in-Ok.ensures.workers;
      none = c.new.ensures.items;
      none_left = c.new-in-Ok.ensures.items;
      forgot = c.in-Ok.ensures.relays ∙ ap (λ n. replicate n []) c.weaks.ensures.weaks;
    } in (
      draining-world c.args.book state idle (routed-folded c.args.book.case.topology c.args.routes c.requires.folding),
      c.requires.work,
    )
