use Rattle.std.proofs.Common.{◌≡◌, fold}
use Rattle.holdings.specs.Firsts.{earlier}
use Rattle.holdings.specs.Purges.{by_name, forgets, seen_name}
use Rattle.holdings.specs.Slots.{AreWithin, placed}
use Rattle.holdings.proofs.slots.purge_places.Given as goal

-- what is found and what is left lead to the same as the first and all rows
abbrev pub invariant-loop-name : goal.invariant-loop-name
invariant-loop-name l = AreWithin l.rows l.name-iterator × (fold (earlier (forgets l.floor l.least) by_name) (seen_name l.best) (placed l.rows l.name-iterator)
    ≡ fold (earlier (forgets l.floor l.least) by_name) (seen_name l.first) (placed l.rows l.places.entries))
