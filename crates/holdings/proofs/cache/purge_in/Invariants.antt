use Rattle.std.proofs.Common.{◌≡◌, fold, map, drop}
use Rattle.std.specs.Prelude.{None}
use Rattle.book.specs.Claims.{named}
use Rattle.holdings.specs.Firsts.{earlier}
use Rattle.holdings.specs.Purges.{by_name, forgets, seen_name}
use Rattle.holdings.proofs.cache.purge_in.Given as goal

-- what is found and what is left lead to the same as all rows
abbrev pub invariant-loop-row : goal.invariant-loop-row
invariant-loop-row l = fold (earlier (forgets l.floor l.least) by_name) (seen_name l.best) (map named (drop l.row-index l.rows))
    ≡ fold (earlier (forgets l.floor l.least) by_name) None (map named l.rows)
