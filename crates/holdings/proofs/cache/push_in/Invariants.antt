use Rattle.std.proofs.Common.{◌≡◌, ◌++◌, map, drop}
use Rattle.std.specs.List.{flat_map}
use Rattle.book.specs.Claims.{named}
use Rattle.holdings.specs.Pendings.{sent_in}
use Rattle.holdings.proofs.cache.push_in.Given as goal

-- what is there and what is left are together what is owed
abbrev pub invariant-loop-row : goal.invariant-loop-row
invariant-loop-row l = l.sent ++ flat_map sent_in (map named (drop l.row-index l.rows)) ≡ l.fn.sent ++ flat_map sent_in (map named l.rows)
