use Rattle.std.proofs.Common.{map}
use Rattle.row_keeper.specs.Rows.{entry_of}
use Rattle.row_keeper.proofs.Within.{IsRest}
use Rattle.row_keeper.proofs.mem_keeper.found_within.Given as goal

-- what is found and what the interval has of the rows left are what it has of all rows
abbrev pub invariant-loop-name : goal.invariant-loop-name
invariant-loop-name l = IsRest l.bounds (map entry_of l.found) l.name-iterator l.rows.entries
