use Rattle.std.proofs.Common.{◌≡◌, ◌++◌, map}
use Rattle.row_keeper.specs.Rows.{entry_of}
use Rattle.row_keeper.proofs.mem_keeper.MemKeeper.rows.Given as goal

-- what is found and what is left are together the rows
abbrev pub invariant-loop-name : goal.invariant-loop-name
invariant-loop-name l = map entry_of l.found ++ l.name-iterator ≡ l.self.rows
