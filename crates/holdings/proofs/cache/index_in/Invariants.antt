use Rattle.std.proofs.Common.{map, drop}
use Rattle.mw_types.specs.Orders.{row_cmp}
use Rattle.book.specs.Claims.{named}
use Rattle.holdings.specs.Dues.{due_of, due_order}
use Rattle.holdings.specs.Indexes.{AreLeft}
use Rattle.holdings.specs.Keyed.{AreKeysLeft}
use Rattle.holdings.specs.Seens.{seen_of}
use Rattle.holdings.proofs.cache.index_in.Given as goal

-- what is kept and what is left are together what is owed
abbrev pub invariant-loop-row : goal.invariant-loop-row
invariant-loop-row l = AreLeft (map named (drop l.row-index l.rows)) (map named l.rows) l.index.work l.fn.index.work
    × AreKeysLeft due_order due_of (map named (drop l.row-index l.rows)) (map named l.rows) l.index.dues.entries l.fn.index.dues.entries
    × AreKeysLeft row_cmp seen_of (map named (drop l.row-index l.rows)) (map named l.rows) l.index.seen.entries l.fn.index.seen.entries
