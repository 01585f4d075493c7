use Rattle.mw_types.specs.Orders.{row_cmp}
use Rattle.holdings.specs.Dues.{due_of, due_order}
use Rattle.holdings.specs.Indexes.{AreLeft}
use Rattle.holdings.specs.Keyed.{AreKeysLeft}
use Rattle.holdings.specs.Seens.{seen_of}
use Rattle.holdings.specs.Slots.{AreWithin, placed}
use Rattle.holdings.proofs.slots.index_places.Given as goal

-- what is kept and what is left are together what is owed
abbrev pub invariant-loop-name : goal.invariant-loop-name
invariant-loop-name l = AreWithin l.rows l.name-iterator × AreLeft (placed l.rows l.name-iterator) (placed l.rows l.places.entries) l.index.work l.fn.index.work
    × AreKeysLeft due_order due_of (placed l.rows l.name-iterator) (placed l.rows l.places.entries) l.index.dues.entries l.fn.index.dues.entries
    × AreKeysLeft row_cmp seen_of (placed l.rows l.name-iterator) (placed l.rows l.places.entries) l.index.seen.entries l.fn.index.seen.entries
