-- What is lent of the rows that are cached. No public clause cites this module.
use Rattle.std.specs.Prelude.{List}
use Rattle.std.specs.Borrow.{Lends, MutBor, Fml}
use Rattle.std.specs.BTreeMap.{insert_entry}
use Rattle.mw_types.specs.Orders.{row_cmp}
use Rattle.mw_types.specs.declared.identity.RowName.{RowName}
use Rattle.row_parts.specs.Contents.{Contents}
use Rattle.row_parts.specs.contracts.row.Row.{the_row as row}
use Rattle.holdings.specs.contracts.slots.Slots.{the_row as slots}
use Rattle.holdings.specs.contracts.cache.Cache.{the_row as cache}
use Rattle.holdings.specs.contracts.indexed.Indexed.{the_row as indexed}

-- the slots end with the row that was last written under its name
abbrev pub LendsSlot : MutBor (List (RowName × Contents)) → RowName → MutBor Contents → Fml
LendsSlot rows name lent = Lends slots row rows lent (insert_entry row_cmp rows.now name)

-- and so do the rows of a cache
abbrev pub LendsCached : MutBor (List (RowName × Contents)) → RowName → MutBor Contents → Fml
LendsCached rows name lent = Lends cache row rows lent (insert_entry row_cmp rows.now name)

-- and those that have an index
abbrev pub LendsIndexed : MutBor (List (RowName × Contents)) → RowName → MutBor Contents → Fml
LendsIndexed rows name lent = Lends indexed row rows lent (insert_entry row_cmp rows.now name)
