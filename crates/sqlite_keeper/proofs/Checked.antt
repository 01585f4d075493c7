-- What the test of an answer shows.
use Rattle.std.proofs.Common.{◌≡◌, ◌∷◌, [], List, true, map}
use Rattle.std.specs.List.{All, AllByRecursion}
use Rattle.std.specs.List.Sorted.{IsStrictlySortedBy}
use Rattle.std.specs.Map.{keys_of}
use Rattle.std.specs.declared.cmp.Ordering.TheVariants.{Less}
use Rattle.std.proofs.lemmas.List.Elements.{All-from_recursion}
use Rattle.list_lemmas.proofs.Tests.{both_true, less_from_test}
use Rattle.mw_types.proofs.OrderLaws.{row_cmp-total}
use Rattle.mw_types.specs.Orders.{row_cmp}
use Rattle.mw_types.specs.declared.identity.RowName.{RowName}
use Rattle.key_intervals.specs.declared.bounds.Bounds.{Bounds}
use Rattle.key_intervals.specs.Intervals.{covers}
use Rattle.row_keeper.specs.Rows.{AreInOrder, entry_of}
use Rattle.row_keeper.specs.declared.keeper.KeptRow.{KeptRow}
use Rattle.sqlite_keeper.specs.Checks.{are_within, do_ascend, is_below_first}

each_within : (b : Bounds) (rows : List KeptRow) → are_within b rows ≡ true
    → AllByRecursion (λ (row : KeptRow). covers b row.name ≡ true) rows
each_within b [] e = tt
each_within b (row ∷ rows) e =
    let parts = both_true (covers b row.name) (are_within b rows) e in
    (parts.0, each_within b rows parts.1)

-- rows that pass the test of the interval lie in it
pub within_covered : (b : Bounds) (rows : List KeptRow) → are_within b rows ≡ true
    → All (λ (row : KeptRow). covers b row.name ≡ true) rows
within_covered b rows e = All-from_recursion (λ (row : KeptRow). covers b row.name ≡ true) rows (each_within b rows e)

-- what is below a row is below those that are above that row
below_those : (low high : RowName) (names : List RowName) → row_cmp low high ≡ Less
    → AllByRecursion (λ name. row_cmp high name ≡ Less) names → AllByRecursion (λ name. row_cmp low name ≡ Less) names
below_those low high [] less above = tt
below_those low high (name ∷ names) less above =
    (row_cmp-total.trans low high name less above.0, below_those low high names less above.1)

-- a row before others that ascend, of which the first is above it
before_ascending : (row : KeptRow) (rows : List KeptRow) → is_below_first row rows ≡ true
    → AreInOrder (map entry_of rows) → AreInOrder (map entry_of (row ∷ rows))
unfolding IsStrictlySortedBy
before_ascending row [] below o = (tt, tt)
before_ascending row (next ∷ rows) below o =
    let less = less_from_test (row_cmp row.name next.name) below in
    ((less, below_those row.name next.name (keys_of (map entry_of rows)) less o.0), o)

-- rows that pass the test of their order stand in order
pub ascending_in_order : (rows : List KeptRow) → do_ascend rows ≡ true → AreInOrder (map entry_of rows)
unfolding IsStrictlySortedBy
ascending_in_order [] e = tt
ascending_in_order (row ∷ rows) e =
    let parts = both_true (is_below_first row rows) (do_ascend rows) e in
    before_ascending row rows parts.0 (ascending_in_order rows parts.1)
