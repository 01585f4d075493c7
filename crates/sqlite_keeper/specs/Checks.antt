-- Which rows of a database may be answered. No public clause cites this module.
use Rattle.std.specs.Prelude.{◌&&◌, Bool, true, List, [], ◌∷◌}
use Rattle.std.specs.List.{list_all}
use Rattle.std.specs.Ordering.{is_lt}
use Rattle.mw_types.specs.Orders.{row_cmp}
use Rattle.key_intervals.specs.Intervals.{covers}
use Rattle.key_intervals.specs.declared.bounds.Bounds.{Bounds}
use Rattle.row_keeper.specs.declared.keeper.KeptRow.{KeptRow}

-- whether each row is in the interval
abbrev pub are_within : Bounds → List KeptRow → Bool
are_within bounds rows = list_all (λ (row : KeptRow). covers bounds row.name) rows

-- whether a row is below the first of these
abbrev pub is_below_first : KeptRow → List KeptRow → Bool
is_below_first row [] = true
is_below_first row (next ∷ rows) = is_lt (row_cmp row.name next.name)

-- whether each row is below the one after it
abbrev pub do_ascend : List KeptRow → Bool
do_ascend [] = true
do_ascend (row ∷ rows) = is_below_first row rows && do_ascend rows
