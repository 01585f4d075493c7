-- Which timer is the first of the rows of an interval.
-- Akidau et al., VLDB 2013, section 4.6: timers fire in the order of their times. Own: those of one time go
-- by tag, and those that tie by the names of their rows.
use Rattle.std.specs.Prelude.{List, Option, slice_get}
use Rattle.std.specs.Option.{option_map}
use Rattle.std.specs.Ordering.{ordering_then}
use Rattle.std.specs.declared.cmp.Ordering.{Ordering}
use Rattle.mw_types.specs.Orders.{row_cmp, timer_cmp}
use Rattle.mw_types.specs.declared.identity.RowName.{RowName}
use Rattle.mw_types.specs.declared.timer.Timer.{Timer}
use Rattle.row_parts.specs.Contents.{Contents}
use Rattle.holdings.specs.Firsts.{IsFirstOf}
use Rattle.holdings.specs.declared.first_timer.RowTimer.{RowTimer}

-- timers of rows stand by time, then by tag, then by the names of the rows
abbrev pub due_cmp : RowName × Timer → RowName × Timer → Ordering
due_cmp a b = ordering_then (timer_cmp a.1 b.1) (row_cmp a.0 b.0)

-- the first timer of a row, or none where it has none
abbrev pub timer_of : Contents → Option Timer
timer_of row = slice_get row.timers 0

-- a timer and the name of its row
abbrev pub pair_of : RowTimer → RowName × Timer
pair_of found = (found.name, found.timer)

-- the first timer of rows, or none where no row has one
abbrev pub IsFirstTimer : List (RowName × Contents) → Option RowTimer → Type 0
IsFirstTimer rows found = IsFirstOf timer_of due_cmp rows (option_map pair_of found)
