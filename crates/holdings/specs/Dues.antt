-- The first timers of rows, in the order in which they are due. No public clause cites this module.
use Rattle.std.specs.Bool.{beq}
use Rattle.std.specs.Prelude.{Bool, true, false, ◌&&◌, ◌==◌, List, Option, Some, None}
use Rattle.std.specs.Option.{option_map}
use Rattle.std.specs.Ordering.{bool_cmp, nat_cmp, ordering_then}
use Rattle.std.specs.declared.cmp.Ordering.{Ordering}
use Rattle.mw_types.specs.Orders.{row_cmp}
use Rattle.mw_types.specs.declared.identity.RowName.{RowName}
use Rattle.mw_types.specs.declared.timer.Timer.{Timer}
use Rattle.row_parts.specs.Contents.{Contents}
use Rattle.holdings.specs.Keyed.{AreKeys}
use Rattle.holdings.specs.Timers.{timer_of}
use Rattle.holdings.specs.declared.due.Due.{Due}
use Rattle.holdings.specs.declared.first_timer.RowTimer.{RowTimer}

-- a timer of a row of this name
abbrev pub due_at : RowName → Timer → Due
due_at name timer =
    record { at = record { time = timer.time; tag = timer.tag }; name = name; late = timer.late }

-- timers of rows stand by time, then by tag, then by the names of the rows, and last by whether they are late
abbrev pub due_order : Due → Due → Ordering
due_order a b =
    ordering_then (ordering_then (nat_cmp a.at.time b.at.time) (nat_cmp a.at.tag b.at.tag))
    (ordering_then (row_cmp a.name b.name) (bool_cmp a.late b.late))

-- the name of the row that has a timer
abbrev pub due_name : Due → RowName
due_name due = due.name

-- a timer, with the name of the row that has it
abbrev pub timer_at : Due → RowTimer
timer_at due =
    record { name = due.name; timer = record { tag = due.at.tag; time = due.at.time; late = due.late } }

-- the first timer of a row of this name, if it has one
abbrev pub due_of : RowName → Contents → Option Due
due_of name row = option_map (due_at name) (timer_of row)

-- whether two timers of one row are the same, or neither is there
abbrev pub is_same_due : Option Timer → Option Timer → Bool
is_same_due None None = true
is_same_due (Some a) (Some b) = ((a.time == b.time) && (a.tag == b.tag)) && beq a.late b.late
is_same_due _ _ = false

-- these are the first timers of the rows
abbrev pub AreDues : List (RowName × Contents) → List (Due × Unit {0}) → Type 0
AreDues = AreKeys due_order due_name due_of
