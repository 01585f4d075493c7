-- What a row takes and fires in a history, and the windows that this makes of no window.
-- No clause of another crate cites this module. Own.
use Rattle.std.specs.Prelude.{◌≡◌, ℕ, pos, Bool, true, false, not, ◌==◌, if◌then◌else◌, List, [], ◌∷◌, ◌++◌, filter, fold, sum_by, Option, None, Some}
use Rattle.std.specs.BTreeMap.{is_at}
use Rattle.mw_types.specs.declared.state.Window.{Window}
use Rattle.mw_types.specs.declared.record.Production.{Production}
use Rattle.mw_types.specs.declared.identity.RowName.{RowName}
use Rattle.mw_types.specs.declared.delivery.Delivery.{Delivery}
use Rattle.mw_types.specs.declared.entry.Entry.{Entry}
use Rattle.mw_types.specs.declared.entry.Entry.TheVariants.{Handle, Fire}
use Rattle.mw_types.specs.Orders.{row_cmp}
use Rattle.topology.specs.Shapes.{Shape}
use Rattle.computations.specs.Handlers.{counted, window_end}
use Rattle.row_parts.specs.Contents.{found_delivery}
use Rattle.run_history.specs.Runs.{Run, followed, empty_run}

-- a row takes a record, by its timestamp and whether it is late, or fires the timer of a time
pub data Deed : Type 0 where
  took : ℕ → Bool → Deed
  fired : ℕ → Deed

-- the windows after one more deed
abbrev pub after_deed : ℕ → List Window → Deed → List Window
after_deed size windows (took stamp true) = windows
after_deed size windows (took stamp false) = counted windows (window_end size stamp)
after_deed size windows (fired time) = filter (λ (w : Window). not (w.end == time)) windows

-- the windows after some deeds
abbrev pub windows_after : ℕ → List Deed → List Window
windows_after size deeds = fold (after_deed size) [] deeds

-- how many records a deed takes into the window that ends there: one or none
abbrev pub takes_into : ℕ → ℕ → Deed → ℕ
takes_into size end (took stamp true) = 0
takes_into size end (took stamp false) = if window_end size stamp == end then 1 else 0
takes_into size end (fired time) = 0

-- how often a deed fires the timer of this time: once or not
abbrev pub fires_at : ℕ → Deed → ℕ
fires_at end (took stamp late) = 0
fires_at end (fired time) = if time == end then 1 else 0

-- how many records in time were taken into a window
abbrev pub taken_into : ℕ → ℕ → List Deed → ℕ
taken_into size end deeds = sum_by (takes_into size end) deeds

-- how often a time's timer fired
abbrev pub fired_at : ℕ → List Deed → ℕ
fired_at end deeds = sum_by (fires_at end) deeds

-- the window that is open there after these deeds, in whatever order they came
abbrev pub open_window : ℕ → ℕ → List Deed → Option Window
open_window size end deeds = if fired_at end deeds == 0
    then (if taken_into size end deeds == 0 then None
    else Some (record { end = end; count = taken_into size end deeds }))
    else None

-- nothing in time is taken into a window that fired: what comes after these deeds keeps that
abbrev pub IsTimely : ℕ → List Deed → Deed → Type 0
IsTimely size before (took stamp true) = Unit {0}
IsTimely size before (took stamp false) = fired_at (window_end size stamp) before ≡ 0
IsTimely size before (fired time) = Unit {0}

-- a delivery that is handled is taken
abbrev pub taken : Option Delivery → List Deed
taken None = []
taken (Some d) = took d.item.stamp d.item.late ∷ []

-- what an entry does on a row, by what waits before it
abbrev pub deeds_in : RowName → Run → Entry → List Deed
deeds_in name run (Handle seq row id effects) =
    if is_at (row_cmp name) row then taken (found_delivery id run.unhandled) else []
deeds_in name run (Fire seq row timer mark effects) =
    if is_at (row_cmp name) row then (if timer.tag == 0 then fired timer.time ∷ [] else []) else []
deeds_in name run _ = []

-- what stands after some entries, and what a row did in them
pub record Told : Type 0 where
  pub run : Run
  pub deeds : List Deed

-- with one more entry
abbrev pub told : Shape → RowName → Told → Entry → Told
told shape name s entry =
    record { run = followed shape s.run entry; deeds = s.deeds ++ deeds_in name s.run entry }

-- of a whole history
abbrev pub told_of : Shape → RowName → List Entry → Told
told_of shape name history = fold (told shape name) (record { run = empty_run; deeds = [] }) history

-- what a row did in a history
abbrev pub deeds_of : Shape → RowName → List Entry → List Deed
deeds_of shape name history = (told_of shape name history).deeds

-- what a window that closes produces
abbrev pub closing : List ℕ → Option Window → List Production
closing key None = []
closing key (Some w) = record { key = key; stamp = w.end; value = pos w.count } ∷ []
