-- What stands after a history: one thread's run of its entries, one key's context at a time, each record
-- once.
-- Akidau et al., VLDB 2013, sections 4.4, 4.6 and 6.1, for state, timers and what is checkpointed with them.
-- Own: a row has a floor, below which each id is finished, and rows stand in the order of their names.
use Rattle.std.specs.Prelude.{ℕ, ◌+◌, nat_lt, if◌then◌else◌, List, [], ◌++◌, fold, Option, unwrap_or}
use Rattle.std.specs.Option.{option_map_or}
use Rattle.std.specs.Map.{lookup}
use Rattle.std.specs.BTreeMap.{insert_entry, is_at}
use Rattle.mw_types.specs.declared.identity.RecordId.{RecordId}
use Rattle.mw_types.specs.declared.identity.RowName.{RowName}
use Rattle.mw_types.specs.declared.state.State.{State}
use Rattle.mw_types.specs.declared.state.State.TheVariants as states
use Rattle.mw_types.specs.declared.timer.Timer.{Timer}
use Rattle.mw_types.specs.declared.delivery.Delivery.{Delivery}
use Rattle.mw_types.specs.declared.delivery.Emission.{Emission}
use Rattle.mw_types.specs.declared.entry.Entry.{Entry}
use Rattle.mw_types.specs.declared.entry.Entry.TheVariants.{Claim, Inject, Handle, Fire, Ack, Purge}
use Rattle.mw_types.specs.Orders.{row_cmp}
use Rattle.mw_types.specs.Outcomes.{EffectsView}
use Rattle.topology.specs.Shapes.{Shape}
use Rattle.row_parts.specs.Contents.{Contents, fresh, with_timer, without_timer, with_id, without_delivery, ids_from}
use Rattle.run_history.specs.Cases.{fresh_of}
use Rattle.run_history.specs.Made.{row_written, deliveries_of, emissions_of}

-- what stands after some entries: the next commit number, the rows that an entry is on, in order of their
-- names, all deliveries that were made, those of them that wait to be handled, and what was emitted
pub record Run : Type 0 where
  pub next : ℕ
  pub rows : List (RowName × Contents)
  pub made : List Delivery
  pub unhandled : List Delivery
  pub emissions : List Emission

-- before any entry
abbrev pub empty_run : Run
empty_run = record { next = 0; rows = []; made = []; unhandled = []; emissions = [] }

-- a run of which only some rows are known
abbrev pub cached : List (RowName × Contents) → Run
cached rows = record empty_run { rows = rows }

-- a row that an entry is on
abbrev pub row_in : Run → RowName → Option Contents
row_in run name = lookup (is_at (row_cmp name)) run.rows

-- a row, which is fresh where no entry is on it
abbrev pub row_of : Shape → Run → RowName → Contents
row_of shape run name = unwrap_or (row_in run name) (fresh (fresh_of shape name.part))

-- an injector's state after one more line
abbrev pub advanced : State → State
advanced (states.Injector cursor) = states.Injector (cursor + 1)
advanced state = state

-- the timers once these are set too, one after another
abbrev pub with_timers : List Timer → List Timer → List Timer
with_timers set timers = fold (λ ts t. with_timer t ts) timers set

-- the handled ids with one more, unless that is below the floor
abbrev pub noted : RecordId → Contents → List RecordId
noted id row = if nat_lt id.commit row.floor then row.seen else with_id id row.seen

-- a row after a handled record: its handler's state and timers, what was made, and the record's id
abbrev pub handled_in : RecordId → EffectsView → List Delivery → Contents → Contents
handled_in id effects sent row = record row {
  state = effects.state;
  timers = with_timers effects.timers row.timers;
  pending = row.pending ++ sent;
  seen = noted id row;
}

-- a row after a fired timer: its handler's state, without the timer, and with what was made
abbrev pub fired_in : Timer → EffectsView → List Delivery → Contents → Contents
fired_in timer effects sent row = record row {
  state = effects.state;
  timers = without_timer timer.tag timer.time row.timers;
  pending = row.pending ++ sent;
}

-- what an entry that made these deliveries changes in its row, but for the row's last number
abbrev pub changed : Entry → List Delivery → Contents → Contents
changed (Claim worker interval) sent row = row
changed (Inject seq part line item) sent row =
    record row { state = advanced row.state; pending = row.pending ++ sent }
changed (Handle seq name id effects) sent row = handled_in id effects sent row
changed (Fire seq name timer mark effects) sent row = fired_in timer effects sent row
changed (Ack seq name id) sent row = record row { pending = without_delivery id row.pending }
changed (Purge seq name floor) sent row = record row { floor = floor; seen = ids_from floor row.seen }

-- the row that an entry of this number leaves, where it made these deliveries; it names the entry as its last
abbrev pub written_row : ℕ → Entry → List Delivery → Contents → Contents
written_row commit entry sent row = record (changed entry sent row) { last = commit }

-- the row of this name that the next entry leaves
abbrev pub row_after : Shape → Run → Entry → List Delivery → RowName → Contents
row_after shape run entry sent name = written_row run.next entry sent (row_of shape run name)

-- the rows after an entry: the one that it is on is changed
abbrev pub rows_after : Shape → Run → Entry → List Delivery → List (RowName × Contents)
rows_after shape run entry sent = option_map_or
    (λ (name : RowName). insert_entry row_cmp run.rows name (row_after shape run entry sent name))
    (row_written entry) run.rows

-- the deliveries that still wait: a handler takes its own
abbrev pub still_unhandled : Entry → List Delivery → List Delivery
still_unhandled (Claim worker interval) waiting = waiting
still_unhandled (Inject seq part line item) waiting = waiting
still_unhandled (Handle seq row id effects) waiting = without_delivery id waiting
still_unhandled (Fire seq row timer mark effects) waiting = waiting
still_unhandled (Ack seq row id) waiting = waiting
still_unhandled (Purge seq row floor) waiting = waiting

-- what stands after one more entry
abbrev pub followed : Shape → Run → Entry → Run
followed shape run entry =
    let sent = deliveries_of shape run.made run.next entry in record {
      next = run.next + 1;
      rows = rows_after shape run entry sent;
      made = run.made ++ sent;
      unhandled = still_unhandled entry run.unhandled ++ sent;
      emissions = run.emissions ++ emissions_of shape run.made run.next entry;
    }

-- what stands after a history
abbrev pub run_of : Shape → List Entry → Run
run_of shape history = fold (followed shape) empty_run history
