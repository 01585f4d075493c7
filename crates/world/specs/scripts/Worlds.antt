-- The scripted world: a history with its marks, sixteen workers, and the messages between them.
-- Akidau et al., VLDB 2013, section 6.1 for what a worker sends and takes, section 6.2 for sequencers.
-- Own: a message has a number, and a worker has no cache: it knows of an interval what stood in the history
-- before its lease was overtaken. A weak computation is a relay: messages pass it on their way, and it holds
-- the ids of records that passed.
use Rattle.std.specs.Prelude.{ℕ, ◌-◌, ◌==◌, ◌&&◌, nat_lt, Bool, false, List, [], length, replicate, slice_get, unwrap_or, Option, None}
use Rattle.std.specs.Option.{option_and_then, option_map, option_map_or}
use Rattle.std.specs.List.{flat_map, range_with_len}
use Rattle.mw_types.specs.declared.entry.Entry.{Entry}
use Rattle.mw_types.specs.declared.identity.RecordId.{RecordId}
use Rattle.mw_types.specs.declared.identity.RowName.{RowName}
use Rattle.key_intervals.specs.Intervals.{rows_covered}
use Rattle.key_intervals.specs.declared.bounds.Bounds.{Bounds}
use Rattle.topology.specs.Folding.{RoutesView, route_in}
use Rattle.topology.specs.Shapes.{Shape}
use Rattle.row_parts.specs.Contents.{Contents}
use Rattle.run_history.specs.Cases.{intervals_of}
use Rattle.run_history.specs.Fences.{interval_of, known, last_claim}
use Rattle.run_history.specs.Runs.{Run, row_of, run_of}
use Rattle.book.specs.Books.{LeaseView}
use Rattle.node.specs.Workers.{Worker, idle, where_passes}
use Rattle.outbox.specs.declared.outgoing.Outgoing.{Outgoing}
use Rattle.outbox.specs.declared.outgoing.Outgoing.TheVariants as outgoing

-- the history, a mark for each interval, the workers, and a place for each message that was sent or copied,
-- by its number: the message while it is in flight, and nothing once it is gone. Beside each place stands how
-- many relays the message has still to pass. And what each relay holds, and the routes of records
pub record World : Type 0 where
  pub history : List Entry
  pub marks : List ℕ
  pub workers : List Worker
  pub flight : List (Option Outgoing)
  pub left : List ℕ
  pub relays : List (List RecordId)
  pub routes : RoutesView

-- the world before any step, on a history and its marks
abbrev pub world_on : RoutesView → List Entry → List ℕ → World
world_on routes history marks = record {
  history = history;
  marks = marks;
  workers = replicate 16 idle;
  flight = [];
  left = [];
  relays = replicate routes.weaks [];
  routes = routes;
}

-- the world before any step, where nothing was written yet
abbrev pub empty_world : RoutesView → Shape → World
empty_world routes shape = world_on routes [] (replicate (length (intervals_of shape)) 0)

-- ---- what is there

-- a worker, by its number
abbrev pub worker_of : World → ℕ → Worker
worker_of world number = unwrap_or (slice_get world.workers number) idle

-- a message that is in flight, by its number
abbrev pub in_flight : List (Option Outgoing) → ℕ → Option Outgoing
in_flight flight message = unwrap_or (slice_get flight message) None

-- how many relays a message has still to pass, by its number
abbrev pub to_pass : World → ℕ → ℕ
to_pass world message = unwrap_or (slice_get world.left message) 0

-- what a relay holds, by its number
abbrev pub held_by : World → ℕ → List RecordId
held_by world relay = unwrap_or (slice_get world.relays relay) []

-- the relays on the route of a message's record, from its producer on
abbrev pub relays_on : RoutesView → Outgoing → List ℕ
relays_on routes (outgoing.Deliver delivery sender) = route_in routes sender.part delivery.id.index
relays_on routes (outgoing.Ack to id) = route_in routes to.part id.index

-- the place on the way of the relay that comes next, where so many are left: a record goes on from its
-- producer, and word of it goes back
abbrev pub next_place : List ℕ → Outgoing → ℕ → ℕ
next_place way (outgoing.Deliver delivery sender) left = length way - left
next_place way (outgoing.Ack to id) left = left - 1

-- whether a relay is the next on the way of a message that has so many to pass
abbrev pub is_next : ℕ → List ℕ → Outgoing → ℕ → Bool
is_next relay way message left = nat_lt 0 left
    && option_map_or (λ (next : ℕ). next == relay) (slice_get way (next_place way message left)) false

-- the lease that a worker has of an interval
abbrev pub lease_of : Worker → ℕ → Option LeaseView
lease_of worker interval =
    option_map (λ (seq : ℕ). record { interval = interval; seq = seq }) (worker.leases interval)

-- the lease that a worker has of the interval of a row
abbrev pub lease_on : Shape → Worker → RowName → Option LeaseView
lease_on shape worker name = option_and_then (lease_of worker) (interval_of shape name)

-- the number of the claim that has overtaken a lease, where there is one
abbrev pub overtaken_by : List Entry → LeaseView → Option ℕ
overtaken_by history lease = where_passes (nat_lt lease.seq) (last_claim lease.interval history)

-- the row to which a message goes
abbrev pub row_of_message : Outgoing → RowName
row_of_message (outgoing.Deliver delivery sender) = delivery.to
row_of_message (outgoing.Ack to id) = to

-- ---- what a worker knows

-- what stood when the lease was overtaken, or what stands now
abbrev pub run_known : Shape → World → LeaseView → Run
run_known shape world lease = run_of shape (known lease.interval lease.seq world.history)

-- a row as it is known under a lease
abbrev pub row_known : Shape → World → LeaseView → RowName → Contents
row_known shape world lease = row_of shape (run_known shape world lease)

-- the rows of a lease's interval as they are known, in the order of their names
abbrev pub rows_known : Shape → World → LeaseView → List (RowName × Contents)
rows_known shape world lease = option_map_or
    (λ (bounds : Bounds). rows_covered bounds (run_known shape world lease).rows)
    (slice_get (intervals_of shape) lease.interval) []

-- all rows that a worker knows, one interval after another
abbrev pub rows_of_worker : Shape → World → Worker → List (RowName × Contents)
rows_of_worker shape world worker = flat_map
    (λ (interval : ℕ). option_map_or (rows_known shape world) (lease_of worker interval) [])
    (range_with_len 0 (length (intervals_of shape)))
