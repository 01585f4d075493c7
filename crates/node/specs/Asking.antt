-- Which entries a node asks its desk to append, by what the node holds.
-- Akidau et al., VLDB 2013, section 6.1 for what a worker does on receipt of a record, section 4.6 for
-- timers.
-- Own: the order of the timers of a part, and which row forgets first.
use Rattle.std.specs.Prelude.{◌≡◌, ◌<◌, ◌≤◌, ℕ, Bool, false, [], List, Option, Some, None, length, max, slice_get}
use Rattle.std.specs.Option.{option_and_then, option_map}
use Rattle.std.specs.Ordering.{is_lt}
use Rattle.mw_types.specs.Orders.{row_cmp}
use Rattle.mw_types.specs.Outcomes.{EffectsView}
use Rattle.mw_types.specs.declared.delivery.Delivery.{Delivery}
use Rattle.mw_types.specs.declared.entry.Entry.{Entry}
use Rattle.mw_types.specs.declared.entry.Entry.TheVariants as entries
use Rattle.mw_types.specs.declared.identity.RecordId.{RecordId}
use Rattle.mw_types.specs.declared.identity.RowName.{RowName}
use Rattle.mw_types.specs.declared.timer.Timer.{Timer}
use Rattle.injector.specs.Sources.{item_at}
use Rattle.topology.specs.Shapes.{Shape}
use Rattle.row_parts.specs.Contents.{cursor_in, found_delivery}
use Rattle.run_history.specs.Cases.{CaseShape, record_of, source_of}
use Rattle.run_history.specs.Fences.{interval_of}
use Rattle.computations.specs.Handlers.{OfTimer}
use Rattle.run_history.specs.Legal.{outcome_of}
use Rattle.book.specs.Books.{LeaseView}
use Rattle.book.specs.declared.proposal.Proposal.{Proposal}
use Rattle.book.specs.declared.proposal.Proposal.TheVariants as proposals
use Rattle.holdings.specs.Holding.{HeldView, held_on, row_held}
use Rattle.holdings.specs.Timers.{due_cmp}
use Rattle.node.specs.Workers.{NodeView, WorkView}
use Rattle.outbox.specs.declared.outgoing.Outgoing.{Outgoing}
use Rattle.outbox.specs.declared.outgoing.Outgoing.TheVariants as outgoing

-- an entry that a node asks its desk to append: the lease, the row, the entry, and whether what it makes is
-- late
pub record Request : Type 0 where
  pub lease : LeaseView
  pub name : RowName
  pub entry : Entry
  pub late : Bool

-- ---- the next line of an injector

-- the next line of an injector's row that is held, where it has one
abbrev pub next_line : CaseShape → RowName → HeldView → Option Request
next_line case name held =
    let line = cursor_in (row_held case.topology held name).state in
    option_map (λ item. record {
      lease = held.lease;
      name = name;
      entry = entries.Inject held.lease.seq name.part line (record_of item);
      late = item.late;
    }) (item_at (source_of case name.part) line)

-- the next line of an injector, where its row is held
abbrev pub line_asked : CaseShape → NodeView → ℕ → Option Request
line_asked case node part =
    let name : RowName = record { part = part; key = [] } in
    option_and_then (next_line case name) (held_on case.topology node.held name)

-- ---- what is prepared

-- that a record was handled, with what its handler left
abbrev pub handled_as : Delivery → EffectsView → HeldView → Request
handled_as delivery effects held = record {
  lease = held.lease;
  name = delivery.to;
  entry = entries.Handle held.lease.seq delivery.to delivery.id effects;
  late = delivery.item.late;
}

-- what is proposed of a record, where its row is held
abbrev pub proposed : Shape → List (Option HeldView) → Proposal → Option Request
proposed shape all (proposals.Handle delivery effects) =
    option_map (handled_as delivery effects) (held_on shape all delivery.to)
proposed shape all _ = None

-- what a node has prepared
abbrev pub work_asked : Shape → NodeView → Option Request
work_asked shape node =
    option_and_then (λ (work : WorkView). proposed shape node.held work.proposal) node.prepared

-- ---- an acknowledgement

-- that what a row sent was handled, where it is pending in the row as it is held
abbrev pub settling : Shape → RowName → RecordId → HeldView → Option Request
settling shape to id held = option_map (λ (d : Delivery). record {
  lease = held.lease;
  name = to;
  entry = entries.Ack held.lease.seq to id;
  late = false;
}) (found_delivery id (row_held shape held to).pending)

-- what a node asks for where word comes that what a row sent was handled
abbrev pub settle_asked : Shape → NodeView → RowName → RecordId → Option Request
settle_asked shape node to id = option_and_then (settling shape to id) (held_on shape node.held to)

-- what a node asks for where a message comes; a record asks for nothing yet
abbrev pub ack_asked : Shape → NodeView → Outgoing → Option Request
ack_asked shape node (outgoing.Deliver delivery sender) = None
ack_asked shape node (outgoing.Ack to id) = settle_asked shape node to id

-- ---- a timer

-- a timer is the first of a row of a part that a node holds
pub record IsTimerHeld (shape : Shape) (node : NodeView) (part : ℕ) (name : RowName)
    (timer : Timer) : Type 0 where
  pub of_part : name.part ≡ part
  pub held : HeldView
  pub there : held_on shape node.held name ≡ Some held
  pub first : slice_get (row_held shape held name).timers 0 ≡ Some timer

-- a node may fire this timer under a mark: nothing is prepared, no timer of the part is less, and it is due
pub record IsNextTimer (shape : Shape) (node : NodeView) (part mark : ℕ) (name : RowName)
    (timer : Timer) : Type 0 where
  pub free : node.prepared ≡ None
  pub set : IsTimerHeld shape node part name timer
  pub least : (other : RowName) (later : Timer) → IsTimerHeld shape node part other later →
      is_lt (due_cmp (other, later) (name, timer)) ≡ false
  pub due : timer.time ≤ mark

-- a timer's entry, with what its computation's handler leaves of it, may be asked for
pub record MayAskFire (case : CaseShape) (node : NodeView) (part mark : ℕ) (asked : Request) : Type 0 where
  pub name : RowName
  pub timer : Timer
  pub next : IsNextTimer case.topology node part mark name timer
  pub effects : EffectsView
  pub does : let row = row_held case.topology next.set.held name in
      outcome_of case name row (OfTimer timer) ≡ Some effects
  pub request : let lease = next.set.held.lease in asked ≡ record {
    lease = lease;
    name = name;
    entry = entries.Fire lease.seq name timer mark effects;
    late = timer.late;
  }

-- ---- a purge

-- a row that is held has so many finished ids, and one at least, and a floor below this one
pub record HasToForget (shape : Shape) (held : HeldView) (least floor : ℕ) (name : RowName) : Type 0 where
  pub many : max 1 least ≤ length (row_held shape held name).seen
  pub rises : (row_held shape held name).floor < floor

-- that a row which is held forgets the ids below a floor
abbrev pub forgetting : HeldView → RowName → ℕ → Request
forgetting held name floor = record {
  lease = held.lease;
  name = name;
  entry = entries.Purge held.lease.seq name floor;
  late = false;
}

-- a row may be asked to forget: nothing is prepared, and it is held and has ids to forget
pub record MayAskForget (shape : Shape) (node : NodeView) (least floor : ℕ) (name : RowName)
    (asked : Request) : Type 0 where
  pub free : node.prepared ≡ None
  pub held : HeldView
  pub there : held_on shape node.held name ≡ Some held
  pub forgets : HasToForget shape held least floor name
  pub request : asked ≡ forgetting held name floor

-- a row of an interval may be asked to forget, and none before it by key
pub record MayAskPurge (shape : Shape) (node : NodeView) (interval least floor : ℕ)
    (asked : Request) : Type 0 where
  pub name : RowName
  pub of_interval : interval_of shape name ≡ Some interval
  pub may : MayAskForget shape node least floor name asked
  pub first : (other : RowName) → interval_of shape other ≡ Some interval →
      HasToForget shape may.held least floor other → is_lt (row_cmp other name) ≡ false
