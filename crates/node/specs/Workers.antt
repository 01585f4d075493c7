-- A worker: its leases, the record that it has handled and not yet written, and the messages that it has to
-- send.
-- Akidau et al., VLDB 2013, section 6.1 for what a worker does on receipt of a record, section 6.2 for
-- sequencers.
-- Own: the rows that a worker has cached are left out, since its leases tell them.
use Rattle.std.specs.Prelude.{◌==◌, ◌++◌, ◌∷◌, ℕ, Bool, false, not, if◌then◌else◌, List, [], length, Option, Some, None, ⊤}
use Rattle.std.specs.Option.{option_map, option_map_or, option_and_then}
use Rattle.mw_types.specs.declared.delivery.Delivery.{Delivery}
use Rattle.mw_types.specs.declared.entry.Entry.{Entry}
use Rattle.mw_types.specs.declared.identity.RowName.{RowName}
use Rattle.topology.specs.Shapes.{Shape}
use Rattle.run_history.specs.Fences.{interval_of}
use Rattle.run_history.specs.Made.{deliveries_of}
use Rattle.run_history.specs.Runs.{run_of}
use Rattle.book.specs.declared.proposal.Proposal.{Proposal}
use Rattle.book.specs.declared.proposal.Proposal.TheVariants as proposals
use Rattle.holdings.specs.Holding.{HeldView, held_at}
use Rattle.outbox.specs.Messages.{messages_from}
use Rattle.outbox.specs.declared.outgoing.Outgoing.{Outgoing}
use Rattle.outbox.specs.declared.outgoing.Outgoing.TheVariants as outgoing

-- a record that was sent, and the row that sent it
pub record Sending : Type 0 where
  pub delivery : Delivery
  pub sender : RowName

-- a worker: its sequencer for each interval that it has, what it has prepared, and what it has to send, first
-- come first
pub record Worker : Type 0 where
  pub leases : ℕ → Option ℕ
  pub prepared : Option Sending
  pub outbox : List Outgoing

-- a worker that has nothing
abbrev pub idle : Worker
idle = record { leases = λ _. None; prepared = None; outbox = [] }

-- ---- what changes

-- what is there, if it passes a test
abbrev pub where_passes : {X : Type 0} → (X → Bool) → Option X → Option X
where_passes test None = None
where_passes test (Some x) = if test x then Some x else None

-- whether a record goes to a row of this interval
abbrev pub goes_into : Shape → ℕ → Sending → Bool
goes_into shape interval sending =
    option_map_or (λ (i : ℕ). i == interval) (interval_of shape sending.delivery.to) false

-- a worker with this sequencer, or none, for an interval, and without what it had prepared there
abbrev pub with_lease : Shape → ℕ → Option ℕ → Worker → Worker
with_lease shape interval seq worker = record worker {
  leases = λ (i : ℕ). if i == interval then seq else worker.leases i;
  prepared = where_passes (λ sending. not (goes_into shape interval sending)) worker.prepared;
}

-- a worker with these messages last in its outbox
abbrev pub with_outgoing : List Outgoing → Worker → Worker
with_outgoing messages worker = record worker { outbox = worker.outbox ++ messages }

-- a worker once what it had prepared is written: it has to send word of that to the sender
abbrev pub with_written : Option Sending → Worker → Worker
with_written None worker = worker
with_written (Some sending) worker = record worker {
  prepared = None;
  outbox = worker.outbox ++ outgoing.Ack sending.sender sending.delivery.id ∷ [];
}

-- what an entry on a row makes after a history, as messages from the row
abbrev pub sends : Shape → List Entry → RowName × Entry → List Outgoing
sends shape history (name, entry) =
    messages_from name (deliveries_of shape (run_of shape history).made (length history) entry)

-- ---- what is seen of a node

-- a work that is prepared: the row that sent the record, and what is proposed to be written
pub record WorkView : Type 0 where
  pub sender : RowName
  pub proposal : Proposal

-- a proposal is that a record was handled
abbrev pub IsHandle : Proposal → Type 0
IsHandle (proposals.Handle delivery effects) = ⊤
IsHandle _ = ⊥

-- a node: its number, what it holds of each interval, the work that is prepared, and what it has to send
pub record NodeView : Type 0 where
  pub number : ℕ
  pub held : List (Option HeldView)
  pub prepared : Option WorkView
  pub outbox : List Outgoing

-- the record of a proposal that it was handled, from this row
abbrev pub sending_in : RowName → Proposal → Option Sending
sending_in sender (proposals.Handle delivery effects) = Some (record { delivery = delivery; sender = sender })
sending_in sender _ = None

-- what is prepared, as a record that was sent
abbrev pub sending_of : NodeView → Option Sending
sending_of node = option_and_then (λ (work : WorkView). sending_in work.sender work.proposal) node.prepared

-- the sequencers of what is held, by interval
abbrev pub leases_of : List (Option HeldView) → ℕ → Option ℕ
leases_of all interval = option_map (λ (held : HeldView). held.lease.seq) (held_at all interval)

-- the worker that a node is
abbrev pub worker_at : NodeView → Worker
worker_at node = record { leases = leases_of node.held; prepared = sending_of node; outbox = node.outbox }
