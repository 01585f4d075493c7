-- What the calls of a node answer, and what they leave of it. Each is said of the worker that the node is.
-- Akidau et al., VLDB 2013, section 6.1 for what a worker does on receipt of a record and when it sends what
-- it made, section 6.2 for a write under an older sequencer. Own: the other answers.
use Rattle.std.specs.Prelude.{◌≡◌, ◌≤◌, ◌++◌, ◌∷◌, ◌⊎◌, ◌↔◌, [], ℕ, true, if◌then◌else◌, List, Option, Some, None, IfSome, filter, length, map, nat_lt, Contains}
use Rattle.std.specs.declared.cmp.Ordering.{Ordering}
use Rattle.std.specs.List.Sorted.{IsStrictlySortedBy}
use Rattle.std.specs.Option.{is_some, option_map_or, option_to_list}
use Rattle.std.specs.Ordering.{ordering_then}
use Rattle.mw_types.specs.Orders.{id_cmp, row_cmp}
use Rattle.mw_types.specs.declared.delivery.Delivery.{Delivery}
use Rattle.mw_types.specs.declared.entry.Entry.{Entry}
use Rattle.mw_types.specs.declared.entry.Entry.TheVariants as entries
use Rattle.mw_types.specs.declared.identity.RecordId.{RecordId}
use Rattle.mw_types.specs.declared.identity.RowName.{RowName}
use Rattle.topology.specs.Shapes.{Shape}
use Rattle.row_parts.specs.Contents.{is_finished}
use Rattle.run_history.specs.Cases.{CaseShape}
use Rattle.run_history.specs.Fences.{IsCurrent, IsOvertakenBy, sequencer_of}
use Rattle.run_history.specs.Made.{deliveries_made, productions_of}
use Rattle.run_history.specs.Watermarks.{least}
use Rattle.watermark.specs.Marks.{marks_of}
use Rattle.book.specs.Books.{LeaseView}
use Rattle.book.specs.DeskReasons.{HasClaimReason, HasReason}
use Rattle.book.specs.Desks.{DeskView, HasLooked, HasMoved}
use Rattle.book.specs.declared.desk_refusal.DeskRefusal.{DeskRefusal}
use Rattle.book.specs.declared.desk_refusal.DeskRefusal.TheVariants as refusals
use Rattle.holdings.specs.Holding.{HeldView, held_at, held_on, row_held}
use Rattle.holdings.specs.Pendings.{IsPendingAmong}
use Rattle.holdings.specs.declared.pending.Sent.{Sent}
use Rattle.node.specs.Asking.{MayAskFire, MayAskForget, MayAskPurge, Request, settling}
use Rattle.outbox.specs.Messages.{messages_from, sent_again}
use Rattle.outbox.specs.Reports.{IsReportOf}
use Rattle.node.specs.Workers.{NodeView, Worker, sends, with_lease, with_outgoing, worker_at}
use Rattle.node.specs.declared.outcome.NodeFault.{NodeFault}
use Rattle.node.specs.declared.outcome.NodeFault.TheVariants as faults
use Rattle.node.specs.declared.outcome.Outcome.{Outcome}
use Rattle.node.specs.declared.outcome.Outcome.TheVariants as outcomes
use Rattle.outbox.specs.declared.outgoing.Outgoing.{Outgoing}
use Rattle.outbox.specs.declared.outgoing.Outgoing.TheVariants as outgoing

-- ---- what every call does

-- a node keeps its leases, what is prepared and what it has to send
abbrev pub HasKept : NodeView → NodeView → Type 0
HasKept old new = worker_at new ≡ worker_at old

-- an entry is a claim, or is under a lease that is held
abbrev pub IsOwnEntry : List (Option HeldView) → Entry → Type 0
IsOwnEntry all entry = (sequencer_of entry ≡ None)
    ⊎ (interval : ℕ) × (held : HeldView) × (held_at all interval ≡ Some held)
    × (sequencer_of entry ≡ Some held.lease.seq)

-- a call of a node that held this came to see more through its desk, and appended at most one entry, which is
-- its own
pub record HasGrown (all : List (Option HeldView)) (old new : DeskView) : Type 0 where
  pub before : List Entry
  pub moved : HasMoved old new before
  pub own : Option Entry
  pub appended : new.seen ≡ before ++ option_to_list own
  pub under : IfSome own (IsOwnEntry all)

-- ---- why a call fails

-- a fault of a node, as the refusal of its desk
abbrev pub refusal_of : NodeFault → DeskRefusal
refusal_of faults.HistoryFull = refusals.HistoryFull
refusal_of faults.KeeperFault = refusals.KeeperFault
refusal_of (faults.RowDamaged name bytes) = refusals.RowDamaged name bytes
refusal_of faults.NoMemory = refusals.NoMemory

-- the desk was asked under a lease, once it had looked, and refused
pub record IsRefused (old new : DeskView) (lease : LeaseView) (why : DeskRefusal) : Type 0 where
  pub asked : DeskView
  pub looked : HasLooked old asked
  pub reason : HasReason asked new lease why

-- a call that asks for an entry fails as its desk does, and one that asks for none fails only for want of
-- memory
abbrev pub FailsAsked : DeskView → DeskView → Option Request → NodeFault → Type 0
FailsAsked old new None why = why ≡ faults.NoMemory
FailsAsked old new (Some asked) why = IsRefused old new asked.lease (refusal_of why)

-- a call fails for lack of memory, or as its desk does where it asked for an entry for which it may ask
abbrev pub FailsSome : DeskView → DeskView → (Request → Type 0) → NodeFault → Type 0
FailsSome old new MayAsk why = (why ≡ faults.NoMemory)
    ⊎ (asked : Request) × MayAsk asked × IsRefused old new asked.lease (refusal_of why)

-- ---- what a call answers that asks for an entry

-- what an entry that is asked for makes under a commit number, as messages from its row
abbrev pub made_of : Shape → Request → ℕ → List Outgoing
made_of shape asked commit = messages_from asked.name
    (deliveries_made shape asked.name.part (productions_of asked.entry) asked.late commit)

-- the entry stands behind what was seen, under the last lease of its interval; the node is this worker then,
-- with what the entry makes last in its outbox
pub record IsCommitted (shape : Shape) (old new : DeskView) (asked : Request) (after : Worker)
    (node : NodeView)
    (commit : ℕ) : Type 0 where
  pub before : List Entry
  pub moved : HasMoved old new before
  pub appended : new.seen ≡ before ++ asked.entry ∷ []
  pub number : commit ≡ length before
  pub last : IsCurrent asked.lease.interval asked.lease.seq before
  pub left : worker_at node ≡ with_outgoing (made_of shape asked commit) after
  -- that is what the entry makes after the history, where a contract can see the keeper's rows
  pub told : IfSome old.told (λ _. made_of shape asked commit ≡ sends shape before (asked.name, asked.entry))

-- a later claim is there: the lease is lost, and what was prepared under it
pub record IsLost (shape : Shape) (old new : DeskView) (lease : LeaseView) (was node : NodeView)
    (newer : ℕ) : Type 0 where
  pub looked : HasLooked old new
  pub claim : IsOvertakenBy newer lease.interval lease.seq new.seen
  pub left : worker_at node ≡ with_lease shape lease.interval None (worker_at was)

-- nothing was appended, and the node is as it was
pub record IsIdle (old new : DeskView) (was node : NodeView) : Type 0 where
  pub looked : HasLooked old new
  pub kept : HasKept was node

-- another had the turn, and the node is as it was
pub record IsTurnedAway (old new : DeskView) (lease : LeaseView) (was node : NodeView)
    (found : ℕ) : Type 0 where
  pub idle : IsIdle old new was node
  pub refused : IsRefused old new lease (refusals.Busy found)

-- what a node may answer that asked for an entry
abbrev pub AnswersWrite : Shape → DeskView → DeskView → Request → Worker → NodeView → NodeView → Outcome →
    Type 0
AnswersWrite shape old new asked after was node (outcomes.Committed commit) =
    IsCommitted shape old new asked after node commit
AnswersWrite shape old new asked after was node (outcomes.Stale newer) =
    IsLost shape old new asked.lease was node newer
AnswersWrite shape old new asked after was node (outcomes.Busy found) =
    IsTurnedAway old new asked.lease was node found
AnswersWrite shape old new asked after was node _ = ⊥

-- a call asks for an entry where there is one, and answers Nothing where there is none
abbrev pub AnswersAsked : Shape → DeskView → DeskView → Option Request → Worker → NodeView → NodeView →
    Outcome → Type 0
AnswersAsked shape old new None after was node outcome =
    (outcome ≡ outcomes.Nothing) × IsIdle old new was node
AnswersAsked shape old new (Some asked) after was node outcome =
    AnswersWrite shape old new asked after was node outcome

-- a call asks for an entry for which it may ask, and answers Nothing exactly where there is none
abbrev pub AnswersSome : Shape → DeskView → DeskView → (Request → Type 0) → NodeView → NodeView → Outcome →
    Type 0
AnswersSome shape old new MayAsk was node outcomes.Nothing =
    ((asked : Request) → MayAsk asked → ⊥) × IsIdle old new was node
AnswersSome shape old new MayAsk was node outcome =
    (asked : Request) × MayAsk asked × AnswersWrite shape old new asked (worker_at was) was node outcome

-- ---- a claim

-- a claim stands behind what was seen; the node has its number for the interval
pub record IsTaken (shape : Shape) (old new : DeskView) (interval : ℕ) (was node : NodeView)
    (seq : ℕ) : Type 0 where
  pub before : List Entry
  pub moved : HasMoved old new before
  pub appended : new.seen ≡ before ++ entries.Claim was.number interval ∷ []
  pub number : seq ≡ length before
  pub left : worker_at node ≡ with_lease shape interval (Some seq) (worker_at was)

-- what a claim answers
abbrev pub AnswersClaim : Shape → DeskView → DeskView → ℕ → NodeView → NodeView → Outcome → Type 0
AnswersClaim shape old new interval was node (outcomes.Claimed seq) =
    IsTaken shape old new interval was node seq
AnswersClaim shape old new interval was node (outcomes.Busy found) =
    IsIdle old new was node × HasClaimReason old new (refusals.Busy found)
AnswersClaim shape old new interval was node _ = ⊥

-- ---- messages that come

-- what a node answers to a record for a row that it holds, and the worker that it is then
abbrev pub received : Shape → NodeView → Delivery → RowName → HeldView → Outcome × Worker
received shape node delivery sender held = if is_finished delivery.id (row_held shape held delivery.to)
    then (outcomes.Duplicate, with_outgoing (outgoing.Ack sender delivery.id ∷ []) (worker_at node))
    else (
      outcomes.Prepared,
      record (worker_at node) {
        prepared = Some (record { delivery = delivery; sender = sender });
      },
    )

-- what a node answers to a record that comes, and the worker that it is then: it waits where a work is
-- prepared, is another's where its row is not held, is acknowledged again where it is finished there, and
-- else is prepared
abbrev pub taken_in : Shape → NodeView → Delivery → RowName → Outcome × Worker
taken_in shape node delivery sender = if is_some node.prepared then (outcomes.Nothing, worker_at node) else
    option_map_or (received shape node delivery sender) (held_on shape node.held delivery.to)
    (outcomes.NotMine, worker_at node)

-- what a node answers to a message that comes, and the worker that it is then; an acknowledgement is no
-- record
abbrev pub taken_from : Shape → NodeView → Outgoing → Outcome × Worker
taken_from shape node (outgoing.Deliver delivery sender) = taken_in shape node delivery sender
taken_from shape node (outgoing.Ack to id) = (outcomes.Nothing, worker_at node)

-- what a node answers to an acknowledgement: it is another's where its row is not held, and else is written
-- where its id is pending there
abbrev pub AnswersAck : Shape → DeskView → DeskView → Option HeldView → RowName → RecordId → NodeView →
    NodeView → Outcome → Type 0
AnswersAck shape old new None to id was node outcome = (outcome ≡ outcomes.NotMine) × IsIdle old new was node
AnswersAck shape old new (Some held) to id was node outcome =
    AnswersAsked shape old new (settling shape to id held) (worker_at was) was node outcome

-- what a node answers to an acknowledgement that comes as a message; a record is none
abbrev pub AnswersAckOf : Shape → DeskView → DeskView → Outgoing → NodeView → NodeView → Outcome → Type 0
AnswersAckOf shape old new (outgoing.Deliver delivery sender) was node outcome = ⊥
AnswersAckOf shape old new (outgoing.Ack to id) was node outcome =
    AnswersAck shape old new (held_on shape was.held to) to id was node outcome

-- ---- timers, purges and reports

-- a mark is the least of a part that the desk knew, as it looked
pub record IsLeastKnown (shape : Shape) (part : ℕ) (old new : DeskView) (mark : ℕ) : Type 0 where
  pub at_least : least (marks_of shape part old.marks) ≤ mark
  pub at_most : mark ≤ least (marks_of shape part new.marks)

-- a floor is one that the desk knew, as it looked
pub record IsFloorKnown (old new : DeskView) (floor : ℕ) : Type 0 where
  pub at_least : old.floor ≤ floor
  pub at_most : floor ≤ new.floor
  pub same : old.alone ≡ true → floor ≡ old.floor

-- the next timer of a part fires, under the least mark that is known of the part
pub record AnswersFire (case : CaseShape) (old new : DeskView) (part : ℕ) (was node : NodeView)
    (outcome : Outcome) : Type 0 where
  pub mark : ℕ
  pub known : IsLeastKnown case.topology part old new mark
  pub answers : AnswersSome case.topology old new (MayAskFire case was part mark) was node outcome

-- the first row of an interval that has ids to forget forgets them, under the known floor
pub record AnswersPurge (shape : Shape) (old new : DeskView) (interval many : ℕ) (was node : NodeView)
    (outcome : Outcome) : Type 0 where
  pub floor : ℕ
  pub known : IsFloorKnown old new floor
  pub answers : AnswersSome shape old new (MayAskPurge shape was interval many floor) was node outcome

-- a row that has ids to forget forgets them, under the known floor
pub record AnswersForget (shape : Shape) (old new : DeskView) (name : RowName) (many : ℕ)
    (was node : NodeView) (outcome : Outcome) : Type 0 where
  pub floor : ℕ
  pub known : IsFloorKnown old new floor
  pub answers : AnswersSome shape old new (MayAskForget shape was many floor name) was node outcome

-- why no timer of a part fires that may fire under the least mark that is known of the part
pub record FailsFire (case : CaseShape) (old new : DeskView) (part : ℕ) (was : NodeView)
    (why : NodeFault) : Type 0 where
  pub mark : ℕ
  pub known : IsLeastKnown case.topology part old new mark
  pub fails : FailsSome old new (MayAskFire case was part mark) why

-- why no row of an interval forgets ids that may forget them under the known floor
pub record FailsPurge (shape : Shape) (old new : DeskView) (interval many : ℕ) (was : NodeView)
    (why : NodeFault) : Type 0 where
  pub floor : ℕ
  pub known : IsFloorKnown old new floor
  pub fails : FailsSome old new (MayAskPurge shape was interval many floor) why

-- why a row forgets no ids that may forget them under the known floor
pub record FailsForget (shape : Shape) (old new : DeskView) (name : RowName) (many : ℕ)
    (was : NodeView) (why : NodeFault) : Type 0 where
  pub floor : ℕ
  pub known : IsFloorKnown old new floor
  pub fails : FailsSome old new (MayAskForget shape was many floor name) why

-- the own work of what is held of an interval is reported, and the interval's mark is answered
pub record IsMarked (case : CaseShape) (old new : DeskView) (held : HeldView) (was node : NodeView)
    (mark : ℕ) : Type 0 where
  pub idle : IsIdle old new was node
  pub report : IsReportOf case old new held.lease.interval held mark

-- what a report under a lease answers
abbrev pub AnswersReportOf : CaseShape → DeskView → DeskView → HeldView → NodeView → NodeView → Outcome →
    Type 0
AnswersReportOf case old new held was node (outcomes.Marked mark) = IsMarked case old new held was node mark
AnswersReportOf case old new held was node (outcomes.Stale newer) =
    IsLost case.topology old new held.lease was node newer
AnswersReportOf case old new held was node (outcomes.Busy found) =
    IsTurnedAway old new held.lease was node found
AnswersReportOf case old new held was node _ = ⊥

-- what a report answers: Nothing exactly where no lease of the interval is held
abbrev pub AnswersReport : CaseShape → DeskView → DeskView → Option HeldView → NodeView → NodeView →
    Outcome → Type 0
AnswersReport case old new None was node outcome = (outcome ≡ outcomes.Nothing) × IsIdle old new was node
AnswersReport case old new (Some held) was node outcome = AnswersReportOf case old new held was node outcome

-- why a report fails: for lack of memory, or as its desk does under the lease that is held
abbrev pub FailsReport : DeskView → DeskView → Option HeldView → NodeFault → Type 0
FailsReport old new None why = why ≡ faults.NoMemory
FailsReport old new (Some held) why = IsRefused old new held.lease (refusal_of why)

-- ---- what is sent again

-- records that are sent again stand by their ids, and those of one id by the rows that sent them
abbrev pub again_cmp : Sent → Sent → Ordering
again_cmp a b = ordering_then (id_cmp a.delivery.id b.delivery.id) (row_cmp a.sender b.sender)

-- a record is pending in a row that is held
pub record IsPendingHeld (all : List (Option HeldView)) (sent : Sent) : Type 0 where
  pub interval : ℕ
  pub held : HeldView
  pub there : held_at all interval ≡ Some held
  pub pending : IsPendingAmong held.rows sent

-- records are sent again each once, in the order of their ids: all that is pending in rows that are held, and
-- nothing else
pub record IsSweep (all : List (Option HeldView)) (again : List Sent) : Type 0 where
  pub order : IsStrictlySortedBy again_cmp again
  pub each : (sent : Sent) → Contains again sent ↔ IsPendingHeld all sent

-- what a sweep leaves of a worker: its messages are last in the outbox
pub record IsSwept (desk : DeskView) (was node : NodeView) (count : ℕ) : Type 0 where
  pub again : List Sent
  pub sweep : IsSweep was.held again
  pub number : count ≡ length again
  pub left : worker_at node ≡ with_outgoing (map sent_again again) (worker_at was)
  -- no id stands twice, where a contract can see the keeper's rows
  pub told : IfSome desk.told (λ _. IsStrictlySortedBy id_cmp (map (λ (s : Sent). s.delivery.id) again))

-- those of records that are sent again which are older than the entry of this number
abbrev pub older_than : ℕ → List Sent → List Sent
older_than number again = filter (λ (sent : Sent). nat_lt sent.delivery.id.commit number) again

-- what a sweep of what is older leaves of a worker: its messages are those of a sweep which are older than the
-- entry of some number
pub record IsSweptOlder (was node : NodeView) (count : ℕ) : Type 0 where
  pub again : List Sent
  pub sweep : IsSweep was.held again
  pub before : ℕ
  pub number : count ≡ length (older_than before again)
  pub left : worker_at node ≡ with_outgoing (map sent_again (older_than before again)) (worker_at was)

-- such a sweep answers how many records it sends again
abbrev pub AnswersOlder : NodeView → NodeView → Outcome → Type 0
AnswersOlder was node (outcomes.Queued count) = IsSweptOlder was node count
AnswersOlder was node _ = ⊥

-- a sweep answers how many records it sends again
abbrev pub AnswersSweep : DeskView → NodeView → NodeView → Outcome → Type 0
AnswersSweep desk was node (outcomes.Queued count) = IsSwept desk was node count
AnswersSweep desk was node _ = ⊥
