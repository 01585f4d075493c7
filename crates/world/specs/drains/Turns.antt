-- What a drain has come to, and what one turn of it leaves. Of this module public clauses cite how a book goes on,
-- what the worker has, and how a call fails.
use Rattle.std.specs.Prelude.{◌≡◌, ◌<◌, ◌≤◌, ◌+◌, ◌⊎◌, ◌++◌, ◌∷◌, [], ℕ, Bool, true, false, if◌then◌else◌, nat_lt, nat_le, List, Option, Some, None, IsSome, IfSome, length, slice_get, ⊤}
use Rattle.std.specs.Option.{is_some, option_and_then, option_map, option_map_or}
use Rattle.mw_types.specs.Causes.{Rose}
use Rattle.mw_types.specs.declared.entry.Entry.{Entry}
use Rattle.mw_types.specs.declared.entry.Entry.TheVariants as entries
use Rattle.mw_types.specs.declared.identity.RowName.{RowName}
use Rattle.mw_types.specs.declared.timer.Timer.{Timer}
use Rattle.mw_types.specs.Outcomes.{EffectsView}
use Rattle.mw_types.specs.declared.TheConstants.{MAX_STAMP}
use Rattle.mw_types.specs.declared.delivery.Delivery.{Delivery}
use Rattle.mw_types.specs.declared.identity.RecordId.{RecordId}
use Rattle.key_intervals.specs.declared.bounds.Bounds.{Bounds}
use Rattle.topology.specs.Rules.{interval_count}
use Rattle.topology.specs.Shapes.{Shape, injectors_of, parts_of}
use Rattle.row_parts.specs.Contents.{IsId, is_finished, cursor_in, found_delivery}
use Rattle.run_history.specs.Cases.{CaseShape, intervals_of, source_of}
use Rattle.run_history.specs.Watermarks.{least, low_watermark}
use Rattle.run_history.specs.Runs.{Run, row_of, run_of}
use Rattle.run_history.specs.Finished.{all_pending, injectors_left, is_handled}
use Rattle.run_history.specs.Fences.{Begins, IsCurrent, interval_of}
use Rattle.watermark.specs.Marks.{feeding_marks, marks_of}
use Rattle.book.specs.Books.{BookView}
use Rattle.book.specs.DeskReasons.{IsDamageOf}
use Rattle.book.specs.OwnDesks.{own_view}
use Rattle.book.specs.Proposals.{IsEntryOf}
use Rattle.book.specs.declared.desk_refusal.DeskRefusal.{DeskRefusal}
use Rattle.book.specs.declared.desk_refusal.DeskRefusal.TheVariants as refusals
use Rattle.book.specs.declared.proposal.Proposal.{Proposal}
use Rattle.book.specs.declared.writing.Writing.{Writing}
use Rattle.book.specs.declared.writing.Writing.TheVariants as writings
use Rattle.holdings.specs.Holding.{HeldView, held_at, held_on, row_held}
use Rattle.node.specs.Answers.{refusal_of}
use Rattle.node.specs.Asking.{Request}
use Rattle.node.specs.Fits.{Fits}
use Rattle.node.specs.LineSteps.{injector_row}
use Rattle.node.specs.Workers.{NodeView, with_lease, worker_at}
use Rattle.node.specs.declared.outcome.NodeFault.{NodeFault}
use Rattle.node.specs.declared.outcome.NodeFault.TheVariants as faults
use Rattle.node.specs.declared.outcome.Outcome.{Outcome}
use Rattle.node.specs.declared.outcome.Outcome.TheVariants as outcomes
use Rattle.world.specs.drains.ReportRounds.{with_report}
use Rattle.world.specs.drains.Drains.{HasClaimedAll, HasEnded, IsDraining, IsDue, IsNextEntry, is_full}

-- ---- how a book goes on

-- a history with one entry more, or with none
abbrev pub with_own : Option Entry → List Entry → List Entry
with_own None history = history
with_own (Some entry) history = history ++ entry ∷ []

-- a book's history has grown by one entry, or by none; the case, the limit and whether rows are told stay,
-- and faults never fall
pub record HasStepped (old new : BookView) (own : Option Entry) : Type 0 where
  pub case : new.case ≡ old.case
  pub limit : new.limit ≡ old.limit
  pub tells : is_some new.rows ≡ is_some old.rows
  pub faults : old.faults ≤ new.faults
  pub appended : new.history ≡ with_own own old.history

-- a book's history has grown
pub record HasGone (old new : BookView) : Type 0 where
  pub case : new.case ≡ old.case
  pub limit : new.limit ≡ old.limit
  pub tells : is_some new.rows ≡ is_some old.rows
  pub faults : old.faults ≤ new.faults
  pub grown : Begins old.history new.history

-- a fact where a contract can see the keeper's rows
abbrev pub WhereTold : BookView → Type 0 → Type 0
WhereTold book Fact = IsSome book.rows → Fact

-- ---- the one worker

-- the worker that a drain is: it holds this, and has nothing prepared and nothing to send
abbrev pub worker_of : List (Option HeldView) → NodeView
worker_of all = record { number = 0; held = all; prepared = None; outbox = [] }

-- a worker has an interval under its last claim
pub record HasLast (history : List Entry) (all : List (Option HeldView)) (interval : ℕ) : Type 0 where
  pub held : HeldView
  pub there : held_at all interval ≡ Some held
  pub last : IsCurrent interval held.lease.seq history

-- a worker has each of the first so many intervals under its last claim
abbrev pub HasFirst : List Entry → List (Option HeldView) → ℕ → Type 0
HasFirst history all count = (interval : ℕ) → interval < count → HasLast history all interval

-- a worker has all intervals under their last claims, and nothing prepared
pub record IsAtWork (book : BookView) (node : NodeView) : Type 0 where
  pub fits : Fits book.case (own_view book) node
  pub free : node.prepared ≡ None
  pub each : HasFirst book.history node.held (interval_count book.case.topology)

-- an interval was claimed, and the worker has it under that claim
pub record HasTaken (old new : BookView) (interval : ℕ) (was node : NodeView) : Type 0 where
  pub stepped : HasStepped old new (Some (entries.Claim was.number interval))
  pub fits : Fits new.case (own_view new) node
  pub number : node.number ≡ was.number
  pub left : worker_at node
      ≡ with_lease old.case.topology interval (Some (length old.history)) (worker_at was)

-- a drain that began with a book has claimed so many intervals
pub record IsClaiming (start book : BookView) (node : NodeView) (count : ℕ) : Type 0 where
  pub gone : HasGone start book
  pub fits : Fits book.case (own_view book) node
  pub free : node.prepared ≡ None
  pub first_worker : node.number ≡ 0
  pub first : HasFirst book.history node.held count
  pub next : length book.history ≡ length start.history + count
  pub draining : IsDraining start.case (length start.history) book.history

-- ---- a turn

-- an entry comes next in each drain that has claimed all intervals
abbrev pub IsNextIn : CaseShape → List Entry → Entry → Type 0
IsNextIn case history entry =
    (from : ℕ) → HasClaimedAll case from history → IsNextEntry case from history entry

-- each drain that has claimed all intervals has ended
abbrev pub IsEndOf : CaseShape → List Entry → Type 0
IsEndOf case history = (from : ℕ) → HasClaimedAll case from history → HasEnded case from history

-- one entry was appended, or none; where told it is the next
pub record HasTurned (old new : BookView) (more : Bool) : Type 0 where
  pub own : Option Entry
  pub stepped : HasStepped old new own
  pub is_more : is_some own ≡ more
  pub next : WhereTold old (IfSome own (IsNextIn old.case old.history))

-- the entry that was asked for was appended, or none where none was asked for
pub record HasAsked (old new : BookView) (asked : Option Request) (more : Bool) : Type 0 where
  pub stepped : HasStepped old new (option_map (λ (a : Request). a.entry) asked)
  pub is_more : is_some asked ≡ more

-- an entry for which a worker may ask was appended, or none where there is none such
pub record HasAskedOne (old new : BookView) (MayAsk : Request → Type 0) (more : Bool) : Type 0 where
  pub asked : Option Request
  pub done : HasAsked old new asked more
  pub may : IfSome asked MayAsk
  pub none : asked ≡ None → (any : Request) → MayAsk any → ⊥

-- a call failed: nothing was appended, and the refusal has its cause
pub record HasFailed (old new : BookView) (why : NodeFault) : Type 0 where
  pub stepped : HasStepped old new None
  pub keeper : why ≡ faults.KeeperFault → Rose old.faults new.faults
  pub full : why ≡ faults.HistoryFull → length new.history ≡ new.limit
  pub damaged : IsDamageOf (own_view new) (refusal_of why)

-- what a drain may be refused over a book of its own: no other has a turn, and no lease is overtaken
abbrev pub IsOwnRefusal : DeskRefusal → Type 0
IsOwnRefusal (refusals.Busy found) = ⊥
IsOwnRefusal (refusals.Stale newer) = ⊥
IsOwnRefusal _ = ⊤

-- the entry of what was proposed of a row was appended, under this sequencer
pub record HasProposed (old new : BookView) (seq : ℕ) (name : RowName) (proposal : Proposal) : Type 0 where
  pub entry : Entry
  pub of_proposal : IsEntryOf old.case seq name proposal entry
  pub stepped : HasStepped old new (Some entry)

-- this was written of a row, under this sequencer: its entry was appended
abbrev pub HasPutOwn : BookView → BookView → ℕ → RowName → Writing → Type 0
HasPutOwn old new seq name (writings.Propose proposal) = HasProposed old new seq name proposal.now
HasPutOwn old new seq name (writings.Settle id) = HasStepped old new (Some (entries.Ack seq name id))
HasPutOwn old new seq name (writings.Purge floor) = HasStepped old new (Some (entries.Purge seq name floor))

-- no drain has ended at a history
abbrev pub IsUnended : CaseShape → List Entry → Type 0
IsUnended case history = (from : ℕ) → HasEnded case from history → ⊥

-- a call fails since the history is full only where it asked for an entry for which it may ask
abbrev pub IsFullAsking : (Request → Type 0) → NodeFault → Type 0
IsFullAsking MayAsk why = why ≡ faults.HistoryFull → (asked : Request) × MayAsk asked

-- a call fails since the history is full only where no drain has ended; so where told
abbrev pub IsFullUnended : BookView → NodeFault → Type 0
IsFullUnended book why = why ≡ faults.HistoryFull → WhereTold book (IsUnended book.case book.history)

-- whether an entry was written
abbrev pub is_committed : Outcome → Bool
is_committed (outcomes.Committed commit) = true
is_committed _ = false

-- ---- what is left to do

-- nothing is unacknowledged
abbrev pub IsSettled : CaseShape → List Entry → Type 0
IsSettled case history = all_pending (run_of case.topology history) ≡ []

-- no timer of a part is due
abbrev pub IsQuietAt : CaseShape → List Entry → ℕ → Type 0
IsQuietAt case history part = (row : RowName) (timer : Timer) →
    IsDue case (run_of case.topology history) row timer → row.part ≡ part → ⊥

-- no timer is due
abbrev pub IsQuiet : CaseShape → List Entry → Type 0
IsQuiet case history =
    (row : RowName) (timer : Timer) → IsDue case (run_of case.topology history) row timer → ⊥

-- no row of an interval has seen ids
abbrev pub IsEmptied : CaseShape → List Entry → ℕ → Type 0
IsEmptied case history interval = (row : RowName) → interval_of case.topology row ≡ Some interval →
    (row_of case.topology (run_of case.topology history) row).seen ≡ []

-- no injector has a line left
abbrev pub IsInjected : CaseShape → List Entry → Type 0
IsInjected case history = injectors_left case (run_of case.topology history) ≡ []

-- ---- what a turn looks at

-- what a row has pending under an id, by the row as it is held
abbrev pub sent_at : Shape → NodeView → RowName → RecordId → Option Delivery
sent_at shape node sender id =
    option_and_then (λ (h : HeldView). found_delivery id (row_held shape h sender).pending)
    (held_on shape node.held sender)

-- whether a record is finished in its row, as that is held
abbrev pub is_finished_at : Shape → NodeView → Delivery → Bool
is_finished_at shape node delivery =
    option_map_or (λ (h : HeldView). is_finished delivery.id (row_held shape h delivery.to))
    (held_on shape node.held delivery.to) false

-- whether a row, as it is held, forgets ids before it handles one more
abbrev pub is_full_at : Shape → Run → NodeView → RowName → Bool
is_full_at shape run node name =
    option_map_or (λ (h : HeldView). is_full run (row_held shape h name)) (held_on shape node.held name) false

-- a delivery can be kept
pub record CanBeKept (delivery : Delivery) : Type 0 where
  pub id : IsId delivery.id
  pub stamp : delivery.item.stamp ≤ MAX_STAMP

-- how many lines an injector has injected, by its row as it is held
abbrev pub cursor_at : CaseShape → NodeView → ℕ → ℕ
cursor_at case node part =
    option_map_or (λ (h : HeldView). cursor_in (row_held case.topology h (injector_row part)).state)
    (held_on case.topology node.held (injector_row part)) 0

-- how many lines an injector has injected, with its part, where it has one left
abbrev pub line_at : CaseShape → NodeView → ℕ → Option (ℕ × ℕ)
line_at case node part = if nat_lt (cursor_at case node part) (length (source_of case part))
    then Some (cursor_at case node part, part) else None

-- a count of lines is less than another, or as great and of an injector that is not later
abbrev pub IsFirstLine : ℕ × ℕ → ℕ × ℕ → Type 0
IsFirstLine (lines, part) (others, other) = (lines < others) ⊎ ((lines ≡ others) × (part ≤ other))

-- of two counts of lines, where they are there, the lesser, and of equal ones the first
abbrev pub lesser_line : Option (ℕ × ℕ) → Option (ℕ × ℕ) → Option (ℕ × ℕ)
lesser_line None other = other
lesser_line one None = one
lesser_line (Some one) (Some other) = if nat_le one.0 other.0 then Some one else Some other

-- the least count of lines of the first so many injectors that have a line left
pub record IsBestLine (case : CaseShape) (node : NodeView) (count : ℕ) (best : Option (ℕ × ℕ)) : Type 0 where
  pub there : IfSome best (λ line. (line.1 < count) × (line_at case node line.1 ≡ Some line))
  pub least : (part : ℕ) (line : ℕ × ℕ) → part < count → line_at case node part ≡ Some line →
      (best_one : ℕ × ℕ) × (best ≡ Some best_one) × IsFirstLine best_one line

-- an injector has a line left, and comes first of those that have; or none has one
abbrev pub IsNextInjector : CaseShape → NodeView → ℕ → Option ℕ → Type 0
IsNextInjector case node count found = (best : Option (ℕ × ℕ)) × IsBestLine case node count best
    × (found ≡ option_map (λ (line : ℕ × ℕ). line.1) best)

-- ---- marks

-- the least mark of each computation is its low watermark
abbrev pub AreExact : BookView → Type 0
AreExact book = (part : ℕ) → injectors_of book.case.topology ≤ part → part < parts_of book.case.topology →
    least (marks_of book.case.topology part book.marks)
    ≡ low_watermark book.case (run_of book.case.topology book.history) part

-- the own work of an interval was reported, and that of no other
abbrev pub HasReported : BookView → BookView → ℕ → Type 0
HasReported old new interval =
    (bounds : Bounds) → slice_get (intervals_of old.case.topology) interval ≡ Some bounds →
    new.marks ≡ with_report old.case (run_of old.case.topology old.history) old.marks (interval, bounds)

-- this is the least of the marks that feed each interval of a part
abbrev pub IsFedBy : BookView → ℕ → ℕ → Type 0
IsFedBy book part most = (interval : ℕ) (bounds : Bounds) →
    slice_get (intervals_of book.case.topology) interval ≡ Some bounds → bounds.part ≡ part →
    most ≡ least (feeding_marks book.case.topology interval book.marks)

-- ---- a record that is handled

-- that a record was handled was appended, with some effects, on its row
pub record HasHandled (old new : BookView) (delivery : Delivery) (more : Bool) : Type 0 where
  pub is_more : more ≡ true
  pub seq : ℕ
  pub effects : EffectsView
  pub stepped : HasStepped old new (Some (entries.Handle seq delivery.to delivery.id effects))

-- a record that a row has pending is handled next: it is not handled, and its row is not full
pub record IsHandledNext (case : CaseShape) (history : List Entry) (sender : RowName)
    (delivery : Delivery) : Type 0 where
  pub pending : let run = run_of case.topology history in
      found_delivery delivery.id (row_of case.topology run sender).pending ≡ Some delivery
  pub left : is_handled delivery.id history ≡ false
  pub room : let run = run_of case.topology history in
      is_full run (row_of case.topology run delivery.to) ≡ false
