-- What a caller of a desk has to know, and what it answers.
-- Akidau et al., VLDB 2013, section 6.1 for what a worker does on receipt of a record, section 6.2 for the
-- sequencer that each write carries. Own: all of it is said of what the desk has seen.
use Rattle.std.specs.Prelude.{◌≡◌, ◌<◌, ◌≤◌, ◌++◌, ◌∷◌, [], ℕ, true, List, IsSome, Some, IfSome, length}
use Rattle.mw_types.specs.declared.identity.RowName.{RowName}
use Rattle.mw_types.specs.declared.entry.Entry.{Entry}
use Rattle.mw_types.specs.declared.entry.Entry.TheVariants.{Claim}
use Rattle.row_parts.specs.Contents.{Contents, found_delivery}
use Rattle.run_history.specs.Runs.{run_of, row_in}
use Rattle.run_history.specs.Watermarks.{least}
use Rattle.run_history.specs.Fences.{IsCurrent, interval_of}
use Rattle.watermark.specs.Marks.{marks_of}
use Rattle.book.specs.Answers.{IsWritten}
use Rattle.book.specs.Books.{LeaseView}
use Rattle.book.specs.Claims.{AreRowsOf}
use Rattle.book.specs.Conditions.{IsRowOf, IsRowSeen}
use Rattle.book.specs.Desks.{DeskView, HasMoved}
use Rattle.book.specs.Marks.{reported, with_mark}
use Rattle.book.specs.Proposals.{IsWrittenBy}
use Rattle.book.specs.declared.answers.Claimed.{Claimed}
use Rattle.book.specs.declared.answers.Written.{Written}
use Rattle.book.specs.declared.proposal.Proposal.{Proposal}
use Rattle.book.specs.declared.proposal.Proposal.TheVariants as proposals

-- ---- what a call asks

-- a lease that the desk may use covers a name
pub record MayAsk (desk : DeskView) (lease : LeaseView) (name : RowName) : Type 0 where
  pub may_use : desk.leases lease ≡ true
  pub covers : interval_of desk.case.topology name ≡ Some lease.interval

-- the row that is handed in is the row as it is known under the lease
abbrev pub IsRowKnown : DeskView → LeaseView → RowName → Contents → Type 0
IsRowKnown desk lease name row = IsRowSeen desk.case desk.told (length desk.seen) desk.seen lease name row

-- a timer is due under a mark, which is at most the least known mark of the part
pub record IsDueKnown (desk : DeskView) (part time mark : ℕ) : Type 0 where
  pub due : time ≤ mark
  pub under_marks : mark ≤ least (marks_of desk.case.topology part desk.marks)

-- a record that is handled was made in what was seen, where told; a timer that fires is due by the known
-- marks, over every keeper; of a line nothing is asked
abbrev pub IsKnownOf : DeskView → RowName → Proposal → Type 0
IsKnownOf desk name (proposals.Inject line) = Unit {0}
IsKnownOf desk name (proposals.Handle delivery effects) = IfSome desk.told (λ _.
    found_delivery delivery.id (run_of desk.case.topology desk.seen).made ≡ Some delivery)
IsKnownOf desk name (proposals.Fire timer mark effects) = IsDueKnown desk name.part timer.time mark

-- a row may forget the ids below a floor: the floor is above the row's, and at most the known one; where
-- told the row is there
pub record IsPurgeKnown (desk : DeskView) (name : RowName) (row : Contents) (floor : ℕ) : Type 0 where
  pub rises : row.floor < floor
  pub known : floor ≤ desk.floor
  pub there : IfSome desk.told (λ _. IsSome (row_in (run_of desk.case.topology desk.seen) name))

-- ---- what a call answers

-- a claim was accepted: its entry is appended, its lease has the entry's number and may be used, and the
-- rows are those of the interval before it
pub record HasClaimed (old new : DeskView) (worker interval : ℕ) (answer : Claimed) : Type 0 where
  pub before : List Entry
  pub moved : HasMoved old new before
  pub appended : new.seen ≡ before ++ Claim worker interval ∷ []
  pub lease : answer.lease ≡ record { interval = interval; seq = length before }
  pub may_use : new.leases answer.lease ≡ true
  pub rows : AreRowsOf old.case old.told before interval answer.rows

-- an entry was appended, which found the row that was handed in, and what it leaves is the answer
pub record HasStored (old new : DeskView) (lease : LeaseView) (name : RowName) (entry : Entry)
    (row : Contents) (left : ℕ → Contents) (answer : Written) : Type 0 where
  pub before : List Entry
  pub moved : HasMoved old new before
  pub found : IsRowOf old.case old.told before name row
  pub written : IsWritten old.case old.told before new.seen lease name entry (left (length before)) answer

-- a proposal was accepted, and found the row that was handed in
pub record HasWritten (old new : DeskView) (lease : LeaseView) (name : RowName) (proposal : Proposal)
    (row : Contents) (answer : Written) : Type 0 where
  pub before : List Entry
  pub moved : HasMoved old new before
  pub found : IsRowOf old.case old.told before name row
  pub written : IsWrittenBy old.case old.told before new.seen lease name proposal row answer

-- a report of a desk that is alone sets the mark of its interval as the book does, and no other; its lease is
-- the last
pub record IsReported (old new : DeskView) (lease : LeaseView) (own mark : ℕ) : Type 0 where
  pub answer : mark ≡ reported old.case.topology lease.interval own old.marks
  pub raised : new.marks ≡ with_mark lease.interval mark old.marks
  pub last : IsCurrent lease.interval lease.seq old.seen
