-- What the calls of a shared book ask of a seat, and what they answer. Akidau et al., VLDB 2013, section
-- 6.2 for sequencers. Own: the turn, and what a seat's view was before and after.
use Rattle.std.specs.Prelude.{◌≡◌, ℕ, ◌<◌, ◌≤◌, ◌++◌, ◌∷◌, [], List, true, false, Some, None, IfSome, length}
use Rattle.atomic_table.specs.Seated.{TableId}
use Rattle.atomic_table.specs.declared.shared.Seat.{Seat}
use Rattle.mw_types.specs.Causes.{Rose}
use Rattle.mw_types.specs.declared.entry.Entry.{Entry}
use Rattle.mw_types.specs.declared.entry.Entry.TheVariants.{Claim, Ack, Purge}
use Rattle.mw_types.specs.declared.identity.RowName.{RowName}
use Rattle.run_history.specs.Cases.{CaseShape, intervals_of}
use Rattle.run_history.specs.Legal.{floor_of}
use Rattle.run_history.specs.Runs.{run_of, row_in, written_row}
use Rattle.run_history.specs.Fences.{HasSeenAll, interval_of, known}
use Rattle.row_parts.specs.Contents.{Contents}
use Rattle.watermark.specs.Marks.{mark_of}
use Rattle.book.specs.Books.{CoreView, LeaseView}
use Rattle.book.specs.Lawful.{IsLawful}
use Rattle.book.specs.Marks.{AreSafe}
use Rattle.book.specs.OwnDesks.{telling}
use Rattle.book.specs.Answers.{IsWritten}
use Rattle.book.specs.Claims.{AreRowsOf}
use Rattle.book.specs.Conditions.{IsRowOf, IsRowSeen, MayForget, MaySettle}
use Rattle.book.specs.Proposals.{IsProposable, IsProposedOf, IsWrittenBy}
use Rattle.book.specs.declared.answers.Claimed.{Claimed}
use Rattle.book.specs.declared.answers.Written.{Written}
use Rattle.book.specs.declared.proposal.Proposal.{Proposal}
use Rattle.book.specs.declared.writing.Writing.{Writing}
use Rattle.book.specs.declared.writing.Writing.TheVariants as writings
use Rattle.shared_book.specs.declared.views.View.{View}
use Rattle.shared_book.specs.Lists.{IsIn, Ascends}
use Rattle.shared_book.specs.FenceLaw.{Slot, IsCore, AreClaimed}
use Rattle.shared_book.specs.Steps.{SeatView, IsNext, holding, faulted, grown}
use Rattle.shared_book.specs.MarkSteps.{released}

-- ---- what a seat is

-- a seat of this table, of a book of this case
pub record IsHere (id : TableId) (shape : CaseShape) (seat : Seat Slot View) : Type 0 where
  pub table : seat.table_id ≡ id
  pub live : seat.me.0.live ≡ true
  pub case : seat.me.0.basis.case ≡ shape

-- the seat holds no turn
pub record IsIdle (seat : SeatView) : Type 0 where
  pub turn : seat.0.turn ≡ false
  pub places : seat.1 ≡ []

-- the seat has the turn, and holds the place with the book, whose history it has seen
pub record HasTurn (seat : SeatView) : Type 0 where
  pub turn : seat.0.turn ≡ true
  pub book : CoreView
  pub places : seat.1 ≡ (0, Some book) ∷ []
  pub core : IsCore seat.0.basis seat.0.front seat.0.count book
  pub claimed : AreClaimed seat.0.front seat.0.leases

-- the seat has the turn, and took the book out of the place
pub record IsOut (seat : SeatView) : Type 0 where
  pub turn : seat.0.turn ≡ true
  pub places : seat.1 ≡ (0, None) ∷ []

-- ---- a turn that was taken

-- a turn was taken: the seat has seen the whole history now, which goes on from what it had seen, and each
-- of its leases has its rows as they were, whatever others appended
pub record HasTaken (old new : View) : Type 0 where
  pub book : CoreView
  pub view : new ≡ holding old book
  pub others : List Entry
  pub goes_on : old.front ++ others ≡ new.front
  pub seen_all : (lease : LeaseView) → IsIn lease old.leases →
      HasSeenAll lease.interval lease.seq old.front others
  pub rows : (lease : LeaseView) (name : RowName) → IsIn lease old.leases →
      interval_of old.basis.case.topology name ≡ Some lease.interval →
      row_in (run_of old.basis.case.topology (known lease.interval lease.seq new.front)) name
      ≡ row_in (run_of old.basis.case.topology (known lease.interval lease.seq old.front)) name
  -- each mark that the seat had loaded, whenever that was, is safe by the whole history where told: whoever raised
  -- it, under a lease that was stale then or not. And the floor that it had loaded is at most the history's
  pub marks : IfSome old.basis.told (λ _. AreSafe old.basis.case (run_of old.basis.case.topology new.front) old.marks)
  pub floor : old.floor ≤ floor_of (run_of old.basis.case.topology new.front)

-- a turn was taken, and given back at once
abbrev pub HasCaughtUp : View → View → Type 0
HasCaughtUp old new = (turn : View) × HasTaken old turn × (new ≡ released turn)

-- a note was met: what was seen goes on, and nothing that came to be seen was written under a lease of the
-- seat
pub record HasMetForeign (old new : View) : Type 0 where
  pub others : List Entry
  pub goes_on : old.front ++ others ≡ new.front
  pub seen_all : (lease : LeaseView) → IsIn lease old.leases →
      HasSeenAll lease.interval lease.seq old.front others

-- ---- what a call in a turn asks

-- a lease of the seat covers a name
pub record MayWrite (v : View) (lease : LeaseView) (name : RowName) : Type 0 where
  pub held : IsIn lease v.leases
  pub covers : interval_of v.basis.case.topology name ≡ Some lease.interval

-- the row that is handed in is the row as it is known under the lease by what the seat has seen
abbrev pub IsRowHeld : View → LeaseView → RowName → Contents → Type 0
IsRowHeld v lease name row =
    IsRowSeen v.basis.case v.basis.told (length v.front) v.front lease name row

-- what is proposed was made in what the seat has seen, or is due by it, where told
abbrev pub IsProposedIn : View → RowName → Proposal → Type 0
IsProposedIn v name proposal = IfSome v.basis.told
    (λ _. IsProposedOf v.basis.case name proposal (run_of v.basis.case.topology v.front))

-- this may be written of a row, by what the seat has seen
abbrev pub MayPutIn : View → RowName → Contents → Writing → Type 0
MayPutIn v name row (writings.Propose proposal) =
    IsProposable v.basis.case name row proposal.now × IsProposedIn v name proposal.now
MayPutIn v name row (writings.Settle id) = MaySettle v.basis.told v.front row id
MayPutIn v name row (writings.Purge floor) = MayForget v.basis.case v.basis.told v.front name row floor

-- ---- what a call in a turn answers

-- a claim was accepted: its entry is the seat's own and the next of the history, its lease has the entry's
-- number and is the seat's, and the rows are those of the interval before it
pub record HasClaimedIn (old new : View) (worker interval : ℕ) (answer : Claimed) : Type 0 where
  pub view : new ≡ grown old (old.front ++ Claim worker interval ∷ [])
  pub lease : answer.lease ≡ record { interval = interval; seq = length old.front }
  pub rows : AreRowsOf old.basis.case old.basis.told old.front interval answer.rows

-- a proposal was accepted: its entry is the seat's own and the next of the history, and found the row that
-- was handed in
pub record HasWrittenIn (old new : View) (lease : LeaseView) (name : RowName) (proposal : Proposal)
    (row : Contents) (answer : Written) : Type 0 where
  pub view : new ≡ grown old new.front
  pub found : IsRowOf old.basis.case old.basis.told old.front name row
  pub written : IsWrittenBy old.basis.case old.basis.told old.front new.front lease name proposal row answer

-- an entry was appended: it is the seat's own and the next of the history, and found the row that was
-- handed in
pub record HasStoredIn (old new : View) (lease : LeaseView) (name : RowName) (entry : Entry)
    (row : Contents) (answer : Written) : Type 0 where
  pub view : new ≡ grown old new.front
  pub found : IsRowOf old.basis.case old.basis.told old.front name row
  pub written : IsWritten old.basis.case old.basis.told old.front new.front lease name entry
      (written_row (length old.front) entry [] row) answer

-- this was written of a row: its entry is the seat's own and the next of the history, and found the row that was
-- handed in
abbrev pub HasPutIn : View → View → LeaseView → RowName → Writing → Contents → Written → Type 0
HasPutIn old new lease name (writings.Propose proposal) row answer =
    HasWrittenIn old new lease name proposal.now row answer
HasPutIn old new lease name (writings.Settle id) row answer =
    HasStoredIn old new lease name (Ack lease.seq name id) row answer
HasPutIn old new lease name (writings.Purge floor) row answer =
    HasStoredIn old new lease name (Purge lease.seq name floor) row answer

-- a book has one entry more than the seat has seen, which the seat may append. No public clause cites it
pub record IsGrown (v : View) (book : CoreView) : Type 0 where
  pub next : IsNext v book.history
  pub lawful : IsLawful v.basis.case book
  pub limit : book.limit ≡ v.basis.limit
  pub told : telling book.rows ≡ v.basis.told
  pub enough : v.count ≤ book.faults
  pub claimed : AreClaimed v.front v.leases

-- a fault was noted, and nothing else
abbrev pub HasFaulted : View → View → Type 0
HasFaulted old new = (count : ℕ) × Rose old.count count × (new ≡ faulted old count)

-- ---- the close

-- a seat loaded marks, of which none is below what it had loaded, and nothing else changed
pub record HasReloaded (old new : SeatView) : Type 0 where
  pub view : new ≡ (record old.0 { marks = new.0.marks; loads = new.0.loads }, old.1)
  pub rises : (interval : ℕ) → mark_of old.0.marks interval ≤ mark_of new.0.marks interval

-- what a close hands back: the book of all that was seen, of which each entry since the start is the seat's
-- own, in order; the keeper failed more often than at the start where the seat saw it fail; and its marks are those
-- to which the seats raised them
pub record IsClosed (v : View) (book : CoreView) : Type 0 where
  pub core : IsCore v.basis v.front v.basis.count book
  pub all_own : (commit : ℕ) → v.basis.begin ≤ commit → commit < length v.front → IsIn commit v.own
  pub own_only : (commit : ℕ) → IsIn commit v.own → (v.basis.begin ≤ commit) × (commit < length v.front)
  pub own_ascend : Ascends v.own
  pub failed : 0 < v.faults → Rose v.basis.count book.faults
  -- no mark that the seat had loaded is lost
  pub marks : (interval : ℕ) → interval < length (intervals_of v.basis.case.topology) →
      mark_of v.marks interval ≤ mark_of book.marks interval
