-- What one write of a row asks and leaves, of whichever kind it is, to a book and to a desk.
-- Akidau et al., VLDB 2013, section 6.1: on receipt of a record its id, the state, the timers and the
-- productions are committed in one atomic write, and a sender that was acknowledged forgets what it kept. Own:
-- one word for each of these, which at a kind that is given is the word for that kind.
use Rattle.std.specs.Prelude.{ℕ, List, [], length, take, Option, IfSome}
use Rattle.mw_types.specs.declared.identity.RowName.{RowName}
use Rattle.mw_types.specs.declared.entry.Entry.{Entry}
use Rattle.mw_types.specs.declared.entry.Entry.TheVariants.{Ack, Purge}
use Rattle.row_parts.specs.Contents.{Contents}
use Rattle.run_history.specs.Cases.{CaseShape}
use Rattle.run_history.specs.Runs.{run_of, written_row}
use Rattle.book.specs.Answers.{IsWritten}
use Rattle.book.specs.Books.{BookView, LeaseView}
use Rattle.book.specs.Conditions.{MayForgetAt, MaySettle, MaySettleAt}
use Rattle.book.specs.Desking.{HasStored, HasWritten, IsKnownOf, IsPurgeKnown}
use Rattle.book.specs.Desks.{DeskView}
use Rattle.book.specs.Proposals.{IsProposable, IsProposedOf, IsWrittenBy}
use Rattle.book.specs.declared.answers.Written.{Written}
use Rattle.book.specs.declared.writing.Writing.{Writing}
use Rattle.book.specs.declared.writing.Writing.TheVariants as writings

-- ---- of a book, so much of whose history was seen

-- this may be written of a row: what is proposed may be, and was made in what was seen or is due by it; or the
-- id may be settled, or the ids below the floor forgotten
abbrev pub MayPutAt : BookView → ℕ → RowName → Contents → Writing → Type 0
MayPutAt book front name row (writings.Propose proposal) = IsProposable book.case name row proposal.now
    × IfSome book.rows (λ _. IsProposedOf book.case name proposal.now
    (run_of book.case.topology (take front book.history)))
MayPutAt book front name row (writings.Settle id) = MaySettleAt book front row id
MayPutAt book front name row (writings.Purge floor) = MayForgetAt book front name row floor

-- this was written of a row: its entry is the next of the history, and the row that the entry leaves is answered
abbrev pub IsPut : {X : Type 0} → CaseShape → Option X → List Entry → List Entry → LeaseView → RowName
    → Writing → Contents → Written → Type 0
IsPut case told before after lease name (writings.Propose proposal) row answer =
    IsWrittenBy case told before after lease name proposal.now row answer
IsPut case told before after lease name (writings.Settle id) row answer =
    let entry = Ack lease.seq name id in
    IsWritten case told before after lease name entry (written_row (length before) entry [] row) answer
IsPut case told before after lease name (writings.Purge floor) row answer =
    let entry = Purge lease.seq name floor in
    IsWritten case told before after lease name entry (written_row (length before) entry [] row) answer

-- ---- of a desk

-- this may be written of a row, by what the desk knows
abbrev pub MayPut : DeskView → RowName → Contents → Writing → Type 0
MayPut desk name row (writings.Propose proposal) =
    IsProposable desk.case name row proposal.now × IsKnownOf desk name proposal.now
MayPut desk name row (writings.Settle id) = MaySettle desk.told desk.seen row id
MayPut desk name row (writings.Purge floor) = IsPurgeKnown desk name row floor

-- this was written of a row: an entry was appended, which found the row that was handed in, and the row that it
-- leaves is answered
abbrev pub HasPut : DeskView → DeskView → LeaseView → RowName → Writing → Contents → Written → Type 0
HasPut old new lease name (writings.Propose proposal) row answer =
    HasWritten old new lease name proposal.now row answer
HasPut old new lease name (writings.Settle id) row answer =
    let entry = Ack lease.seq name id in
    HasStored old new lease name entry row (λ commit. written_row commit entry [] row) answer
HasPut old new lease name (writings.Purge floor) row answer =
    let entry = Purge lease.seq name floor in
    HasStored old new lease name entry row (λ commit. written_row commit entry [] row) answer
