-- What is said where a contract can see the keeper's rows, for a desk that only knows whether one can.
use Rattle.std.proofs.Common.{◌≡◌, ℕ, List, refl}
use Rattle.std.specs.Prelude.{Option, Some, None, IfSome}
use Rattle.std.specs.Option.{is_some}
use Rattle.mw_types.specs.declared.identity.RecordId.{RecordId}
use Rattle.mw_types.specs.declared.identity.RowName.{RowName}
use Rattle.mw_types.specs.declared.entry.Entry.{Entry}
use Rattle.row_parts.specs.Contents.{Contents}
use Rattle.run_history.specs.Cases.{CaseShape}
use Rattle.book.specs.Answers.{IsWritten}
use Rattle.book.specs.Books.{LeaseView}
use Rattle.book.specs.Claims.{AreRowsOf, IsDamagedRow}
use Rattle.book.specs.Conditions.{IsOwnWork, IsRowSeen, MaySettle}
use Rattle.book.specs.OwnDesks.{telling}
use Rattle.book.specs.Proposals.{IsWrittenBy}
use Rattle.book.specs.declared.answers.NamedRow.{NamedRow}
use Rattle.book.specs.declared.answers.Written.{Written}
use Rattle.book.specs.declared.proposal.Proposal.{Proposal}

-- what is said where rows are told is said where it is told that they are
pub telling-if : {X : Type 0} (told : Option X) (P : Type 0) → IfSome told (λ _. P) → IfSome (telling told) (λ _. P)
telling-if None P is = tt
telling-if (Some x) P is = is

-- and back
pub if-telling : {X : Type 0} (told : Option X) (P : Type 0) → IfSome (telling told) (λ _. P) → IfSome told (λ _. P)
if-telling None P is = tt
if-telling (Some x) P is = is

-- a desk tells as long as its book does
pub telling-same : {X : Type 0} (old new : Option X) → is_some new ≡ is_some old → telling new ≡ telling old
telling-same None None same = refl
telling-same None (Some y) same = absurd cc
telling-same (Some x) None same = absurd cc
telling-same (Some x) (Some y) same = refl

-- ---- what a caller knows

-- the row that was seen
pub IsRowSeen-told : {X : Type 0} (case : CaseShape) (told : Option X) (number : ℕ) (seen : List Entry) (lease : LeaseView)
    (name : RowName) (row : Contents)
    → IsRowSeen case (telling told) number seen lease name row → IsRowSeen case told number seen lease name row
IsRowSeen-told case told number seen lease name row is = record { fit = is.fit; known = if-telling told _ is.known }

-- what may be settled
pub MaySettle-told : {X : Type 0} (told : Option X) (seen : List Entry) (row : Contents) (id : RecordId)
    → MaySettle (telling told) seen row id → MaySettle told seen row id
MaySettle-told told seen row id may = record { pending = may.pending; handled = if-telling told _ may.handled }

-- what is reported
pub IsOwnWork-told : {X : Type 0} (case : CaseShape) (told : Option X) (seen : List Entry) (lease : LeaseView) (own : ℕ)
    → IsOwnWork case (telling told) seen lease own → IsOwnWork case told seen lease own
IsOwnWork-told case told seen lease own is bounds at = if-telling told _ (is bounds at)

-- ---- what a book answers

-- what was written
pub IsWritten-telling : {X : Type 0} (case : CaseShape) (told : Option X) (before after : List Entry) (lease : LeaseView)
    (name : RowName) (entry : Entry) (left : Contents) (answer : Written)
    → IsWritten case told before after lease name entry left answer
    → IsWritten case (telling told) before after lease name entry left answer
IsWritten-telling case told before after lease name entry left answer written = record {
  appended = written.appended;
  commit = written.commit;
  changed_alone = written.changed_alone;
  of_history = telling-if told _ written.of_history;
  fit = written.fit;
  last = written.last;
}

-- what was written of a proposal
pub IsWrittenBy-telling : {X : Type 0} (case : CaseShape) (told : Option X) (before after : List Entry) (lease : LeaseView)
    (name : RowName) (proposal : Proposal) (row : Contents) (answer : Written)
    → IsWrittenBy case told before after lease name proposal row answer
    → IsWrittenBy case (telling told) before after lease name proposal row answer
IsWrittenBy-telling case told before after lease name proposal row answer by = record {
  entry = by.entry;
  of_proposal = by.of_proposal;
  written = IsWritten-telling case told before after lease name by.entry _ answer by.written;
}

-- the rows of a claim
pub AreRowsOf-telling : {X : Type 0} (case : CaseShape) (told : Option X) (history : List Entry) (interval : ℕ) (rows : List NamedRow)
    → AreRowsOf case told history interval rows → AreRowsOf case (telling told) history interval rows
AreRowsOf-telling case told history interval rows are = record {
  fit = are.fit;
  covered = are.covered;
  ascending = are.ascending;
  all = telling-if told _ are.all;
}

-- a row that is damaged
pub IsDamagedRow-telling : {X : Type 0} (case : CaseShape) (told : Option X) (number : ℕ) (name : RowName) (bytes : List ℕ)
    → IsDamagedRow case told number name bytes → IsDamagedRow case (telling told) number name bytes
IsDamagedRow-telling case told number name bytes damaged = record {
  no_row = damaged.no_row;
  untold = telling-if told _ damaged.untold;
}
