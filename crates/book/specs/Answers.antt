-- What the calls of a book answer.
-- Akidau et al., VLDB 2013, section 6.2: a write under an older sequencer is refused. Own: the
-- other refusals.
use Rattle.std.specs.Prelude.{◌≡◌, ◌↔◌, ◌++◌, ◌∷◌, [], ℕ, List, length, Option, Some, Result, IsErrOf, IfSome, slice_get, ⊤, true}
use Rattle.std.specs.Option.{is_some}
use Rattle.mw_types.specs.declared.identity.RowName.{RowName}
use Rattle.mw_types.specs.declared.entry.Entry.{Entry}
use Rattle.row_parts.specs.Contents.{Contents}
use Rattle.row_keeper.specs.Rows.{Rows}
use Rattle.run_history.specs.Cases.{CaseShape}
use Rattle.run_history.specs.Fences.{IsCurrent, IsOvertakenBy}
use Rattle.book.specs.Books.{BookView, LeaseView}
use Rattle.run_history.specs.Fits.{fits}
use Rattle.book.specs.Conditions.{IsRowOf}
use Rattle.book.specs.declared.answers.Written.{Written}
use Rattle.book.specs.declared.refusals.StartWhy.{StartWhy}
use Rattle.book.specs.declared.refusals.StartWhy.TheVariants as starts
use Rattle.book.specs.declared.refusals.Stale.{Stale}
use Rattle.book.specs.declared.refusals.WriteRefusal.{WriteRefusal}
use Rattle.book.specs.declared.refusals.WriteRefusal.TheVariants as refusals

-- a start is refused for a row only of a keeper that has one: where a contract can see its rows, the
-- row that is named is the least of them
abbrev pub IsNotEmpty : Option Rows → StartWhy → Type 0
IsNotEmpty rows (starts.NotEmpty name bytes) = IfSome rows (λ held. slice_get held 0 ≡ Some (name, bytes))
IsNotEmpty rows _ = ⊤

-- a write was accepted: its entry is the next of the history, and the answer has the entry's number
-- and its row
pub record IsWritten {X : Type 0} (case : CaseShape) (told : Option X) (before after : List Entry)
    (lease : LeaseView) (name : RowName) (entry : Entry) (left : Contents) (answer : Written) : Type 0 where
  pub appended : after ≡ before ++ entry ∷ []
  pub commit : answer.commit ≡ length before
  -- the row is what the entry leaves; where a contract can see the keeper's rows it is that of the history
  pub changed_alone : answer.row ≡ left
  pub of_history : IsRowOf case told after name answer.row
  pub fit : fits case (length after) name answer.row ≡ true
  -- the lease was the last of its interval
  pub last : IsCurrent lease.interval lease.seq before

-- what a write answers of the row that it leaves
abbrev pub answer_of : ℕ → Contents → Written
answer_of commit row = record { commit = commit; row = row }

-- a write is stale exactly where a later claim of the lease's interval is there, whose number is
-- then answered
abbrev pub IsStaleWhere : {T : Type 0} → List Entry → LeaseView → Result T WriteRefusal → Type 0
IsStaleWhere history lease result = (newer : ℕ) →
    IsErrOf result (refusals.Stale newer) ↔ IsOvertakenBy newer lease.interval lease.seq history

-- a report is stale exactly where a write would be
abbrev pub IsStaleReport : List Entry → LeaseView → Result ℕ Stale → Type 0
IsStaleReport history lease result = (newer : ℕ) →
    IsErrOf result (record { newer = newer }) ↔ IsOvertakenBy newer lease.interval lease.seq history

-- the history is full exactly where it has as many entries as it may have, and the lease is not
-- stale
abbrev pub IsFullWhere : {T : Type 0} → ℕ → List Entry → LeaseView → Result T WriteRefusal → Type 0
IsFullWhere limit history lease result = IsErrOf result refusals.HistoryFull
    ↔ (length history ≡ limit) × IsCurrent lease.interval lease.seq history

-- the case, the limit and the marks stay, and so does whether a contract can see the keeper's rows:
-- no call that uses the keeper changes them
pub record IsSameBook (old new : BookView) : Type 0 where
  pub case : new.case ≡ old.case
  pub limit : new.limit ≡ old.limit
  pub marks : new.marks ≡ old.marks
  pub tells : is_some new.rows ≡ is_some old.rows

-- the history and the rows have stayed as they were
pub record HasStayed (old new : BookView) : Type 0 where
  pub history : new.history ≡ old.history
  pub rows : new.rows ≡ old.rows
