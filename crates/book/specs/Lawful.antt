-- What always holds of a book.
-- Akidau et al., VLDB 2013, section 6.1, where state is checkpointed with each record's handling,
-- section 6.2 for sequencers, and section 4.5 for watermarks. Own: what is known over a keeper whose
-- rows no contract can see.
use Rattle.std.specs.Prelude.{◌≡◌, ◌<◌, ◌≤◌, ◌^◌, ℕ, List, length, true, All, Some, IfSome}
use Rattle.std.specs.List.{AllByRecursion}
use Rattle.mw_types.specs.declared.identity.RowName.{RowName}
use Rattle.mw_types.specs.declared.entry.Entry.{Entry}
use Rattle.topology.specs.Shapes.{Shape}
use Rattle.row_parts.specs.Contents.{Contents}
use Rattle.row_parts.specs.Spelling.{IsSpelledRow}
use Rattle.row_keeper.specs.Rows.{Rows}
use Rattle.run_history.specs.Cases.{CaseShape, intervals_of}
use Rattle.run_history.specs.Runs.{run_of}
use Rattle.run_history.specs.Legal.{IsLegal}
use Rattle.run_history.specs.Printing.{IsPrintable}
use Rattle.run_history.specs.HistoryLines.{HasLine}
use Rattle.run_history.specs.Fences.{IsFenced, last_claim}
use Rattle.run_history.specs.Finished.{unfinished}
use Rattle.run_history.specs.Inputs.{IsRunnable}
use Rattle.run_history.specs.Stored.{stored_rows}
use Rattle.book.specs.Books.{CoreView}
use Rattle.run_history.specs.Fits.{fits}
use Rattle.book.specs.Senders.{AreSenders}
use Rattle.book.specs.Marks.{AreSafe}

-- a row of a history of this length can be kept: it has bytes of its own, and fits its name
pub record IsKeepable (case : CaseShape) (number : ℕ) (r : RowName × Contents) : Type 0 where
  pub spelled : IsSpelledRow r.1
  pub fit : fits case number r.0 r.1 ≡ true

-- a keeper holds the rows of a legal history, and no others
pub record HoldsRowsOf (case : CaseShape) (history : List Entry) (rows : Rows) : Type 0 where
  pub legal : IsLegal case history
  pub stored : rows ≡ stored_rows (run_of case.topology history)
  pub kept : AllByRecursion (IsKeepable case (length history)) (run_of case.topology history).rows

-- only intervals that are there were claimed
abbrev pub AreClaimsThere : Shape → List Entry → Type 0
AreClaimsThere shape history = (interval seq : ℕ) →
    last_claim interval history ≡ Some seq → interval < length (intervals_of shape)

-- a book is lawful: its history is fenced and no longer than its limit, its result and its lines can
-- be printed, and where a contract can see the keeper's rows they are those of the history, which is
-- legal
pub record IsLawful (case : CaseShape) (core : CoreView) : Type 0 where
  pub runnable : IsRunnable case
  pub limit : core.limit ≤ 2 ^ 32
  pub few : length core.history ≤ core.limit
  pub fenced : IsFenced case.topology core.history
  pub claims : AreClaimsThere case.topology core.history
  pub printable : IsPrintable case.topology core.history
  pub lines : All HasLine core.history
  pub held : IfSome core.rows (HoldsRowsOf case core.history)
  -- what the book counts as left is the work that is left
  pub left : IfSome core.rows (λ _. core.work ≡ unfinished case (run_of case.topology core.history))
  -- what it has as unacknowledged is what is pending in the rows of the history
  pub senders : AreSenders case.topology (run_of case.topology core.history) core.unacknowledged
  -- each interval has a mark, which is safe
  pub marks : length core.marks ≡ length (intervals_of case.topology)
  pub safe : IfSome core.rows (λ _. AreSafe case (run_of case.topology core.history) core.marks)
