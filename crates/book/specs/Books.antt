-- What is seen of a book, and of a lease. Own.
use Rattle.std.specs.Prelude.{ℕ, List, Option}
use Rattle.mw_types.specs.declared.identity.RecordId.{RecordId}
use Rattle.mw_types.specs.declared.identity.RowName.{RowName}
use Rattle.mw_types.specs.declared.entry.Entry.{Entry}
use Rattle.row_keeper.specs.Rows.{Rows}
use Rattle.run_history.specs.Cases.{CaseShape}

-- all of a book but its case: the history, how many entries it may have, the rows that the keeper
-- holds where a contract can see them, how often the keeper failed, how much work the book counts as
-- left, the ids that it has as unacknowledged, each with its sender's row, and a mark for each interval
pub record CoreView : Type 0 where
  pub history : List Entry
  pub limit : ℕ
  pub rows : Option Rows
  pub faults : ℕ
  pub work : ℕ
  pub unacknowledged : List (RecordId × RowName)
  pub marks : List ℕ

-- a book: its case, and the rest
pub record BookView : Type 0 where
  pub case : CaseShape
  pub history : List Entry
  pub limit : ℕ
  pub rows : Option Rows
  pub faults : ℕ
  pub work : ℕ
  pub unacknowledged : List (RecordId × RowName)
  pub marks : List ℕ

-- a book but for its case
abbrev pub core_of : BookView → CoreView
core_of book = record {
  history = book.history;
  limit = book.limit;
  rows = book.rows;
  faults = book.faults;
  work = book.work;
  unacknowledged = book.unacknowledged;
  marks = book.marks;
}

-- a lease: the interval, and the commit number of the claim by which it was got
pub record LeaseView : Type 0 where
  pub interval : ℕ
  pub seq : ℕ
