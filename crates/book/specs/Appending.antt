-- What makes an entry one that may be appended. No public clause cites this module.
use Rattle.std.specs.Prelude.{◌≡◌, ◌<◌, ◌≤◌, ◌+◌, ◌-◌, ◌++◌, ◌∷◌, [], ℕ, List, length, Option, Some, None, if◌then◌else◌, nat_lt, true, IfSome}
use Rattle.mw_types.specs.declared.identity.RowName.{RowName}
use Rattle.mw_types.specs.declared.entry.Entry.{Entry}
use Rattle.topology.specs.Shapes.{Shape, parts_of}
use Rattle.row_parts.specs.Contents.{Contents, without_delivery}
use Rattle.run_history.specs.Cases.{CaseShape}
use Rattle.run_history.specs.Made.{row_written, productions_of, deliveries_of}
use Rattle.run_history.specs.Runs.{run_of}
use Rattle.run_history.specs.Legal.{MayFollow}
use Rattle.run_history.specs.Fences.{IsUnderLastClaim, last_claim}
use Rattle.run_history.specs.HistoryLines.{HasLine}
use Rattle.run_history.specs.Finished.{work_in}
use Rattle.book.specs.Books.{BookView, CoreView}
use Rattle.run_history.specs.Fits.{fits}
use Rattle.book.specs.Conditions.{IsRowOf}
use Rattle.book.specs.declared.settling.Settled.{Settled}

-- for each interval it is known which claim is its last
abbrev pub KnowsClaims : (ℕ → Option ℕ) → List Entry → Type 0
KnowsClaims newest history = (interval : ℕ) → newest interval ≡ last_claim interval history

-- how many deliveries the next entry of a history makes
abbrev pub sent_by : Shape → List Entry → Entry → ℕ
sent_by shape history entry = length
    (deliveries_of shape (run_of shape history).made (length history) entry)

-- an entry that writes this row under this name may be appended
pub record IsNext (case : CaseShape) (core : CoreView) (name : RowName) (entry : Entry)
    (row : Contents) : Type 0 where
  pub room : length core.history < core.limit
  pub on_row : row_written entry ≡ Some name
  pub under : IsUnderLastClaim case.topology core.history entry
  pub part : name.part < parts_of case.topology
  pub few : length (productions_of entry) ≤ 8
  pub line : HasLine entry
  pub fit : fits case (length core.history + 1) name row ≡ true
  pub may : IfSome core.rows (λ _. MayFollow case (run_of case.topology core.history) entry)
  pub of_history : IsRowOf case core.rows (core.history ++ entry ∷ []) name row

-- so much work is in a row, which is that of the history where a contract can see the keeper's rows
abbrev pub HadWork : BookView → RowName → ℕ → Type 0
HadWork book name gone = (before : Contents)
    × (IsRowOf book.case book.rows book.history name before × (gone ≡ work_in book.case name before))

-- the row that is left: this one, or what it is once an id is settled
abbrev pub left_row : Option Settled → Contents → Contents
left_row None row = row
left_row (Some settled) row =
    record row { pending = without_delivery settled.id row.pending; last = settled.commit }

-- so much work is left once this row stands in the place of the one that the history has
abbrev pub LeavesWork : BookView → RowName → Contents → ℕ → Type 0
LeavesWork book name row left = (before : Contents) × (IsRowOf book.case book.rows book.history name before
    × (left ≡ (book.work + work_in book.case name row) - work_in book.case name before))

-- the last claim, where it is later than this one
abbrev pub later_than : ℕ → Option ℕ → Option ℕ
later_than seq None = None
later_than seq (Some newest) = if nat_lt seq newest then Some newest else None
