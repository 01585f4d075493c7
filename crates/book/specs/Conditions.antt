-- What a caller of a book has to know before it writes or reports, by what it has seen of the history.
-- Akidau et al., VLDB 2013, section 6.2 for the sequencer that each write carries. Own: what a
-- holder of a lease has seen of the history, and that all else is asked only where a contract can see
-- the keeper's rows.
use Rattle.std.specs.Prelude.{◌≡◌, ◌<◌, ◌≤◌, ◌^◌, ℕ, List, take, drop, length, slice_get, Option, Some, IsSome, IfSome, true}
use Rattle.mw_types.specs.declared.identity.RecordId.{RecordId}
use Rattle.mw_types.specs.declared.identity.RowName.{RowName}
use Rattle.mw_types.specs.declared.entry.Entry.{Entry}
use Rattle.key_intervals.specs.declared.bounds.Bounds.{Bounds}
use Rattle.topology.specs.Shapes.{Shape}
use Rattle.row_parts.specs.Contents.{Contents, found_delivery}
use Rattle.run_history.specs.Cases.{CaseShape, intervals_of}
use Rattle.run_history.specs.Runs.{run_of, row_in, row_of}
use Rattle.run_history.specs.Legal.{floor_of}
use Rattle.run_history.specs.Fences.{HasSeenAll, interval_of, known}
use Rattle.run_history.specs.Finished.{is_handled}
use Rattle.run_history.specs.Marks.{own_work}
use Rattle.book.specs.Books.{BookView, LeaseView}
use Rattle.run_history.specs.Fits.{fits}

-- a row is that of a history under this name, where a contract can see the keeper's rows
abbrev pub IsRowOf : {X : Type 0} → CaseShape → Option X → List Entry → RowName → Contents → Type 0
IsRowOf case told history name row =
    let shape = case.topology in IfSome told (λ _. row ≡ row_of shape (run_of shape history) name)

-- a lease may be used on a row, which lies in its interval, by one who has seen all that was written
-- under it
pub record MayUse (shape : Shape) (lease : LeaseView) (name : RowName) (seen rest : List Entry) : Type 0 where
  pub seen_all : HasSeenAll lease.interval lease.seq seen rest
  pub covers : interval_of shape name ≡ Some lease.interval

-- what is reported as an interval's own work is the own work that is known under the lease by what
-- was seen
abbrev pub IsOwnWork : {X : Type 0} → CaseShape → Option X → List Entry → LeaseView → ℕ → Type 0
IsOwnWork case told seen lease own = (bounds : Bounds) →
    slice_get (intervals_of case.topology) lease.interval ≡ Some bounds →
    let run = run_of case.topology (known lease.interval lease.seq seen) in
    IfSome told (λ _. own ≡ own_work case run bounds)

-- the row that is handed in fits its name after so many entries, and is the row as it is known under
-- the lease by what was seen
pub record IsRowSeen {X : Type 0} (case : CaseShape) (told : Option X) (number : ℕ) (seen : List Entry)
    (lease : LeaseView) (name : RowName) (row : Contents) : Type 0 where
  pub fit : fits case number name row ≡ true
  pub known : IsRowOf case told (known lease.interval lease.seq seen) name row

-- an id is pending in the row, and its record was handled in what was seen
pub record MaySettle {X : Type 0} (told : Option X) (seen : List Entry) (row : Contents)
    (id : RecordId) : Type 0 where
  pub pending : IsSome (found_delivery id row.pending)
  pub handled : IfSome told (λ _. is_handled id seen ≡ true)

-- a row may forget the ids below a floor: the floor is above the row's, and at most 2^32, above which
-- no entry has a number; the row is there, and the floor is at most that of what was seen
pub record MayForget {X : Type 0} (case : CaseShape) (told : Option X) (seen : List Entry) (name : RowName)
    (row : Contents) (floor : ℕ) : Type 0 where
  pub rises : row.floor < floor
  pub few : floor ≤ 2 ^ 32
  pub there : IfSome told (λ _. IsSome (row_in (run_of case.topology seen) name))
  pub finished : IfSome told (λ _. floor ≤ floor_of (run_of case.topology seen))

-- ---- the same of a book, so much of whose history was seen

-- so much of the history has a lease's claim, and all that was written under it
abbrev pub HasSeenAllAt : BookView → LeaseView → ℕ → Type 0
HasSeenAllAt book lease front =
    HasSeenAll lease.interval lease.seq (take front book.history) (drop front book.history)

-- a lease may be used on a row by one who has seen so much
abbrev pub MayUseAt : BookView → LeaseView → ℕ → RowName → Type 0
MayUseAt book lease front name =
    MayUse book.case.topology lease name (take front book.history) (drop front book.history)

-- what is reported is the own work by so much
abbrev pub IsOwnWorkAt : BookView → LeaseView → ℕ → ℕ → Type 0
IsOwnWorkAt book lease front own = IsOwnWork book.case book.rows (take front book.history) lease own

-- the row that is handed in is the row as it is known by so much
abbrev pub IsRowSeenAt : BookView → LeaseView → ℕ → RowName → Contents → Type 0
IsRowSeenAt book lease front name row =
    IsRowSeen book.case book.rows (length book.history) (take front book.history) lease name row

-- an id may be settled by so much
abbrev pub MaySettleAt : BookView → ℕ → Contents → RecordId → Type 0
MaySettleAt book front row id = MaySettle book.rows (take front book.history) row id

-- a row may forget the ids below a floor by so much
abbrev pub MayForgetAt : BookView → ℕ → RowName → Contents → ℕ → Type 0
MayForgetAt book front name row floor =
    MayForget book.case book.rows (take front book.history) name row floor
