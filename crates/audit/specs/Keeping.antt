-- What is kept of a history, so that nothing is sought in it again. No public clause cites this module.
use Rattle.std.specs.Prelude.{◌≡◌, ◌≤◌, ◌^◌, ◌+◌, ◌-◌, ℕ, List, [], ◌∷◌, length, drop, Option, Some, None, Result, Ok, Err, if◌then◌else◌}
use Rattle.std.specs.Option.{option_and_then, option_map_or}
use Rattle.std.specs.List.{AllByRecursion}
use Rattle.std.specs.BTreeMap.{get}
use Rattle.std.specs.Ordering.{nat_cmp}
use Rattle.mw_types.specs.declared.identity.RecordId.{RecordId}
use Rattle.mw_types.specs.declared.identity.RowName.{RowName}
use Rattle.mw_types.specs.declared.delivery.Delivery.{Delivery}
use Rattle.mw_types.specs.declared.entry.Entry.{Entry}
use Rattle.topology.specs.Shapes.{Shape}
use Rattle.row_parts.specs.Contents.{Contents, IsId, same_id}
use Rattle.run_history.specs.Cases.{CaseShape}
use Rattle.run_history.specs.Made.{deliveries_of, row_written}
use Rattle.run_history.specs.Runs.{Run, cached, row_after, row_in, row_of, run_of}
use Rattle.run_history.specs.Inputs.{IsRunnable}
use Rattle.run_history.specs.Fences.{interval_of, is_claim, last_claim}
use Rattle.run_history.specs.Finished.{handles, unfinished, work_in}
use Rattle.book.specs.Senders.{AreSenders}
use Rattle.history_laws.specs.Writes.{IsLegalAndFenced}
use Rattle.computations.specs.Parts.{Parts, part_doings}
use Rattle.node.specs.Works.{IsWorkOf}
use Rattle.book.specs.declared.proposal.Proposal.{Proposal}
use Rattle.book.specs.declared.answers.NamedRow.{NamedRow}
use Rattle.book.specs.declared.entries.Step.{Step}
use Rattle.mw_types.specs.declared.memory.NoMemory.{NoMemory}
use Rattle.book.specs.Proposals.{IsEntryOf, left_by}
use Rattle.audit.specs.declared.kept.Kept.{Kept}
use Rattle.audit.specs.Waits.{AreWaiting, waiting_in}
use Rattle.audit.specs.Works.{AreWorks}

-- the name of an injector's row
abbrev pub injector_name : ℕ → RowName
injector_name part = record { part = part; key = [] }

-- the number of the last claim of a row's interval, which an entry on the row has to carry
abbrev pub sequencer_for : Shape → List Entry → RowName → Option ℕ
sequencer_for shape history name =
    option_and_then (λ (interval : ℕ). last_claim interval history) (interval_of shape name)

-- what is kept is what stands after the history: its rows, what waits, the last claim of each interval, what
-- is pending in which row, and how much work is left
pub record IsKept (case : CaseShape) (history : List Entry) (kept : Kept) : Type 0 where
  pub rows : kept.rows.entries ≡ (run_of case.topology history).rows
  pub waiting : AreWaiting (run_of case.topology history).unhandled kept.waiting.entries
  pub ids : AllByRecursion (λ (d : Delivery). IsId d.id) (run_of case.topology history).unhandled
  pub claims : (interval : ℕ) → get nat_cmp kept.claims interval ≡ last_claim interval history
  pub senders : AreSenders case.topology (run_of case.topology history) kept.pending.entries
  pub works : AreWorks case.topology (run_of case.topology history).unhandled
      (run_of case.topology history).rows kept.works.items
  pub left : kept.work ≡ unfinished case (run_of case.topology history)

-- a history that is followed is legal and fenced, of a case that may be run
pub record IsFollowed (case : CaseShape) (history : List Entry) : Type 0 where
  pub runnable : IsRunnable case
  pub lawful : IsLegalAndFenced case history
  pub few : length history ≤ 2 ^ 32

-- a history that is followed, with the computations of its case and what is kept of it
pub record IsStanding (case : CaseShape) (parts : Parts) (history : List Entry) (kept : Kept) : Type 0 where
  pub work : IsWorkOf case.topology (part_doings parts)
  pub followed : IsFollowed case history
  pub keeps : IsKept case history kept

-- ---- the next entry

-- the row that the next entry leaves
abbrev pub row_left : Shape → Run → Entry → RowName → Contents
row_left shape run entry = row_after shape run entry (deliveries_of shape run.made run.next entry)

-- the row that an entry leaves under its name, or none where the entry is on no row
abbrev pub IsLeftOf : CaseShape → List Entry → Entry → Option NamedRow → Type 0
IsLeftOf case history entry None = row_written entry ≡ None
IsLeftOf case history entry (Some left) = (row_written entry ≡ Some left.name)
    × (left.row ≡ row_left case.topology (run_of case.topology history) entry left.name)

-- a row is left by the entry of a proposal
pub record IsLeftBy (case : CaseShape) (seq : ℕ) (name : RowName) (proposal : Proposal) (commit : ℕ)
    (row : Contents) (left : NamedRow) : Type 0 where
  pub entry : Entry
  pub of_proposal : IsEntryOf case seq name proposal entry
  pub named : left.name ≡ name
  pub leaves : left.row ≡ left_by case.topology name proposal commit entry row

-- what waits once an entry has come, but for what the entry sent
abbrev pub HasTaken : Entry → List (RecordId × Delivery) → List (RecordId × Delivery) → Type 0
HasTaken entry old new = (id : RecordId) →
    waiting_in new id ≡ (if handles id entry then None else waiting_in old id)

-- what is found under an id once these are noted, one after another
abbrev pub found_then : RecordId → List Delivery → Option Delivery → Option Delivery
found_then id [] found = found
found_then id (d ∷ ds) found = found_then id ds (if same_id d.id id then Some d else found)

-- these are noted too
abbrev pub HasNoted : List Delivery → List (RecordId × Delivery) → List (RecordId × Delivery) → Type 0
HasNoted sent old new = (id : RecordId) → waiting_in new id ≡ found_then id sent (waiting_in old id)

-- an entry has taken what it handled, and then these were noted
pub record HasChanged (entry : Entry) (sent : List Delivery) (old new : List (RecordId × Delivery))
    : Type 0 where
  pub between : List (RecordId × Delivery)
  pub taken : HasTaken entry old between
  pub noted : HasNoted sent between new

-- what is pending in a row, if it is there
abbrev pub pending_in : List (RowName × Contents) → RowName → List Delivery
pending_in rows name = option_map_or (λ (row : Contents). row.pending) (row_in (cached rows) name) []

-- what a row has pending beyond what was pending in it before
abbrev pub newly_pending : List (RowName × Contents) → NamedRow → List Delivery
newly_pending rows left = drop (length (pending_in rows left.name)) left.row.pending

-- the last claim of each interval, once the entry of a number has come
abbrev pub HasClaimed : Entry → ℕ → (ℕ → Option ℕ) → (ℕ → Option ℕ) → Type 0
HasClaimed entry number old new = (interval : ℕ) →
    new interval ≡ (if is_claim interval entry then Some number else old interval)

-- a row under a name is that of a step, where the step was made
abbrev pub IsRowOfStep : RowName → Result Step NoMemory → NamedRow → Type 0
IsRowOfStep name (Ok step) left = left ≡ record { name = name; row = step.left }
IsRowOfStep name (Err want) left = ⊥

-- how much work is left of so much, once a row is put under its name
abbrev pub HasWorkLeft : CaseShape → List (RowName × Contents) → NamedRow → ℕ → ℕ → Type 0
HasWorkLeft case rows left old new = new ≡ (old + work_in case left.name left.row)
    - work_in case left.name (row_of case.topology (cached rows) left.name)
