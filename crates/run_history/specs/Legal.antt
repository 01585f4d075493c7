-- Which entry may come next, and which histories are legal: each entry does what one thread would do.
-- Akidau et al., VLDB 2013, section 6.1, for what a worker does on receipt of a record, and section 4.6
-- for the order in which the timers of a key fire. Own: the conditions.
use Rattle.std.specs.Prelude.{◌≡◌, ℕ, ◌<◌, ◌≤◌, min, ⊤, List, [], ◌∷◌, length, map, fold, slice_get, IsTrue, IsSome, IsNone, Option, Some}
use Rattle.std.specs.Option.{option_map}
use Rattle.std.specs.List.{flat_map, AllByRecursion}
use Rattle.mw_types.specs.declared.identity.RecordId.{RecordId}
use Rattle.mw_types.specs.declared.identity.RowName.{RowName}
use Rattle.mw_types.specs.declared.record.Record.{Record}
use Rattle.mw_types.specs.declared.timer.Timer.{Timer}
use Rattle.mw_types.specs.declared.delivery.Delivery.{Delivery}
use Rattle.mw_types.specs.declared.entry.Entry.{Entry}
use Rattle.mw_types.specs.declared.entry.Entry.TheVariants.{Claim, Inject, Handle, Fire, Ack, Purge}
use Rattle.mw_types.specs.Outcomes.{EffectsView}
use Rattle.injector.specs.Sources.{item_at}
use Rattle.topology.specs.Rules.{interval_count}
use Rattle.topology.specs.Shapes.{injectors_of, kind_of}
use Rattle.computations.specs.Handlers.{Cause, effects_of, OfRecord, OfTimer}
use Rattle.row_parts.specs.Contents.{Contents, found_delivery}
use Rattle.run_history.specs.Cases.{CaseShape, is_injector, source_of, record_of}
use Rattle.run_history.specs.Runs.{Run, row_in, row_of, followed, empty_run}
use Rattle.run_history.specs.Watermarks.{cursor_of, low_watermark}

-- what a computation's handler leaves of a cause in a row of this name, or none of an injector
abbrev pub outcome_of : CaseShape → RowName → Contents → Cause → Option EffectsView
outcome_of case name row cause =
    option_map (λ kind. effects_of kind name.key row.state cause) (kind_of case.topology name.part)

-- the least commit number of a delivery that is pending in a row, or the next number where none is
abbrev pub floor_of : Run → ℕ
floor_of run = fold min run.next
    (map (λ (d : Delivery). d.id.commit) (flat_map (λ (r : RowName × Contents). r.1.pending) run.rows))

-- a worker may claim an interval that is there
pub record MayClaim (case : CaseShape) (worker interval : ℕ) : Type 0 where
  pub worker_there : worker < 16
  pub interval_there : interval < interval_count case.topology

-- an injector may inject its next line, and no other
pub record MayInject (case : CaseShape) (run : Run) (part line : ℕ) (item : Record) : Type 0 where
  pub injector : IsTrue (is_injector case.topology part)
  pub next_line : line ≡ cursor_of case run part
  pub of_line : option_map record_of (item_at (source_of case part) line) ≡ Some item

-- a row may handle a delivery that waits for it, and leaves what its computation's handler leaves
pub record MayHandle (case : CaseShape) (run : Run) (row : RowName) (id : RecordId)
    (effects : EffectsView) : Type 0 where
  pub delivery : Delivery
  pub waits : found_delivery id run.unhandled ≡ Some delivery
  pub to_row : delivery.to ≡ row
  pub does : outcome_of case row (row_of case.topology run row) (OfRecord delivery.item) ≡ Some effects

-- a row may fire the least of its timers, once it is due under a mark that is not above the low watermark of
-- its part, and leaves what its computation's handler leaves
pub record MayFire (case : CaseShape) (run : Run) (row : RowName) (timer : Timer) (mark : ℕ)
    (effects : EffectsView) : Type 0 where
  pub least_timer : slice_get (row_of case.topology run row).timers 0 ≡ Some timer
  pub due : timer.time ≤ mark
  pub under_watermark : mark ≤ low_watermark case run row.part
  pub does : outcome_of case row (row_of case.topology run row) (OfTimer timer) ≡ Some effects

-- a sender may learn that what it made was handled, once
pub record MayAcknowledge (case : CaseShape) (run : Run) (row : RowName) (id : RecordId) : Type 0 where
  pub pending : IsSome (found_delivery id (row_of case.topology run row).pending)
  pub handled : IsNone (found_delivery id run.unhandled)

-- a row that is there may forget finished ids: its floor rises, not above the floor of the whole run
pub record MayPurge (case : CaseShape) (run : Run) (row : RowName) (floor : ℕ) : Type 0 where
  pub there : IsSome (row_in run row)
  pub rises : (row_of case.topology run row).floor < floor
  pub finished : floor ≤ floor_of run

-- the entry may come next
abbrev pub MayFollow : CaseShape → Run → Entry → Type 0
MayFollow case run (Claim worker interval) = MayClaim case worker interval
MayFollow case run (Inject seq part line item) = MayInject case run part line item
MayFollow case run (Handle seq row id effects) = MayHandle case run row id effects
MayFollow case run (Fire seq row timer mark effects) = MayFire case run row timer mark effects
MayFollow case run (Ack seq row id) = MayAcknowledge case run row id
MayFollow case run (Purge seq row floor) = MayPurge case run row floor

-- each of these entries may follow what stands before it
abbrev pub AreLegal : CaseShape → Run → List Entry → Type 0
AreLegal case run [] = ⊤
AreLegal case run (entry ∷ entries) =
    MayFollow case run entry × AreLegal case (followed case.topology run entry) entries

-- the history is a legal one: each entry may follow those before it
abbrev pub IsLegal : CaseShape → List Entry → Type 0
IsLegal case history = AreLegal case empty_run history

-- each source is at its end
abbrev pub AreInjected : CaseShape → Run → Type 0
AreInjected case run = (part : ℕ) → part < injectors_of case.topology →
    cursor_of case run part ≡ length (source_of case part)

-- all work of one thread is done: each line is injected, nothing waits to be handled, and no timer is
-- pending. Acknowledgements are not asked
pub record IsDone (case : CaseShape) (run : Run) : Type 0 where
  pub injected : AreInjected case run
  pub handled : run.unhandled ≡ []
  pub fired : AllByRecursion (λ (r : RowName × Contents). r.1.timers ≡ []) run.rows
