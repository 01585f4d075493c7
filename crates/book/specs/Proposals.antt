-- What may be proposed, and what is written of it.
-- Akidau et al., VLDB 2013, section 6.1, for what a worker does on receipt of a record, and section
-- 4.6 for timers. Own: what is asked over a keeper whose rows no contract can see.
use Rattle.std.specs.Prelude.{◌≡◌, ◌<◌, ◌≤◌, ℕ, Bool, true, false, [], List, length, slice_get, Option, Some}
use Rattle.std.specs.Option.{option_map}
use Rattle.mw_types.specs.declared.identity.RowName.{RowName}
use Rattle.mw_types.specs.declared.record.Record.{Record}
use Rattle.mw_types.specs.declared.delivery.Delivery.{Delivery}
use Rattle.mw_types.specs.declared.timer.Timer.{Timer}
use Rattle.mw_types.specs.declared.entry.Entry.{Entry}
use Rattle.mw_types.specs.declared.entry.Entry.TheVariants as entries
use Rattle.mw_types.specs.Outcomes.{EffectsView}
use Rattle.injector.specs.Sources.{item_at}
use Rattle.topology.specs.Shapes.{Shape}
use Rattle.row_parts.specs.Contents.{Contents, IsId, is_finished, cursor_in, found_delivery}
use Rattle.run_history.specs.Cases.{CaseShape, is_injector, source_of, record_of}
use Rattle.run_history.specs.Made.{productions_of, late_cause, deliveries_made}
use Rattle.run_history.specs.Runs.{Run, written_row}
use Rattle.computations.specs.Handlers.{OfRecord, OfTimer}
use Rattle.run_history.specs.Legal.{outcome_of}
use Rattle.run_history.specs.Watermarks.{low_watermark}
use Rattle.book.specs.Books.{LeaseView}
use Rattle.book.specs.Answers.{IsWritten}
use Rattle.book.specs.declared.answers.Written.{Written}
use Rattle.book.specs.declared.proposal.Proposal.{Proposal}
use Rattle.book.specs.declared.proposal.Proposal.TheVariants as proposals

-- ---- what may be proposed, by the row that is handed in

-- an injector's next line
pub record IsNextLine (case : CaseShape) (name : RowName) (row : Contents) (line : ℕ) : Type 0 where
  pub injector : is_injector case.topology name.part ≡ true
  pub no_key : name.key ≡ []
  pub next : line ≡ cursor_in row.state
  pub there : line < length (source_of case name.part)

-- a record that goes to the row and is not finished there, with what its computation's handler
-- leaves of it
pub record IsHandling (case : CaseShape) (name : RowName) (row : Contents) (delivery : Delivery)
    (effects : EffectsView) : Type 0 where
  pub id : IsId delivery.id
  pub to_row : delivery.to ≡ name
  pub new : is_finished delivery.id row ≡ false
  pub does : outcome_of case name row (OfRecord delivery.item) ≡ Some effects

-- the row's least timer, with what its computation's handler leaves of it
pub record IsFiring (case : CaseShape) (name : RowName) (row : Contents) (timer : Timer)
    (effects : EffectsView) : Type 0 where
  pub least : slice_get row.timers 0 ≡ Some timer
  pub does : outcome_of case name row (OfTimer timer) ≡ Some effects

-- the proposal is one of these
abbrev pub IsProposable : CaseShape → RowName → Contents → Proposal → Type 0
IsProposable case name row (proposals.Inject line) = IsNextLine case name row line
IsProposable case name row (proposals.Handle delivery effects) = IsHandling case name row delivery effects
IsProposable case name row (proposals.Fire timer mark effects) = IsFiring case name row timer effects

-- a timer is due under a mark, which is at most the low watermark of the timer's part
pub record IsDueUnder (case : CaseShape) (run : Run) (part mark : ℕ) (timer : Timer) : Type 0 where
  pub due : timer.time ≤ mark
  pub under_watermark : mark ≤ low_watermark case run part

-- what was seen has the record that is handled, and the timer that fires is due by what was seen
abbrev pub IsProposedOf : CaseShape → RowName → Proposal → Run → Type 0
IsProposedOf case name (proposals.Inject line) run = Unit {0}
IsProposedOf case name (proposals.Handle delivery effects) run =
    found_delivery delivery.id run.made ≡ Some delivery
IsProposedOf case name (proposals.Fire timer mark effects) run = IsDueUnder case run name.part mark timer

-- ---- what is written of it

-- the entry of a proposal, under a sequencer: an injected line's record is that of the source
abbrev pub IsEntryOf : CaseShape → ℕ → RowName → Proposal → Entry → Type 0
IsEntryOf case seq name (proposals.Inject line) entry = (item : Record)
    × ((option_map record_of (item_at (source_of case name.part) line) ≡ Some item)
    × (entry ≡ entries.Inject seq name.part line item))
IsEntryOf case seq name (proposals.Handle delivery effects) entry =
    entry ≡ entries.Handle seq name delivery.id effects
IsEntryOf case seq name (proposals.Fire timer mark effects) entry =
    entry ≡ entries.Fire seq name timer mark effects

-- whether the cause of what an entry sends is late: the record, the timer, or the delivery that is
-- handled
abbrev pub is_cause_late : Proposal → Entry → Bool
is_cause_late (proposals.Handle delivery effects) entry = delivery.item.late
is_cause_late _ entry = late_cause [] entry

-- the row that the entry of a proposal leaves, under this number
abbrev pub left_by : Shape → RowName → Proposal → ℕ → Entry → Contents → Contents
left_by shape name proposal commit entry row =
    let late = is_cause_late proposal entry in
    written_row commit entry (deliveries_made shape name.part (productions_of entry) late commit) row

-- a proposal was accepted: its entry is the next of the history, and the row that it leaves is
-- answered
pub record IsWrittenBy {X : Type 0} (case : CaseShape) (told : Option X) (before after : List Entry)
    (lease : LeaseView) (name : RowName) (proposal : Proposal) (row : Contents)
    (answer : Written) : Type 0 where
  pub entry : Entry
  pub of_proposal : IsEntryOf case lease.seq name proposal entry
  pub written : let left = left_by case.topology name proposal (length before) entry row in
      IsWritten case told before after lease name entry left answer
