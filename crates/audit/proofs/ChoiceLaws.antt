-- Which entries are lawful of a choice.
use Rattle.std.proofs.Common.{◌≡◌, ◌∙◌, ◌<◌, ℕ, true, List, [], length, refl, sym, ap, subst}
use Rattle.std.specs.Prelude.{IsNone, IsSome, None, Some}
use Rattle.list_lemmas.proofs.Lists.{some_same}
use Rattle.mw_types.specs.declared.identity.RecordId.{RecordId}
use Rattle.mw_types.specs.declared.identity.RowName.{RowName}
use Rattle.mw_types.specs.declared.entry.Entry.{Entry}
use Rattle.mw_types.specs.declared.entry.Entry.TheVariants.{Ack}
use Rattle.topology.specs.Shapes.{Shape}
use Rattle.row_parts.specs.Contents.{found_delivery}
use Rattle.run_history.specs.Cases.{CaseShape, is_injector, source_of}
use Rattle.run_history.specs.Made.{row_written}
use Rattle.run_history.specs.Runs.{row_of, run_of}
use Rattle.run_history.specs.Watermarks.{cursor_of}
use Rattle.run_history.specs.Fences.{IsUnderLastClaim, sequencer_of}
use Rattle.trace_lines.specs.declared.choice.Choice.{Choice}
use Rattle.trace_lines.specs.declared.choice.Choice.TheVariants as choices
use Rattle.audit.specs.Choices.{IsChosen}
use Rattle.audit.specs.Keeping.{sequencer_for}

-- an entry that carries the sequencer of its row is under the last claim
pub under-from : (shape : Shape) (history : List Entry) (entry : Entry) (name : RowName) (seq : ℕ) → row_written entry ≡ Some name
    → sequencer_of entry ≡ Some seq → sequencer_for shape history name ≡ Some seq → IsUnderLastClaim shape history entry
under-from shape history entry name seq on carries is other written =
    subst (λ (n : RowName). sequencer_for shape history n ≡ sequencer_of entry) (some_same name other (sym on ∙ written)) (is
    ∙ sym carries)

-- ---- claims

-- the worker and the interval of a choice
abbrev worker_in : Choice → ℕ
worker_in (choices.Claim worker interval) = worker
worker_in _ = 0

abbrev interval_in : Choice → ℕ
interval_in (choices.Claim worker interval) = interval
interval_in _ = 0

-- ---- injected lines

-- the row of an injector
abbrev row_of_injector : ℕ → RowName
row_of_injector part = record { part = part; key = [] }

-- what an injector has to be to inject
abbrev pub MayInjectNext : CaseShape → List Entry → ℕ → Type 0
MayInjectNext case history part = (seq : ℕ) × (is_injector case.topology part ≡ true)
    × (cursor_of case (run_of case.topology history) part < length (source_of case part))
    × (sequencer_for case.topology history (row_of_injector part) ≡ Some seq)

-- the part of a choice
abbrev part_in : Choice → ℕ
part_in (choices.Inject part) = part
part_in _ = 0

-- ---- handled records

-- the id of a choice
abbrev id_in : Choice → RecordId
id_in (choices.Handle id) = id
id_in (choices.Ack row id) = id
id_in _ = record { commit = 0; index = 0 }

-- ---- acknowledgements

-- the row of a choice
abbrev pub row_in_choice : Choice → RowName
row_in_choice (choices.Fire row mark) = row
row_in_choice (choices.Ack row id) = row
row_in_choice (choices.Purge row floor) = row
row_in_choice _ = record { part = 0; key = [] }

-- what is pending in a row, and waits no more
pub acknowledgement-chosen : (case : CaseShape) (history : List Entry) (name : RowName) (id : RecordId) (seq : ℕ)
    → IsSome (found_delivery id (row_of case.topology (run_of case.topology history) name).pending)
    → IsNone (found_delivery id (run_of case.topology history).unhandled)
    → sequencer_for case.topology history name ≡ Some seq
    → IsChosen case history (choices.Ack name id) (Some (Ack seq name id))
acknowledgement-chosen case history name id seq pending handled claimed = (
  refl,
  record {
    may = record { pending = pending; handled = handled };
    under = under-from case.topology history (Ack seq name id) name seq refl refl claimed;
  },
)

-- what a row has to have to acknowledge
pub record MaySettleNext (case : CaseShape) (history : List Entry) (name : RowName) (id : RecordId) : Type 0 where
  pub seq : ℕ
  pub pending : IsSome (found_delivery id (row_of case.topology (run_of case.topology history) name).pending)
  pub handled : IsNone (found_delivery id (run_of case.topology history).unhandled)
  pub claimed : sequencer_for case.topology history name ≡ Some seq

-- no entry, where one of these does not hold
pub acknowledgement-none : (case : CaseShape) (history : List Entry) (name : RowName) (id : RecordId)
    → (MaySettleNext case history name id → ⊥) → IsChosen case history (choices.Ack name id) None
acknowledgement-none case history name id never (Ack seq row i) same may =
    never (subst (λ (n : RowName). MaySettleNext case history n id) (ap row_in_choice same)
    (subst (MaySettleNext case history row) (ap id_in same) (record {
      seq = seq;
      pending = may.may.pending;
      handled = may.may.handled;
      claimed = may.under row refl;
    })))
acknowledgement-none case history name id never _ same may = absurd cc

-- the number of a choice
abbrev pub number_in : Choice → ℕ
number_in (choices.Fire row mark) = mark
number_in (choices.Purge row floor) = floor
number_in _ = 0
