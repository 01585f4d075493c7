-- What a desk keeps of its seat has one proof at most, as a ghost field must.
use Rattle.std.proofs.Common.{◌≡◌, ◌∙◌, ◌∷◌, ℕ, List, [], sym}
use Rattle.std.proofs.Props.{props}
use Rattle.std.specs.Prelude.{Some}
use Rattle.std.specs.Coded.{×_prop, Unit-prop}
use mathlib.Core.HLevel.{Σ_prop_path}
use Rattle.mw_types.specs.Outcomes.{EffectsView}
use Rattle.mw_types.specs.declared.delivery.Delivery.{Delivery}
use Rattle.mw_types.specs.declared.entry.Entry.{Entry}
use Rattle.mw_types.specs.declared.entry.Entry.TheVariants.{Claim, Inject, Handle, Fire, Ack, Purge}
use Rattle.mw_types.specs.declared.identity.RecordId.{RecordId}
use Rattle.mw_types.specs.declared.identity.RowName.{RowName}
use Rattle.mw_types.specs.declared.record.Record.{Record}
use Rattle.mw_types.specs.declared.timer.Timer.{Timer}
use Rattle.row_parts.specs.Contents.{found_delivery}
use Rattle.run_history.specs.Cases.{CaseShape}
use Rattle.computations.specs.Handlers.{OfRecord}
use Rattle.run_history.specs.Legal.{AreLegal, MayFollow, MayHandle, outcome_of}
use Rattle.run_history.specs.Runs.{Run, followed, row_of}
use Rattle.list_lemmas.proofs.Lists.{some_same}
use Rattle.book.specs.Books.{LeaseView}
use Rattle.shared_book.specs.declared.views.Basis.{Basis}
use Rattle.shared_book.specs.SharedDesks.{IsKeptOfSeat}

-- ---- values that are equal in one way

delivery_set : IsSet Delivery
delivery_set = Prim.hlevel props

outcome_set : IsSet EffectsView
outcome_set = Prim.hlevel props

name_set : IsSet RowName
name_set = Prim.hlevel props

record_set : IsSet Record
record_set = Prim.hlevel props

timer_set : IsSet Timer
timer_set = Prim.hlevel props

-- ---- a legal history

-- all that is asked of a delivery that is handled
abbrev IsHandled : CaseShape → Run → RowName → RecordId → EffectsView → Delivery → Type 0
IsHandled case run row id effects delivery =
    (found_delivery id run.unhandled ≡ Some delivery) × (delivery.to ≡ row)
    × (outcome_of case row (row_of case.topology run row) (OfRecord delivery.item) ≡ Some effects)

-- the delivery is the one that waits
MayHandle-prop : (case : CaseShape) (run : Run) (row : RowName) (id : RecordId) (effects : EffectsView)
    → IsProp (MayHandle case run row id effects)
MayHandle-prop case run row id effects x y = λ i. record {
  delivery = (same i).0;
  waits = (same i).1.0;
  to_row = (same i).1.1;
  does = (same i).1.2;
}
  where
    each : (d : Delivery) → IsProp (IsHandled case run row id effects d)
    each d = Prim.hlevel (props, delivery_set, name_set, outcome_set)

    parts : MayHandle case run row id effects → (d : Delivery) × IsHandled case run row id effects d
    parts m = (m.delivery, (m.waits, m.to_row, m.does))

    same : parts x ≡ parts y
    same = Σ_prop_path each (some_same x.delivery y.delivery (sym x.waits ∙ y.waits))

-- an entry may come next in one way
MayFollow-prop : (case : CaseShape) (run : Run) (entry : Entry) → IsProp (MayFollow case run entry)
MayFollow-prop case run (Claim worker interval) = Prim.hlevel props
MayFollow-prop case run (Inject seq part line item) = Prim.hlevel (props, record_set)
MayFollow-prop case run (Handle seq row id effects) = MayHandle-prop case run row id effects
MayFollow-prop case run (Fire seq row timer mark effects) = Prim.hlevel (props, timer_set, outcome_set)
MayFollow-prop case run (Ack seq row id) = Prim.hlevel props
MayFollow-prop case run (Purge seq row floor) = Prim.hlevel props

-- and so each of some entries
AreLegal-prop : (case : CaseShape) (run : Run) (entries : List Entry) → IsProp (AreLegal case run entries)
AreLegal-prop case run [] = Unit-prop
AreLegal-prop case run (entry ∷ entries) = ×_prop (MayFollow-prop case run entry)
    (AreLegal-prop case (followed case.topology run entry) entries)

-- ---- what a desk keeps

pub IsKeptOfSeat-prop : (basis : Basis) (front : List Entry) (leases : List LeaseView) (floor : ℕ)
    → IsProp (IsKeptOfSeat basis front leases floor)
IsKeptOfSeat-prop basis front leases floor = Prim.hlevel (props, AreLegal-prop)
