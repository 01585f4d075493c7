-- Each row that an entry is on is of a part that is there, and a legal history that is not too long can be printed.
use Rattle.std.proofs.Common.{◌<◌, ◌≤◌, ◌^◌, Option, Some, None, List, [], ◌∷◌, ◌++◌, length, refl, subst, arith, inl, inr}
use Rattle.std.specs.Prelude.{IfSome, IsSome, unwrap_or}
use Rattle.std.specs.List.{AllByRecursion}
use Rattle.std.proofs.lemmas.Bool.{ltb-true}
use Rattle.std.proofs.lemmas.List.Elements.{All-from_recursion}
use Rattle.mw_types.specs.declared.identity.RowName.{RowName}
use Rattle.mw_types.specs.declared.entry.Entry.{Entry}
use Rattle.mw_types.specs.declared.entry.Entry.TheVariants.{Claim, Inject, Handle, Fire, Ack, Purge}
use Rattle.topology.specs.Shapes.{parts_of, injectors_of}
use Rattle.row_parts.specs.Contents.{Contents, fresh, found_delivery}
use Rattle.run_history.specs.Cases.{CaseShape, fresh_of}
use Rattle.run_history.specs.Made.{productions_of}
use Rattle.run_history.specs.Runs.{Run, run_of, row_in, followed}
use Rattle.run_history.specs.Legal.{MayFollow, IsLegal}
use Rattle.run_history.specs.Printing.{IsOnPart, IsPrintable}
use Rattle.list_lemmas.proofs.Lists.{each-append}
use Rattle.history_laws.proofs.Along.{along_history}
use Rattle.history_laws.proofs.Caused.{caused-handle, caused-fire, caused-few, caused-there}
use Rattle.history_laws.proofs.RowSteps.{RowStep, row_step}

-- an entry that may follow has few productions
few-productions : (case : CaseShape) (run : Run) (entry : Entry) → MayFollow case run entry → length (productions_of entry) ≤ 8
few-productions case run (Handle seq row id effects) may =
    caused-few case run _ row _ effects (caused-handle case run seq row id effects row may refl)
few-productions case run (Fire seq row timer mark effects) may =
    caused-few case run _ row _ effects (caused-fire case run seq row timer mark effects row may refl)
few-productions case run _ may = omega arith

-- ---- parts

-- each row that is there is of a part that is there
pub record AreOnParts (case : CaseShape) (history : List Entry) (run : Run) : Type 0 where
  pub rows : (name : RowName) → IsSome (row_in run name) → name.part < parts_of case.topology
  pub entries : AllByRecursion (IsOnPart case.topology) history
  pub productions : AllByRecursion (λ entry. length (productions_of entry) ≤ 8) history

-- an entry that may follow is on a part that is there
on_part : (case : CaseShape) (run : Run) (entry : Entry)
    → ((name : RowName) → IsSome (row_in run name) → name.part < parts_of case.topology) → MayFollow case run entry
    → IsOnPart case.topology entry
on_part case run (Claim worker interval) rows may = tt
on_part case run (Inject seq part line item) rows may = let below = ltb-true part (injectors_of case.topology) may.injector in
    omega (arith, below)
on_part case run (Handle seq row id effects) rows may =
    caused-there case run _ row _ effects (caused-handle case run seq row id effects row may refl)
on_part case run (Fire seq row timer mark effects) rows may =
    caused-there case run _ row _ effects (caused-fire case run seq row timer mark effects row may refl)
on_part case run (Ack seq row id) rows may = rows row (there (row_in run row) may.pending)
  where
    there : (o : Option Contents) → IsSome (found_delivery id (unwrap_or o (fresh (fresh_of case.topology row.part))).pending) → IsSome o
    there None pending = absurd (cc)
    there (Some c) pending = refl
on_part case run (Purge seq row floor) rows may = rows row may.there

-- one more entry keeps each row on a part that is there
AreOnParts-followed : (case : CaseShape) (history : List Entry) (run : Run) (entry : Entry) → AreOnParts case history run
    → MayFollow case run entry
    → AreOnParts case (history ++ entry ∷ []) (followed case.topology run entry)
AreOnParts-followed case history run entry are may = record {
  rows = λ name there. by_step name there (row_step case.topology run entry name);
  entries = each-append (IsOnPart case.topology) history (entry ∷ []) are.entries (on_part case run entry are.rows may, tt);
  productions = each-append (λ entry. length (productions_of entry) ≤ 8) history (entry ∷ []) are.productions
      (few-productions case run entry may, tt);
}
  where
    by_step : (name : RowName) → IsSome (row_in (followed case.topology run entry) name) → RowStep case.topology run entry name
        → name.part < parts_of case.topology
    by_step name there (inl here) = subst (λ w. IfSome w (λ (row : RowName). row.part < parts_of case.topology)) here.0
        (on_part case run entry are.rows may)
    by_step name there (inr same) = are.rows name (subst IsSome same there)

-- after each legal history each row is of a part that is there
pub legal-on_parts : (case : CaseShape) (history : List Entry) → IsLegal case history
    → AreOnParts case history (run_of case.topology history)
legal-on_parts case = along_history case (AreOnParts case) (λ done run entry are may. AreOnParts-followed case done run entry are may)
    (record { rows = λ name there. absurd (cc); entries = tt; productions = tt })

-- a legal history that is not too long can be printed
pub legal-printable : (case : CaseShape) (history : List Entry) → IsLegal case history → length history ≤ 2 ^ 32
    → IsPrintable case.topology history
legal-printable case history legal few =
    let are = legal-on_parts case history legal in record {
      few = few;
      parts = All-from_recursion (IsOnPart case.topology) history are.entries;
      productions = All-from_recursion (λ entry. length (productions_of entry) ≤ 8) history are.productions;
    }
