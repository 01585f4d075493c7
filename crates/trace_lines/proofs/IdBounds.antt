-- What a legal history makes has ids that can be printed.
use Rattle.std.proofs.Common.{◌≡◌, ℕ, ◌<◌, ◌≤◌, ◌^◌, List, [], ◌∷◌, ◌++◌, length, length-append, refl, subst, sym, arith}
use Rattle.std.specs.Prelude.{Option, Some, None, IsSome}
use Rattle.std.specs.Option.{option_map_or}
use Rattle.std.specs.List.{AllByRecursion}
use Rattle.std.proofs.lemmas.List.Elements.{recursion_from_All}
use Rattle.mw_types.specs.declared.identity.RecordId.{RecordId}
use Rattle.mw_types.specs.declared.identity.RowName.{RowName}
use Rattle.mw_types.specs.declared.delivery.Delivery.{Delivery}
use Rattle.mw_types.specs.declared.entry.Entry.{Entry}
use Rattle.topology.specs.Rules.{IsTopology}
use Rattle.topology.specs.Shapes.{Shape, consumers_of, injectors_of, stream_of}
use Rattle.row_parts.specs.Contents.{IsId, same_id, found_delivery}
use Rattle.run_history.specs.Cases.{CaseShape}
use Rattle.run_history.specs.Inputs.{IsRunnable}
use Rattle.run_history.specs.Legal.{IsLegal}
use Rattle.run_history.specs.Made.{row_written, productions_of, late_cause, deliveries_made, deliveries_of}
use Rattle.run_history.specs.Runs.{Run, empty_run, followed, row_of, run_of}
use Rattle.run_history.proofs.Beginnings.{each-begins}
use Rattle.run_history.proofs.Making.{consumers_few}
use Rattle.list_lemmas.proofs.Lists.{each-append, each-filter, find-each, find-passes}
use Rattle.list_lemmas.proofs.Places.{each-behind}
use Rattle.history_laws.specs.Ids.{is_left}
use Rattle.history_laws.proofs.Along.{along_all}
use Rattle.history_laws.proofs.IdLaws.{legal-tells, same_id-true}
use Rattle.history_laws.proofs.PrintLaws.{legal-on_parts}
use Rattle.history_laws.proofs.SentLaws.{pending-made, row_of-made}
use Rattle.book.proofs.SentLaws.{sent-ids}

-- each of these deliveries has an id that can be printed
abbrev HaveIds : List Delivery → Type 0
HaveIds = AllByRecursion (λ (d : Delivery). IsId d.id)

-- each of these entries has few productions
abbrev AreFew : List Entry → Type 0
AreFew = AllByRecursion (λ entry. length (productions_of entry) ≤ 8)

-- what an entry of few productions makes
entry-ids : (shape : Shape) (made : List Delivery) (commit : ℕ) (entry : Entry) → IsTopology shape → length (productions_of entry) ≤ 8
    → commit < 2 ^ 32 → HaveIds (deliveries_of shape made commit entry)
entry-ids shape made commit entry rules few small = by_row (row_written entry)
  where
    by_row : (written : Option RowName) → HaveIds (option_map_or
        (λ (row : RowName). deliveries_made shape row.part (productions_of entry) (late_cause made entry) commit) written [])
    by_row None = tt
    by_row (Some row) =
        let consumers : length (consumers_of shape row.part) ≤ 64 = omega (
          arith,
          consumers_few (stream_of shape row.part) (injectors_of shape) shape.computations,
          rules.few_readings,
        ) in
        recursion_from_All (λ (d : Delivery). IsId d.id) _
        (sent-ids shape row.part (productions_of entry) (late_cause made entry) commit consumers few small)

-- what stands after entries that have few productions
record HoldsIds (done : List Entry) (run : Run) : Type 0 where
  next : run.next ≡ length done
  made : AreFew done → length done ≤ 2 ^ 32 → HaveIds run.made

HoldsIds-followed : (shape : Shape) (done : List Entry) (run : Run) (entry : Entry) → IsTopology shape → HoldsIds done run
    → HoldsIds (done ++ entry ∷ []) (followed shape run entry)
HoldsIds-followed shape done run entry rules holds = record {
  next = let old = holds.next in omega (arith, old, length-append done (entry ∷ []));
  made = λ few short.
      let old = holds.next in
      let long = length-append done (entry ∷ []) in
      each-append (λ (d : Delivery). IsId d.id) run.made (deliveries_of shape run.made run.next entry)
      (holds.made (each-begins (λ e. length (productions_of e) ≤ 8) done (done ++ entry ∷ []) (entry ∷ [], refl) few)
      (omega (arith, short, long)))
      (entry-ids shape run.made run.next entry rules
      (each-behind (λ e. length (productions_of e) ≤ 8) done (entry ∷ []) few).0 (omega (arith, short, long, old)));
}

-- what a legal history made
pub legal-made_ids : (case : CaseShape) (history : List Entry) → IsRunnable case → IsLegal case history → length history ≤ 2 ^ 32
    → AllByRecursion (λ (d : Delivery). IsId d.id) (run_of case.topology history).made
legal-made_ids case history runs legal short =
    let holds : HoldsIds history (run_of case.topology history) =
    along_all case.topology HoldsIds (λ done run entry holds. HoldsIds-followed case.topology done run entry runs.topology holds)
    history [] empty_run (record { next = refl; made = λ few short. tt }) in
    holds.made (legal-on_parts case history legal).productions short

-- an id of a delivery that is found can be printed
found-id : (id : RecordId) (ds : List Delivery) (d : Delivery) → HaveIds ds → found_delivery id ds ≡ Some d → IsId id
found-id id ds d each found = subst IsId (same_id-true d.id id (find-passes (λ (e : Delivery). same_id e.id id) ds d found))
    (find-each (λ (e : Delivery). IsId e.id) (λ (e : Delivery). same_id e.id id) ds d each found)

-- the id of what waits
pub waiting-id : (case : CaseShape) (history : List Entry) (id : RecordId) (d : Delivery) → IsRunnable case → IsLegal case history
    → length history ≤ 2 ^ 32 → found_delivery id (run_of case.topology history).unhandled ≡ Some d → IsId id
waiting-id case history id d runs legal short found =
    let run = run_of case.topology history in
    found-id id run.unhandled d (subst HaveIds (sym (legal-tells case history legal).waiting)
    (each-filter (λ (e : Delivery). IsId e.id) (is_left history) run.made (legal-made_ids case history runs legal short))) found

-- the id of what is pending in a row
pub pending-id : (case : CaseShape) (history : List Entry) (row : RowName) (id : RecordId) → IsRunnable case → IsLegal case history
    → length history ≤ 2 ^ 32 → IsSome (found_delivery id (row_of case.topology (run_of case.topology history) row).pending) → IsId id
pending-id case history row id runs legal short pending =
    let run = run_of case.topology history in
    by_found (found_delivery id (row_of case.topology run row).pending) refl pending
  where
    by_found : (o : Option Delivery) → found_delivery id (row_of case.topology (run_of case.topology history) row).pending ≡ o
        → IsSome o → IsId id
    by_found None found some = absurd (cc)
    by_found (Some d) found some =
        let run = run_of case.topology history in
        let pending = (row_of case.topology run row).pending in
        let made = find-each (λ (e : Delivery). found_delivery e.id run.made ≡ Some e) (λ (e : Delivery). same_id e.id id) pending d
        (row_of-made case.topology run row (pending-made case.topology history)) found in
        subst IsId (same_id-true d.id id (find-passes (λ (e : Delivery). same_id e.id id) pending d found))
        (found-id d.id run.made d (legal-made_ids case history runs legal short) made)
