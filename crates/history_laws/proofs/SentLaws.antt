-- What is pending was made, so what is pending and does not wait is handled.
use Rattle.std.proofs.Common.{◌≡◌, true, false, List, ◌++◌, refl, sym, ◌∙◌, ap}
use Rattle.std.specs.Prelude.{Some, None, not}
use Rattle.std.specs.List.{AllByRecursion}
use Rattle.mw_types.specs.declared.identity.RecordId.{RecordId}
use Rattle.mw_types.specs.declared.identity.RowName.{RowName}
use Rattle.mw_types.specs.declared.delivery.Delivery.{Delivery}
use Rattle.mw_types.specs.declared.entry.Entry.{Entry}
use Rattle.mw_types.specs.declared.entry.Entry.TheVariants.{Inject, Handle, Fire, Ack}
use Rattle.topology.specs.Shapes.{Shape}
use Rattle.row_parts.specs.Contents.{Contents, same_id, found_delivery}
use Rattle.run_history.specs.Cases.{CaseShape}
use Rattle.run_history.specs.Made.{deliveries_of}
use Rattle.run_history.specs.Runs.{Run, run_of, row_of, followed, changed, empty_run}
use Rattle.run_history.specs.Legal.{IsLegal}
use Rattle.run_history.specs.Finished.{is_handled}
use Rattle.history_laws.specs.Ids.{is_left}
use Rattle.list_lemmas.proofs.Lists.{none_some, each-append, each-weaker, each-both, each-filter, find-each, find-kept, find-more, find-passes}
use Rattle.history_laws.proofs.Along.{along_any}
use Rattle.history_laws.proofs.Made.{each_of_commit}
use Rattle.history_laws.proofs.IdLaws.{same_id-true, each_found_delivery, made-ascend, IsMadeInOrder, IsMadeInOrder-followed, IsMadeInOrder-empty, legal-ids}
use Rattle.history_laws.proofs.PendingLaws.{found_behind}
use Rattle.history_laws.proofs.RowSteps.{each_row-followed, row_of-each}

-- each of these deliveries is the one that was made under its id
abbrev pub AreMade : List Delivery → List Delivery → Type 0
AreMade made = AllByRecursion (λ (d : Delivery). found_delivery d.id made ≡ Some d)

-- what was made is in order, and what is pending was made
pub record ArePendingMade (run : Run) : Type 0 where
  pub order : IsMadeInOrder run
  pub each : AllByRecursion (λ (r : RowName × Contents). AreMade run.made r.1.pending) run.rows

-- what was made stays made
AreMade-more : (made more ds : List Delivery) → AreMade made ds → AreMade (made ++ more) ds
AreMade-more made more ds each = each-weaker (λ (d : Delivery). found_delivery d.id made ≡ Some d)
    (λ (d : Delivery). found_delivery d.id (made ++ more) ≡ Some d)
    (λ d found. find-more (λ (e : Delivery). same_id e.id d.id) made more d found) ds each

-- what an entry makes is made
sent-made : (shape : Shape) (run : Run) (entry : Entry) → IsMadeInOrder run
    → AreMade (run.made ++ deliveries_of shape run.made run.next entry) (deliveries_of shape run.made run.next entry)
sent-made shape run entry order =
    let sent = deliveries_of shape run.made run.next entry in
    each-weaker (λ (d : Delivery). (found_delivery d.id sent ≡ Some d) × (d.id.commit ≡ run.next))
    (λ (d : Delivery). found_delivery d.id (run.made ++ sent) ≡ Some d)
    (λ d (facts : (found_delivery d.id sent ≡ Some d) × (d.id.commit ≡ run.next)). found_behind run.next run.made sent d order.below
    facts.1 facts.0) sent
    (each-both (λ (d : Delivery). found_delivery d.id sent ≡ Some d) (λ (d : Delivery). d.id.commit ≡ run.next) sent
    (each_found_delivery sent (made-ascend shape run.made run.next entry)) (each_of_commit shape run.made run.next entry))

-- what an entry leaves pending in its row was made
changed-made : (made : List Delivery) (entry : Entry) (sent : List Delivery) (row : Contents) → AreMade made row.pending → AreMade made sent
    → AreMade made (changed entry sent row).pending
changed-made made (Inject seq part line item) sent row old new = each-append
    (λ (d : Delivery). found_delivery d.id made ≡ Some d) row.pending sent old new
changed-made made (Handle seq name id effects) sent row old new = each-append
    (λ (d : Delivery). found_delivery d.id made ≡ Some d) row.pending sent old new
changed-made made (Fire seq name timer mark effects) sent row old new = each-append
    (λ (d : Delivery). found_delivery d.id made ≡ Some d) row.pending sent old new
changed-made made (Ack seq name id) sent row old new = each-filter (λ (d : Delivery). found_delivery d.id made ≡ Some d)
    (λ (d : Delivery). not (same_id d.id id)) row.pending old
changed-made made _ sent row old new = old

-- what is pending in the row of a name was made
pub row_of-made : (shape : Shape) (run : Run) (name : RowName) → ArePendingMade run → AreMade run.made (row_of shape run name).pending
row_of-made shape run name made = row_of-each shape run name (λ (c : Contents). AreMade run.made c.pending) made.each tt

-- one more entry keeps what is pending made
pub ArePendingMade-followed : (shape : Shape) (run : Run) (entry : Entry) → ArePendingMade run → ArePendingMade (followed shape run entry)
ArePendingMade-followed shape run entry made =
    let sent = deliveries_of shape run.made run.next entry in record {
      order = IsMadeInOrder-followed shape run entry made.order;
      each = each_row-followed shape run entry (λ (c : Contents). AreMade run.made c.pending)
          (λ (c : Contents). AreMade (run.made ++ sent) c.pending) made.each
          (λ c each. AreMade-more run.made sent c.pending each)
          (λ name written. changed-made (run.made ++ sent) entry sent (row_of shape run name)
          (AreMade-more run.made sent (row_of shape run name).pending (row_of-made shape run name made))
          (sent-made shape run entry made.order));
    }

-- what is pending after a history was made
pub pending-made : (shape : Shape) (history : List Entry) → ArePendingMade (run_of shape history)
pending-made shape history = along_any shape ArePendingMade (ArePendingMade-followed shape) history empty_run
    (record { order = IsMadeInOrder-empty; each = tt })

-- a delivery that is pending in a row is the one that was made under its id
pub pending-as_made : (shape : Shape) (history : List Entry) (name : RowName) (id : RecordId) (d : Delivery)
    → found_delivery id (row_of shape (run_of shape history) name).pending ≡ Some d → found_delivery id (run_of shape history).made ≡ Some d
pending-as_made shape history name id d found =
    let run = run_of shape history in
    let own : d.id ≡ id = same_id-true d.id id (find-passes (λ (e : Delivery). same_id e.id id) (row_of shape run name).pending d found) in
    ap (λ (i : RecordId). found_delivery i run.made) (sym own)
    ∙ find-each (λ (e : Delivery). found_delivery e.id run.made ≡ Some e) (λ (e : Delivery). same_id e.id id)
    (row_of shape run name).pending d
    (row_of-made shape run name (pending-made shape history)) found

-- a delivery that is pending, and does not wait, is handled
pub pending-handled : (case : CaseShape) (history : List Entry) (name : RowName) (id : RecordId) (d : Delivery) → IsLegal case history
    → found_delivery id (row_of case.topology (run_of case.topology history) name).pending ≡ Some d
    → found_delivery id (run_of case.topology history).unhandled ≡ None → is_handled id history ≡ true
pending-handled case history name id d legal pending none =
    let run = run_of case.topology history in
    let made : found_delivery id run.made ≡ Some d = pending-as_made case.topology history name id d pending in
    let own : d.id ≡ id = same_id-true d.id id (find-passes (λ (e : Delivery). same_id e.id id) run.made d made) in
    ap (λ (i : RecordId). is_handled i history) (sym own)
    ∙ (elim (is_handled d.id history) as (λ b. is_handled d.id history ≡ b → b ≡ true) [
      | true ↦ λ e. refl
      | false ↦ λ e. absurd (none_some d (sym none ∙ ap (found_delivery id) (legal-ids case history legal).waiting
          ∙ find-kept (λ (e : Delivery). same_id e.id id) (is_left history) run.made d made (ap not e)))
    ] refl)
