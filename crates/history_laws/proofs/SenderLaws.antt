-- What is pending in a row was made by an entry on the row, so no id is pending in two rows.
use Rattle.std.proofs.Common.{◌≡◌, ◌+◌, List, [], ◌∷◌, ◌++◌, length, refl, sym, ◌∙◌, ap}
use Rattle.std.specs.Prelude.{Some, not, slice_get}
use Rattle.std.specs.List.{AllByRecursion}
use Rattle.mw_types.specs.declared.identity.RecordId.{RecordId}
use Rattle.mw_types.specs.declared.identity.RowName.{RowName}
use Rattle.mw_types.specs.declared.delivery.Delivery.{Delivery}
use Rattle.mw_types.specs.declared.entry.Entry.{Entry}
use Rattle.mw_types.specs.declared.entry.Entry.TheVariants.{Inject, Handle, Fire, Ack}
use Rattle.topology.specs.Shapes.{Shape}
use Rattle.row_parts.specs.Contents.{Contents, same_id, found_delivery}
use Rattle.run_history.specs.Made.{row_written, deliveries_of}
use Rattle.run_history.specs.Runs.{Run, run_of, row_of, followed, changed, empty_run}
use Rattle.list_lemmas.proofs.Lists.{some_same, each-append, each-weaker, each-filter, find-each, find-passes}
use Rattle.run_history.proofs.Beginnings.{slice_get-more, slice_get-last}
use Rattle.history_laws.specs.Ids.{IsMadeOn}
use Rattle.history_laws.proofs.Along.{along_all}
use Rattle.history_laws.proofs.Made.{each_of_commit}
use Rattle.history_laws.proofs.IdLaws.{same_id-true}
use Rattle.history_laws.proofs.RowSteps.{row_of-step}

-- a delivery stays made by its entry where more entries follow
pub IsMadeOn-more : (history : List Entry) (name : RowName) (d : Delivery) (more : List Entry) → IsMadeOn history name d
    → IsMadeOn (history ++ more) name d
IsMadeOn-more history name d more on = record {
  entry = on.entry;
  numbered = slice_get-more history d.id.commit on.entry more on.numbered;
  on_row = on.on_row;
}

-- what an entry leaves pending in its row was made by entries on the row
changed-on : (history : List Entry) (name : RowName) (entry : Entry) (sent : List Delivery) (row : Contents)
    → AllByRecursion (IsMadeOn history name) row.pending → AllByRecursion (IsMadeOn history name) sent
    → AllByRecursion (IsMadeOn history name) (changed entry sent row).pending
changed-on history name (Inject seq part line item) sent row old new = each-append (IsMadeOn history name) row.pending sent old new
changed-on history name (Handle seq row_name id effects) sent row old new = each-append (IsMadeOn history name) row.pending sent old new
changed-on history name (Fire seq row_name timer mark effects) sent row old new = each-append
    (IsMadeOn history name) row.pending sent old new
changed-on history name (Ack seq row_name id) sent row old new = each-filter (IsMadeOn history name)
    (λ (d : Delivery). not (same_id d.id id)) row.pending old
changed-on history name _ sent row old new = old

-- what is pending in each row was made by entries on the row
pub record ArePendingOn (shape : Shape) (history : List Entry) (run : Run) : Type 0 where
  pub next : run.next ≡ length history
  pub each : (name : RowName) → AllByRecursion (IsMadeOn history name) (row_of shape run name).pending

-- one more entry keeps it so
pub ArePendingOn-followed : (shape : Shape) (history : List Entry) (run : Run) (entry : Entry) → ArePendingOn shape history run
    → ArePendingOn shape (history ++ entry ∷ []) (followed shape run entry)
ArePendingOn-followed shape history run entry on = record {
  next = ap (λ n. n + 1) on.next ∙ sym (Rattle.std.proofs.lemmas.List.length_push history entry);
  each = λ name. row_of-step shape run entry name (λ (c : Contents). AllByRecursion (IsMadeOn (history ++ entry ∷ []) name) c.pending)
      (old name)
      (λ written. changed-on (history ++ entry ∷ []) name entry (deliveries_of shape run.made run.next entry) (row_of shape run name)
      (old name) (new name written));
}
  where
    old : (name : RowName) → AllByRecursion (IsMadeOn (history ++ entry ∷ []) name) (row_of shape run name).pending
    old name = each-weaker (IsMadeOn history name) (IsMadeOn (history ++ entry ∷ []) name)
        (λ d was. IsMadeOn-more history name d (entry ∷ []) was) (row_of shape run name).pending (on.each name)

    new : (name : RowName) → row_written entry ≡ Some name
        → AllByRecursion (IsMadeOn (history ++ entry ∷ []) name) (deliveries_of shape run.made run.next entry)
    new name written = each-weaker (λ (d : Delivery). d.id.commit ≡ run.next) (IsMadeOn (history ++ entry ∷ []) name)
        (λ d is. record {
          entry = entry;
          numbered = ap (slice_get (history ++ entry ∷ [])) (is ∙ on.next)
              ∙ slice_get-last history entry;
          on_row = written;
        })
        (deliveries_of shape run.made run.next entry) (each_of_commit shape run.made run.next entry)

-- what is pending in a row after a history was made by entries on the row
pub pending-on : (shape : Shape) (history : List Entry) → ArePendingOn shape history (run_of shape history)
pending-on shape history = along_all shape (ArePendingOn shape) (ArePendingOn-followed shape) history [] empty_run
    (record { next = refl; each = λ name. tt })

-- an id is pending in one row at most, where what is pending was made by entries on its row
pub one_sender-on : (shape : Shape) (history : List Entry) (run : Run) → ArePendingOn shape history run
    → (one other : RowName) (id : RecordId) (d e : Delivery)
    → found_delivery id (row_of shape run one).pending ≡ Some d → found_delivery id (row_of shape run other).pending ≡ Some e → one ≡ other
one_sender-on shape history run pending one other id d e here there =
    let on = find-each (IsMadeOn history one) (λ (f : Delivery). same_id f.id id) (row_of shape run one).pending d
    (pending.each one) here in
    let also = find-each (IsMadeOn history other) (λ (f : Delivery). same_id f.id id) (row_of shape run other).pending e
    (pending.each other) there in
    let commits : d.id.commit ≡ e.id.commit = ap (λ (i : RecordId). i.commit)
    (same_id-true d.id id (find-passes (λ (f : Delivery). same_id f.id id) (row_of shape run one).pending d here)
    ∙ sym (same_id-true e.id id (find-passes (λ (f : Delivery). same_id f.id id) (row_of shape run other).pending e there))) in
    let entries : on.entry ≡ also.entry = some_same on.entry also.entry
    (sym on.numbered ∙ ap (slice_get history) commits ∙ also.numbered) in
    some_same one other (sym on.on_row ∙ ap row_written entries ∙ also.on_row)

-- an id is pending in one row at most
pub one_sender : (shape : Shape) (history : List Entry) (one other : RowName) (id : RecordId) (d e : Delivery)
    → found_delivery id (row_of shape (run_of shape history) one).pending ≡ Some d
    → found_delivery id (row_of shape (run_of shape history) other).pending ≡ Some e → one ≡ other
one_sender shape history = one_sender-on shape history (run_of shape history) (pending-on shape history)
