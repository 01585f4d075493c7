-- As many deliveries are pending as were made and are not acknowledged.
use Rattle.std.proofs.Common.{◌≡◌, ◌+◌, ◌&&◌, true, false, cond, List, [], ◌∷◌, ◌++◌, length, refl, sym, ◌∙◌, ap, arith, length-append}
use Rattle.std.specs.Prelude.{Option, Some, None, IsSome, filter, not}
use Rattle.std.specs.List.Sorted.{IsStrictlySortedBy}
use Rattle.std.specs.declared.cmp.Ordering.TheVariants.{Less}
use Rattle.std.proofs.lemmas.List.Elements.{filter-append, filter_agree}
use Rattle.std.proofs.lemmas.List.Kept.{IsStrictlySortedBy-filter}
use Rattle.mw_types.specs.declared.identity.RecordId.{RecordId}
use Rattle.mw_types.specs.declared.identity.RowName.{RowName}
use Rattle.mw_types.specs.declared.delivery.Delivery.{Delivery}
use Rattle.mw_types.specs.declared.entry.Entry.{Entry}
use Rattle.mw_types.specs.declared.entry.Entry.TheVariants.{Claim, Inject, Handle, Fire, Ack, Purge}
use Rattle.topology.specs.Shapes.{Shape}
use Rattle.row_parts.specs.Contents.{Contents, same_id, delivery_cmp, found_delivery}
use Rattle.run_history.specs.Cases.{CaseShape}
use Rattle.run_history.specs.Made.{row_written, deliveries_of}
use Rattle.run_history.specs.Runs.{Run, run_of, row_of, followed}
use Rattle.run_history.specs.Legal.{MayFollow, IsLegal}
use Rattle.run_history.specs.Finished.{acknowledges, is_acknowledged, all_pending}
use Rattle.history_laws.specs.Ids.{is_unacknowledged}
use Rattle.list_lemmas.proofs.Lists.{none_some, each-weaker, filter-filter, filter-all, find-each, find-kept, find-passes}
use Rattle.history_laws.proofs.Along.{along_history}
use Rattle.history_laws.proofs.Made.{each_of_commit}
use Rattle.history_laws.proofs.IdLaws.{same_id-true, passes_once, left_push, none_taken}
use Rattle.history_laws.proofs.LowLaws.{AreRowsInOrder, AreRowsInOrder-followed, AreRowsInOrder-empty}
use Rattle.history_laws.proofs.RowSteps.{row_of-here, row_of-in_order}
use Rattle.history_laws.proofs.SentLaws.{row_of-made}
use Rattle.history_laws.proofs.StoredLaws.{count-followed}
use Rattle.history_laws.proofs.AckLaws.{AreAcknowledged, AreAcknowledged-followed, AreAcknowledged-empty, is_acknowledged-push, acknowledges_not-next, acknowledged-made}

-- of deliveries in order one is taken away under an id that is found
length-without : (id : RecordId) (ds : List Delivery) (d : Delivery) → IsStrictlySortedBy delivery_cmp ds → found_delivery id ds ≡ Some d
    → length (filter (λ (e : Delivery). not (same_id e.id id)) ds) + 1 ≡ length ds
unfolding IsStrictlySortedBy
length-without id [] d sorted found = absurd (none_some d found)
length-without id (e ∷ es) d sorted found =
    elim (same_id e.id id) as (λ b. same_id e.id id ≡ b → cond b (Some e) (found_delivery id es) ≡ Some d
    → length (cond (not b) (e ∷ filter (λ (e : Delivery). not (same_id e.id id)) es)
    (filter (λ (e : Delivery). not (same_id e.id id)) es)) + 1 ≡ length (e ∷ es)) [
      | true ↦ λ same f.
          let rest : filter (λ (e : Delivery). not (same_id e.id id)) es ≡ es = filter-all (λ (e : Delivery). not (same_id e.id id)) es
          (each-weaker (λ y. delivery_cmp e y ≡ Less) (λ (y : Delivery). not (same_id y.id id) ≡ true)
          (λ y less. ap not (passes_once id e y less same)) es sorted.0) in
          ap (λ (l : List Delivery). length l + 1) rest ∙ omega arith
      | false ↦ λ other f. let rest = length-without id es d sorted.1 f in omega (arith, rest)
    ] refl found

-- as many deliveries are pending as were made and are not acknowledged
pub record IsCounted (case : CaseShape) (history : List Entry) (run : Run) : Type 0 where
  pub acked : AreAcknowledged case history run
  pub order : AreRowsInOrder run
  pub count : length (all_pending run) ≡ length (filter (is_unacknowledged history) run.made)

-- what an entry acknowledges leaves the list of what is not
left-filter : (history : List Entry) (entry : Entry) (made : List Delivery)
    → filter (is_unacknowledged (history ++ entry ∷ [])) made ≡ filter (λ (d : Delivery). not (acknowledges d.id entry))
    (filter (is_unacknowledged history) made)
left-filter history entry made =
    filter_agree (is_unacknowledged (history ++ entry ∷ [])) (λ d. is_unacknowledged history d && not (acknowledges d.id entry))
    (λ d. ap not (is_acknowledged-push d.id history entry) ∙ left_push (is_acknowledged d.id history) (acknowledges d.id entry)) made
    ∙ sym (filter-filter (λ (d : Delivery). not (acknowledges d.id entry)) (is_unacknowledged history) made)

-- what an entry made is not acknowledged
new-left : (case : CaseShape) (history : List Entry) (run : Run) (entry : Entry) → AreAcknowledged case history run
    → MayFollow case run entry
    → filter (is_unacknowledged (history ++ entry ∷ []))
    (deliveries_of case.topology run.made run.next entry) ≡ deliveries_of case.topology run.made run.next entry
new-left case history run entry acked may =
    filter-all (is_unacknowledged (history ++ entry ∷ [])) (deliveries_of case.topology run.made run.next entry)
    (each-weaker (λ (d : Delivery). d.id.commit ≡ run.next) (λ (d : Delivery). is_unacknowledged (history ++ entry ∷ []) d ≡ true)
    (λ d is. ap not (acknowledges_not-next run.made run.next d (history ++ entry ∷ []) acked.made.order.below is
    (Rattle.list_lemmas.proofs.Lists.each-append (Rattle.history_laws.proofs.AckLaws.WasPending run.made) history (entry ∷ []) acked.was
    (acknowledged-made case run entry acked.made may, tt))))
    (deliveries_of case.topology run.made run.next entry) (each_of_commit case.topology run.made run.next entry))

-- how many are not acknowledged after one more entry
left-count : (case : CaseShape) (history : List Entry) (run : Run) (entry : Entry) → AreAcknowledged case history run
    → MayFollow case run entry
    → length (filter (is_unacknowledged (history ++ entry ∷ [])) (followed case.topology run entry).made)
    ≡ length (filter (λ (d : Delivery). not (acknowledges d.id entry)) (filter (is_unacknowledged history) run.made)) + length
    (deliveries_of case.topology run.made run.next entry)
left-count case history run entry acked may =
    let sent = deliveries_of case.topology run.made run.next entry in
    ap length (filter-append (is_unacknowledged (history ++ entry ∷ [])) run.made sent)
    ∙ length-append (filter (is_unacknowledged (history ++ entry ∷ [])) run.made) (filter (is_unacknowledged (history ++ entry ∷ [])) sent)
    ∙ (λ i. length (left-filter history entry run.made i) + length (new-left case history run entry acked may i))

-- one more entry counts alike
count-step : (case : CaseShape) (history : List Entry) (run : Run) (entry : Entry) → IsCounted case history run → MayFollow case run entry
    → length (all_pending (followed case.topology run entry)) ≡ length
    (filter (is_unacknowledged (history ++ entry ∷ [])) (followed case.topology run entry).made)
count-step case history run entry counted may = by_kind entry may ∙ sym (left-count case history run entry counted.acked may)
  where
    shape : Shape
    shape = case.topology

    made : List Delivery
    made = filter (is_unacknowledged history) run.made

    -- where nothing is acknowledged
    same : length made ≡ length (filter (λ (d : Delivery). not false) made)
    same = ap length (none_taken made)

    -- an entry that makes something
    makes : (entry : Entry) (name : RowName) → row_written entry ≡ Some name
        → (row_of shape (followed shape run entry) name).pending ≡
        (row_of shape run name).pending ++ deliveries_of shape run.made run.next entry
        → length (all_pending (followed shape run entry)) ≡ length (filter (λ (d : Delivery). not false) made) + length
        (deliveries_of shape run.made run.next entry)
    makes entry name written is =
        let step = count-followed shape run entry name (λ (c : Contents). c.pending) counted.order written refl in
        let more = ap length is ∙ length-append (row_of shape run name).pending (deliveries_of shape run.made run.next entry) in
        omega (arith, step, more, counted.count, same)

    by_kind : (entry : Entry) → MayFollow case run entry
        → length (all_pending (followed shape run entry)) ≡ length
        (filter (λ (d : Delivery). not (acknowledges d.id entry)) made) + length (deliveries_of shape run.made run.next entry)
    by_kind (Claim worker interval) may = omega (arith, counted.count, same)
    by_kind (Inject seq part line item) may = makes (Inject seq part line item) (record { part = part; key = [] }) refl
        (ap (λ (c : Contents). c.pending) (row_of-here shape run (Inject seq part line item) (record { part = part; key = [] }) refl))
    by_kind (Handle seq row id effects) may = makes (Handle seq row id effects) row refl
        (ap (λ (c : Contents). c.pending) (row_of-here shape run (Handle seq row id effects) row refl))
    by_kind (Fire seq row timer mark effects) may = makes (Fire seq row timer mark effects) row refl
        (ap (λ (c : Contents). c.pending) (row_of-here shape run (Fire seq row timer mark effects) row refl))
    by_kind (Ack seq row id) may = acks (found_delivery id (row_of shape run row).pending) refl may.pending
      where
        acks : (o : Option Delivery) → found_delivery id (row_of shape run row).pending ≡ o → IsSome o
            → length (all_pending (followed shape run (Ack seq row id))) ≡ length
            (filter (λ (d : Delivery). not (same_id d.id id)) made) + 0
        acks None at is = absurd (cc)
        acks (Some d) at is =
            let step = count-followed shape run (Ack seq row id) row (λ (c : Contents). c.pending) counted.order refl refl in
            let left : length (row_of shape (followed shape run (Ack seq row id)) row).pending ≡ length
            (filter (λ (e : Delivery). not (same_id e.id id)) (row_of shape run row).pending) =
            ap (λ (c : Contents). length c.pending) (row_of-here shape run (Ack seq row id) row refl) in
            let fewer = length-without id (row_of shape run row).pending d
            (row_of-in_order shape run row counted.acked.order).ascending at in
            let own : d.id ≡ id = same_id-true d.id id
            (find-passes (λ (e : Delivery). same_id e.id id) (row_of shape run row).pending d at) in
            let was_made : found_delivery id run.made ≡ Some d = ap (λ (i : RecordId). found_delivery i run.made) (sym own)
            ∙ find-each (λ (e : Delivery). found_delivery e.id run.made ≡ Some e) (λ (e : Delivery). same_id e.id id)
            (row_of shape run row).pending d (row_of-made shape run row counted.acked.made) at in
            let not_acked : is_acknowledged d.id history ≡ false = find-each (λ (e : Delivery). is_acknowledged e.id history ≡ false)
            (λ (e : Delivery). same_id e.id id) (row_of shape run row).pending d (counted.acked.left row) at in
            let one_fewer = length-without id made d
            (IsStrictlySortedBy-filter delivery_cmp (is_unacknowledged history) run.made counted.acked.made.order.ascending)
            (find-kept (λ (e : Delivery). same_id e.id id) (is_unacknowledged history) run.made d was_made (ap not not_acked)) in
            omega (arith, step, left, fewer, one_fewer, counted.count)
    by_kind (Purge seq row floor) may =
        let step = count-followed shape run (Purge seq row floor) row (λ (c : Contents). c.pending) counted.order refl refl in
        let kept : length (row_of shape (followed shape run (Purge seq row floor)) row).pending ≡ length (row_of shape run row).pending =
        ap (λ (c : Contents). length c.pending) (row_of-here shape run (Purge seq row floor) row refl) in
        omega (arith, step, kept, counted.count, same)

-- after each legal history as many deliveries are pending as were made and are not acknowledged
pub legal-counted : (case : CaseShape) (history : List Entry) → IsLegal case history → IsCounted case history (run_of case.topology history)
legal-counted case = along_history case (IsCounted case)
    (λ done run entry counted may. record {
      acked = AreAcknowledged-followed case done run entry counted.acked may;
      order = AreRowsInOrder-followed case.topology run entry counted.order;
      count = count-step case done run entry counted may;
    })
    (record { acked = AreAcknowledged-empty case; order = AreRowsInOrder-empty; count = refl })
