-- The least id that is known of a sender is the least that is pending, and its number is the floor.
use Rattle.std.proofs.Common.{◌≡◌, ◌<◌, ◌≤◌, true, false, cond, List, [], ◌∷◌, length, map, fold, refl, sym, ◌∙◌, ap, subst, arith, inl, inr}
use Rattle.std.specs.Prelude.{◌↔◌, ◌⊎◌, min, Option, Some, None, IfSome, unwrap_or}
use Rattle.std.specs.Option.{is_some}
use Rattle.std.specs.List.{AllByRecursion}
use Rattle.std.specs.BTreeMap.{is_at}
use Rattle.std.specs.Cmp.{nat_cmp_is, tied_itself}
use Rattle.std.specs.Ordering.{is_gt, is_eq}
use Rattle.std.specs.declared.cmp.Ordering.TheVariants.{Greater}
use Rattle.std.proofs.lemmas.Bool.{cases_lt}
use Rattle.mw_types.specs.declared.identity.RecordId.{RecordId}
use Rattle.mw_types.specs.declared.identity.RowName.{RowName}
use Rattle.mw_types.specs.declared.delivery.Delivery.{Delivery}
use Rattle.mw_types.specs.declared.entry.Entry.{Entry}
use Rattle.mw_types.specs.Orders.{id_cmp, row_cmp}
use Rattle.mw_types.proofs.OrderLaws.{id_cmp-total, row_cmp-total}
use Rattle.topology.specs.Shapes.{Shape}
use Rattle.row_parts.specs.Contents.{Contents, fresh, found_delivery}
use Rattle.run_history.specs.Cases.{fresh_of}
use Rattle.run_history.specs.Runs.{Run, run_of, row_of, row_in}
use Rattle.run_history.specs.Legal.{floor_of}
use Rattle.run_history.proofs.Lookups.{each_found}
use Rattle.run_history.specs.Finished.{all_pending}
use Rattle.list_lemmas.proofs.Lists.{none_some, each-weaker, each-flat_map, flat_map-each, found_of_each}
use Rattle.history_laws.proofs.LowLaws.{AreRowsInOrder, rows-in_order}
use Rattle.history_laws.proofs.FloorLaws.{floor_of-bound, row_of-above}
use Rattle.history_laws.proofs.IdLaws.{next-length}
use Rattle.book.specs.Senders.{IsPendingIn, AreSenders, IsLeastSent, sender_of}
use Rattle.book.specs.Sending.{IsLeastKnown}
use Rattle.book.proofs.SenderSteps.{found-each, each-found, pending-before}

-- what holds of each id that is pending in a row holds of each delivery in each row
pending-rows : (shape : Shape) (run : Run) (P : RecordId → Type 0) → AreRowsInOrder run
    → ((id : RecordId) (name : RowName) → IsPendingIn shape run id name → P id)
    → AllByRecursion (λ (r : RowName × Contents). AllByRecursion (λ (d : Delivery). P d.id) r.1.pending) run.rows
pending-rows shape run P order all =
    each-weaker (λ (r : RowName × Contents). row_in run r.0 ≡ Some r.1)
    (λ (r : RowName × Contents). AllByRecursion (λ (d : Delivery). P d.id) r.1.pending)
    (λ r there. each-found P r.1.pending (λ id found. all id r.0
    (subst (λ o. is_some (found_delivery id (unwrap_or o (fresh (fresh_of shape r.0.part))).pending) ≡ true) (sym there) found)))
    run.rows (each_found row_cmp-total run.rows order.sorted)

-- and what holds of each delivery that is pending holds of each id that is pending in a row
pending-each : (shape : Shape) (run : Run) (P : RecordId → Type 0) (id : RecordId) (name : RowName)
    → AllByRecursion (λ (d : Delivery). P d.id) (all_pending run) → IsPendingIn shape run id name → P id
pending-each shape run P id name each pending =
    found-each P id (row_of shape run name).pending
    (found_of_each (λ (c : Contents). AllByRecursion (λ (d : Delivery). P d.id) c.pending) (is_at (row_cmp name)) run.rows
    (fresh (fresh_of shape name.part))
    (flat_map-each (λ (d : Delivery). P d.id) (λ (r : RowName × Contents). r.1.pending) run.rows each) tt) pending

-- what is known first and least of senders is the least that is pending
pub least-first : (shape : Shape) (run : Run) (sent : List (RecordId × RowName)) (id : RecordId) (name : RowName)
    → AreSenders shape run sent
    → sender_of sent id ≡ Some name → IsLeastKnown sent id → IsLeastSent shape run id name
least-first shape run sent id name are first least = record {
  pending = (are id name).0 first;
  least = λ other sender pending. least other (ap is_some ((are other sender).1 pending));
}

-- no sender is known exactly where nothing is pending in any row
pub none-pending : (shape : Shape) (history : List Entry) (sent : List (RecordId × RowName)) → AreSenders shape (run_of shape history) sent
    → (sent ≡ []) ↔ (all_pending (run_of shape history) ≡ [])
none-pending shape history sent are = (forth, back sent are)
  where
    run : Run
    run = run_of shape history

    by_each : (ds : List Delivery) → AllByRecursion (λ (d : Delivery). ⊥) ds → ds ≡ []
    by_each [] each = refl
    by_each (d ∷ ds) each = absurd each.0

    forth : sent ≡ [] → all_pending run ≡ []
    forth empty =
        by_each (all_pending run) (each-flat_map (λ (d : Delivery). ⊥) (λ (r : RowName × Contents). r.1.pending) run.rows
        (pending-rows shape run (λ id. ⊥) (rows-in_order shape history)
        (λ id name pending. none_some name (sym (ap (λ (l : List (RecordId × RowName)). sender_of l id) empty) ∙ (are id name).1 pending))))

    back : (known : List (RecordId × RowName)) → AreSenders shape run known → all_pending run ≡ [] → known ≡ []
    back [] are none = refl
    back ((id, name) ∷ rest) are none =
        absurd (pending-each shape run (λ i. ⊥) id name (subst (AllByRecursion (λ (d : Delivery). ⊥)) (sym none) tt)
        ((are id name).0 (ap (λ o. cond (is_eq o) (Some name) (sender_of rest id)) (tied_itself id_cmp-total id))))

-- an id that is not above another has no greater number
number-below : (id other : RecordId) → is_gt (id_cmp id other) ≡ false → id.commit ≤ other.commit
number-below id other low = by_case (cases_lt other.commit id.commit)
  where
    by_case : (other.commit < id.commit) ⊎ (id.commit ≤ other.commit) → id.commit ≤ other.commit
    by_case (inl greater) = absurd (cc (nat_cmp_is id.commit other.commit Greater greater))
    by_case (inr le) = le

-- the number of the least id that is pending is the floor
pub floor-least : (shape : Shape) (history : List Entry) (id : RecordId) (name : RowName) → IsLeastSent shape (run_of shape history) id name
    → id.commit ≡ floor_of (run_of shape history)
floor-least shape history id name first =
    let run = run_of shape history in
    let above : id.commit ≤ floor_of run = floor_of-bound id.commit run (record {
      next = omega (arith, pending-before shape history id name first.pending, next-length shape history);
      pending = pending-rows shape run (λ i. id.commit ≤ i.commit) (rows-in_order shape history)
          (λ other sender pending. number-below id other (first.least other sender pending));
    }) in
    let below : floor_of run ≤ id.commit =
    found-each (λ i. floor_of run ≤ i.commit) id (row_of shape run name).pending (row_of-above shape run name) first.pending in
    omega (arith, above, below)

-- the floor is the number of the next entry where nothing is pending
pub floor-none : (shape : Shape) (history : List Entry) → all_pending (run_of shape history) ≡ []
    → length history ≡ floor_of (run_of shape history)
floor-none shape history none =
    sym (next-length shape history) ∙ sym (ap (λ (ds : List Delivery). fold min (run_of shape history).next
    (map (λ (d : Delivery). d.id.commit) ds)) none)

-- what is first known of senders, as a caller of a book sees it
pub least-found : {N : Type 0} (shape : Shape) (run : Run) (sent : List (RecordId × RowName)) (found : Option (RecordId × N))
    (named : N → RowName) → AreSenders shape run sent
    → IfSome found (λ p. sender_of sent p.0 ≡ Some (named p.1)) → IfSome found (λ p. IsLeastKnown sent p.0)
    → IfSome found (λ p. IsLeastSent shape run p.0 (named p.1))
least-found shape run sent None named are sender least = tt
least-found shape run sent (Some p) named are sender least = least-first shape run sent p.0 (named p.1) are sender least
