-- What was made is pending exactly where it is not acknowledged, and the floor is the least number of what is not.
use Rattle.std.proofs.Common.{◌≡◌, ℕ, zero, suc, ◌<◌, ◌≤◌, Bool, true, false, cond, List, [], ◌∷◌, ◌++◌, length, get_or, map, refl, sym, ◌∙◌, ap, subst, arith, inl, inr}
use Rattle.std.specs.Prelude.{⊤, ◌⊎◌, ◌||◌, Option, Some, None, IsSome, Any, Contains, filter, not, unwrap_or}
use Rattle.std.specs.List.{AllByRecursion, flat_map}
use Rattle.std.proofs.lemmas.List.Folds.{list_any-append}
use Rattle.std.proofs.lemmas.List.Elements.{All-from_recursion}
use Rattle.mw_types.specs.declared.identity.RecordId.{RecordId}
use Rattle.mw_types.specs.declared.identity.RowName.{RowName}
use Rattle.mw_types.specs.declared.delivery.Delivery.{Delivery}
use Rattle.mw_types.specs.declared.entry.Entry.{Entry}
use Rattle.mw_types.specs.declared.entry.Entry.TheVariants.{Claim, Inject, Handle, Fire, Ack, Purge}
use Rattle.topology.specs.Shapes.{Shape}
use Rattle.std.specs.BTreeMap.{is_at}
use Rattle.std.specs.Map.{lookup}
use Rattle.mw_types.specs.Orders.{row_cmp}
use Rattle.mw_types.proofs.OrderLaws.{row_cmp-total}
use Rattle.row_parts.specs.Contents.{Contents, fresh, same_id, found_delivery}
use Rattle.run_history.proofs.Lookups.{each_found}
use Rattle.run_history.specs.Cases.{CaseShape, fresh_of}
use Rattle.run_history.specs.Made.{row_written, deliveries_of}
use Rattle.run_history.specs.Runs.{Run, run_of, row_of, followed, changed, empty_run}
use Rattle.run_history.specs.Legal.{MayFollow, IsLegal, floor_of}
use Rattle.run_history.specs.Finished.{acknowledges, is_acknowledged, all_pending}
use Rattle.history_laws.specs.Ids.{IsSentBy, IsFloor}
use Rattle.list_lemmas.proofs.Lists.{none_some, some_same, each-append, each-all, each-weaker, each-both, each-filter, find-each, find-passes, find-more, filter-passes, each-flat_map}
use Rattle.history_laws.proofs.Along.{along_history}
use Rattle.history_laws.proofs.Made.{each_of_commit}
use Rattle.history_laws.proofs.FloorLaws.{row_of-above, floor_of-reached}
use Rattle.history_laws.proofs.IdLaws.{same_id-true, IsMadeInOrder-empty}
use Rattle.history_laws.proofs.LowLaws.{AreRowsInOrder, rows-in_order}
use Rattle.history_laws.proofs.PendingLaws.{SparesFrom, IsSentBy-followed, sent_pending}
use Rattle.history_laws.proofs.RowSteps.{row_of-here, row_of-elsewhere, on_row_or_not, ArePendingInOrder, ArePendingInOrder-followed}
use Rattle.history_laws.proofs.SentLaws.{ArePendingMade, ArePendingMade-followed, row_of-made}
use Rattle.history_laws.proofs.SenderLaws.{ArePendingOn, ArePendingOn-followed, one_sender-on}

-- whether a record is acknowledged in a history with one more entry
pub is_acknowledged-push : (id : RecordId) (history : List Entry) (entry : Entry)
    → is_acknowledged id (history ++ entry ∷ []) ≡ (is_acknowledged id history || (acknowledges id entry || false))
is_acknowledged-push id history entry = list_any-append (acknowledges id) history (entry ∷ [])

-- two tests that both fail
apart : (a b : Bool) → (a || (b || false)) ≡ false → (a ≡ false) × (b ≡ false)
apart true b e = absurd (cc)
apart false true e = absurd (cc)
apart false false e = (refl, refl)

-- and back
together : (a b : Bool) → a ≡ false → b ≡ false → (a || (b || false)) ≡ false
together true b e f = cc
together false true e f = cc
together false false e f = refl

-- an entry that does not acknowledge a delivery spares it
spared : (entry : Entry) (d : Delivery) → acknowledges d.id entry ≡ false → SparesFrom entry d
spared (Ack seq row id) d e = e
spared _ d e = tt

-- an acknowledged record was made
abbrev pub WasPending : List Delivery → Entry → Type 0
WasPending made (Ack seq row id) = (d : Delivery) × (found_delivery id made ≡ Some d)
WasPending made entry = ⊤

-- what was made stays made
WasPending-more : (made more : List Delivery) (entry : Entry) → WasPending made entry → WasPending (made ++ more) entry
WasPending-more made more (Ack seq row id) was = (was.0, find-more (λ (e : Delivery). same_id e.id id) made more was.0 was.1)
WasPending-more made more _ was = tt

-- no entry of which each acknowledges only what was made has acknowledged what the next entry makes
pub acknowledges_not-next : (made : List Delivery) (n : ℕ) (d : Delivery) (entries : List Entry)
    → AllByRecursion (λ (e : Delivery). e.id.commit < n) made
    → d.id.commit ≡ n → AllByRecursion (WasPending made) entries → is_acknowledged d.id entries ≡ false
acknowledges_not-next made n d [] below is was = refl
acknowledges_not-next made n d (e ∷ es) below is was =
    ap (λ b. b || is_acknowledged d.id es) (here e was.0) ∙ acknowledges_not-next made n d es below is was.1
  where
    here : (entry : Entry) → WasPending made entry → acknowledges d.id entry ≡ false
    here (Claim worker interval) was = refl
    here (Inject seq part line item) was = refl
    here (Handle seq row id effects) was = refl
    here (Fire seq row timer mark effects) was = refl
    here (Ack seq row id) was = elim (same_id d.id id) as (λ t. same_id d.id id ≡ t → t ≡ false) [
      | false ↦ λ _. refl
      | true ↦ λ same.
          let other : was.0.id ≡ id = same_id-true was.0.id id (find-passes (λ (e : Delivery). same_id e.id id) made was.0 was.1) in
          let commit : d.id.commit ≡ was.0.id.commit = ap (λ (i : RecordId). i.commit) (same_id-true d.id id same ∙ sym other) in
          let less : was.0.id.commit < n = find-each (λ (e : Delivery). e.id.commit < n)
          (λ (e : Delivery). same_id e.id id) made was.0 below was.1 in
          absurd (omega (arith, commit, less, is))
    ] refl
    here (Purge seq row floor) was = refl

-- what a legal history and its run have to do with each other by what is acknowledged: what was made and is not acknowledged is
-- pending, and what is pending is not acknowledged
pub record AreAcknowledged (case : CaseShape) (history : List Entry) (run : Run) : Type 0 where
  pub on : ArePendingOn case.topology history run
  pub made : ArePendingMade run
  pub order : ArePendingInOrder run
  pub was : AllByRecursion (WasPending run.made) history
  pub sent : AllByRecursion (λ (d : Delivery). is_acknowledged d.id history ≡ false → IsSentBy case.topology run d) run.made
  pub left : (name : RowName) → AllByRecursion (λ (d : Delivery). is_acknowledged d.id history ≡ false)
      (row_of case.topology run name).pending

-- what may be acknowledged was made
pub acknowledged-made : (case : CaseShape) (run : Run) (entry : Entry) → ArePendingMade run → MayFollow case run entry
    → WasPending run.made entry
acknowledged-made case run (Ack seq row id) made may = there (found_delivery id (row_of case.topology run row).pending) refl may.pending
  where
    there : (o : Option Delivery) → found_delivery id (row_of case.topology run row).pending ≡ o → IsSome o
        → (d : Delivery) × (found_delivery id run.made ≡ Some d)
    there None at is = absurd (cc)
    there (Some d) at is =
        let own : d.id ≡ id = same_id-true d.id id
        (find-passes (λ (e : Delivery). same_id e.id id) (row_of case.topology run row).pending d at) in (
          d,
          ap (λ (i : RecordId). found_delivery i run.made) (sym own)
              ∙ find-each (λ (e : Delivery). found_delivery e.id run.made ≡ Some e) (λ (e : Delivery). same_id e.id id)
              (row_of case.topology run row).pending d
              (row_of-made case.topology run row made) at,
        )
acknowledged-made case run _ made may = tt

-- each element that passes a test is found by it
each-found : (ds : List Delivery) (id : RecordId) → AllByRecursion
    (λ (d : Delivery). same_id d.id id ≡ true → IsSome (found_delivery id ds)) ds
each-found [] id = tt
each-found (d ∷ ds) id = (
  (λ same. ap (λ b. Rattle.std.specs.Option.is_some (cond b (Some d) (found_delivery id ds))) same),
  each-weaker (λ (e : Delivery). same_id e.id id ≡ true → IsSome (found_delivery id ds))
      (λ (e : Delivery). same_id e.id id ≡ true → IsSome (found_delivery id (d ∷ ds)))
      (λ e found same. elim (same_id d.id id) as (λ b. IsSome (cond b (Some d) (found_delivery id ds))) [
        | true ↦ refl
        | false ↦ found same
      ]) ds (each-found ds id),
)

-- an entry acknowledges nothing that is pending in a row but the one that it is on
pending-elsewhere : (case : CaseShape) (history : List Entry) (run : Run) (entry : Entry) (name : RowName)
    → ArePendingOn case.topology history run → MayFollow case run entry
    → (row_written entry ≡ Some name → ⊥) → AllByRecursion (λ (d : Delivery). acknowledges d.id entry ≡ false)
    (row_of case.topology run name).pending
pending-elsewhere case history run (Claim worker interval) name on may elsewhere = each-all (λ (d : Delivery). false ≡ false) (λ d. refl)
    (row_of case.topology run name).pending
pending-elsewhere case history run (Inject seq part line item) name on may elsewhere = each-all (λ (d : Delivery). false ≡ false)
    (λ d. refl) (row_of case.topology run name).pending
pending-elsewhere case history run (Handle seq row id effects) name on may elsewhere = each-all (λ (d : Delivery). false ≡ false)
    (λ d. refl) (row_of case.topology run name).pending
pending-elsewhere case history run (Fire seq row timer mark effects) name on may elsewhere = each-all (λ (d : Delivery). false ≡ false)
    (λ d. refl) (row_of case.topology run name).pending
pending-elsewhere case history run (Ack seq row id) name on may elsewhere =
    each-weaker (λ (d : Delivery). same_id d.id id ≡ true → IsSome (found_delivery id (row_of case.topology run name).pending))
    (λ (d : Delivery). same_id d.id id ≡ false)
    (λ d found. elim (same_id d.id id) as (λ t. same_id d.id id ≡ t → t ≡ false) [
      | false ↦ λ _. refl
      | true ↦ λ same. absurd (two (found_delivery id (row_of case.topology run row).pending)
          (found_delivery id (row_of case.topology run name).pending) refl refl may.pending (found same))
    ] refl) (row_of case.topology run name).pending (each-found (row_of case.topology run name).pending id)
  where
    two : (o p : Option Delivery) → found_delivery id (row_of case.topology run row).pending ≡ o
        → found_delivery id (row_of case.topology run name).pending ≡ p
        → IsSome o → IsSome p → ⊥
    two None p here there is also = absurd (cc)
    two (Some d) None here there is also = absurd (cc)
    two (Some d) (Some e) here there is also = elsewhere (ap Some (one_sender-on case.topology history run on row name id d e here there))
pending-elsewhere case history run (Purge seq row floor) name on may elsewhere = each-all (λ (d : Delivery). false ≡ false) (λ d. refl)
    (row_of case.topology run name).pending

-- what an entry leaves pending in its row is not acknowledged by it, where that holds of what it made
changed-left : (entry : Entry) (sent : List Delivery) (row : Contents)
    → AllByRecursion (λ (d : Delivery). acknowledges d.id entry ≡ false) sent
    → AllByRecursion (λ (d : Delivery). acknowledges d.id entry ≡ false) (changed entry sent row).pending
changed-left (Claim worker interval) sent row new = each-all (λ (d : Delivery). false ≡ false) (λ d. refl) row.pending
changed-left (Inject seq part line item) sent row new = each-all (λ (d : Delivery). false ≡ false) (λ d. refl) (row.pending ++ sent)
changed-left (Handle seq name id effects) sent row new = each-all (λ (d : Delivery). false ≡ false) (λ d. refl) (row.pending ++ sent)
changed-left (Fire seq name timer mark effects) sent row new = each-all (λ (d : Delivery). false ≡ false) (λ d. refl) (row.pending ++ sent)
changed-left (Ack seq name id) sent row new = each-weaker (λ (d : Delivery). not (same_id d.id id) ≡ true)
    (λ (d : Delivery). same_id d.id id ≡ false)
    (λ d kept. off (same_id d.id id) kept) (filter (λ (d : Delivery). not (same_id d.id id)) row.pending)
    (filter-passes (λ (d : Delivery). not (same_id d.id id)) row.pending)
  where
    off : (b : Bool) → not b ≡ true → b ≡ false
    off true e = cc
    off false e = refl
changed-left (Purge seq name floor) sent row new = each-all (λ (d : Delivery). false ≡ false) (λ d. refl) row.pending

-- what an entry leaves pending was pending, or it made it
changed-old : (P : Delivery → Type 0) (entry : Entry) (sent : List Delivery) (row : Contents) → AllByRecursion P row.pending
    → AllByRecursion P sent
    → AllByRecursion P (changed entry sent row).pending
changed-old P (Claim worker interval) sent row old new = old
changed-old P (Ack seq name id) sent row old new = each-filter P (λ (d : Delivery). not (same_id d.id id)) row.pending old
changed-old P (Purge seq name floor) sent row old new = old
changed-old P _ sent row old new = each-append P row.pending sent old new

-- one more entry keeps what is acknowledged as it was, but for its own record
pub AreAcknowledged-followed : (case : CaseShape) (history : List Entry) (run : Run) (entry : Entry) → AreAcknowledged case history run
    → MayFollow case run entry
    → AreAcknowledged case (history ++ entry ∷ []) (followed case.topology run entry)
AreAcknowledged-followed case history run entry acked may = record {
  on = ArePendingOn-followed shape history run entry acked.on;
  made = ArePendingMade-followed shape run entry acked.made;
  order = ArePendingInOrder-followed shape run entry acked.order;
  was = each-weaker (WasPending run.made) (WasPending (run.made ++ new)) (WasPending-more run.made new) (history ++ entry ∷ []) was;
  sent = each-append (λ (d : Delivery). is_acknowledged d.id (history ++ entry ∷ []) ≡ false → IsSentBy shape after d) run.made new
      (each-weaker (λ (d : Delivery). is_acknowledged d.id history ≡ false → IsSentBy shape run d)
      (λ (d : Delivery). is_acknowledged d.id (history ++ entry ∷ []) ≡ false → IsSentBy shape after d)
      (λ d before open_now.
      let parts = apart (is_acknowledged d.id history) (acknowledges d.id entry)
      (sym (is_acknowledged-push d.id history entry) ∙ open_now) in
      IsSentBy-followed shape run entry d (before parts.0) (spared entry d parts.1)) run.made acked.sent)
      (each-weaker (IsSentBy shape after) (λ (d : Delivery). is_acknowledged d.id (history ++ entry ∷ []) ≡ false
      → IsSentBy shape after d) (λ d by _. by) new
      (sent_pending case run entry acked.order may));
  left = λ name. row_of-left name;
}
  where
    shape : Shape
    shape = case.topology

    after : Run
    after = followed case.topology run entry

    new : List Delivery
    new = deliveries_of case.topology run.made run.next entry

    was : AllByRecursion (WasPending run.made) (history ++ entry ∷ [])
    was = each-append (WasPending run.made) history (entry ∷ []) acked.was (acknowledged-made case run entry acked.made may, tt)

    new_left : AllByRecursion (λ (d : Delivery). is_acknowledged d.id (history ++ entry ∷ []) ≡ false) new
    new_left = each-weaker (λ (d : Delivery). d.id.commit ≡ run.next)
        (λ (d : Delivery). is_acknowledged d.id (history ++ entry ∷ []) ≡ false)
        (λ d is. acknowledges_not-next run.made run.next d (history ++ entry ∷ []) acked.made.order.below is was) new
        (each_of_commit shape run.made run.next entry)

    both : (ds : List Delivery) → AllByRecursion (λ (d : Delivery). is_acknowledged d.id history ≡ false) ds
        → AllByRecursion (λ (d : Delivery). acknowledges d.id entry ≡ false) ds
        → AllByRecursion (λ (d : Delivery). is_acknowledged d.id (history ++ entry ∷ []) ≡ false) ds
    both ds one other = each-weaker (λ (d : Delivery). (is_acknowledged d.id history ≡ false) × (acknowledges d.id entry ≡ false))
        (λ (d : Delivery). is_acknowledged d.id (history ++ entry ∷ []) ≡ false)
        (λ d (facts : (is_acknowledged d.id history ≡ false) × (acknowledges d.id entry ≡ false)).
        is_acknowledged-push d.id history entry ∙ together (is_acknowledged d.id history) (acknowledges d.id entry) facts.0 facts.1) ds
        (each-both (λ (d : Delivery). is_acknowledged d.id history ≡ false)
        (λ (d : Delivery). acknowledges d.id entry ≡ false) ds one other)

    new_parts : (ds : List Delivery) → AllByRecursion (λ (d : Delivery). is_acknowledged d.id (history ++ entry ∷ []) ≡ false) ds
        → AllByRecursion (λ (d : Delivery). is_acknowledged d.id history ≡ false) ds × AllByRecursion
        (λ (d : Delivery). acknowledges d.id entry ≡ false) ds
    new_parts [] each = (tt, tt)
    new_parts (d ∷ ds) each =
        let parts = apart (is_acknowledged d.id history) (acknowledges d.id entry)
        (sym (is_acknowledged-push d.id history entry) ∙ each.0) in
        let rest = new_parts ds each.1 in ((parts.0, rest.0), (parts.1, rest.1))

    row_of-left : (name : RowName) → AllByRecursion (λ (d : Delivery). is_acknowledged d.id (history ++ entry ∷ []) ≡ false)
        (row_of shape after name).pending
    row_of-left name = by_row (on_row_or_not entry name)
      where
        by_row : (row_written entry ≡ Some name) ⊎ (row_written entry ≡ Some name → ⊥)
            → AllByRecursion (λ (d : Delivery). is_acknowledged d.id (history ++ entry ∷ []) ≡ false) (row_of shape after name).pending
        by_row (inl written) =
            let parts = new_parts new new_left in
            subst (λ (c : Contents). AllByRecursion (λ (d : Delivery). is_acknowledged d.id (history ++ entry ∷ []) ≡ false) c.pending)
            (sym (row_of-here shape run entry name written))
            (both (changed entry new (row_of shape run name)).pending
            (changed-old (λ (d : Delivery). is_acknowledged d.id history ≡ false) entry new (row_of shape run name)
            (acked.left name) parts.0)
            (changed-left entry new (row_of shape run name) parts.1))
        by_row (inr elsewhere) =
            subst (λ (c : Contents). AllByRecursion (λ (d : Delivery). is_acknowledged d.id (history ++ entry ∷ []) ≡ false) c.pending)
            (sym (row_of-elsewhere shape run entry name elsewhere))
            (both (row_of shape run name).pending (acked.left name) (pending-elsewhere case history run entry name acked.on may elsewhere))

-- before any entry nothing is acknowledged
pub AreAcknowledged-empty : (case : CaseShape) → AreAcknowledged case [] empty_run
AreAcknowledged-empty case = record {
  on = record { next = refl; each = λ name. tt };
  made = record { order = IsMadeInOrder-empty; each = tt };
  order = record { each = tt };
  was = tt;
  sent = tt;
  left = λ name. tt;
}

-- after each legal history what was made and is not acknowledged is pending, and what is pending is not acknowledged
pub legal-acknowledged : (case : CaseShape) (history : List Entry) → IsLegal case history
    → AreAcknowledged case history (run_of case.topology history)
legal-acknowledged case = along_history case (AreAcknowledged case)
    (λ done run entry acked may. AreAcknowledged-followed case done run entry acked may)
    (AreAcknowledged-empty case)

-- a delivery that was made and is not acknowledged has a number at or above the floor
left-above : (shape : Shape) (history : List Entry) (run : Run) (d : Delivery)
    → (is_acknowledged d.id history ≡ false → IsSentBy shape run d)
    → is_acknowledged d.id history ≡ false → floor_of run ≤ d.id.commit
left-above shape history run d sent open_now =
    let by = sent open_now in
    find-each (λ (e : Delivery). floor_of run ≤ e.id.commit) (λ (e : Delivery). same_id e.id d.id) (row_of shape run by.sender).pending d
    (row_of-above shape run by.sender) by.pending

-- a fact of each delivery, for one whose number is in the list of their numbers
numbered-each : (Q : Delivery → Type 0) (n : ℕ) (ds : List Delivery) (k : ℕ) → AllByRecursion Q ds
    → k < length (map (λ (d : Delivery). d.id.commit) ds)
    → get_or (map (λ (d : Delivery). d.id.commit) ds) k n ≡ n → (d : Delivery) × Q d × (d.id.commit ≡ n)
numbered-each Q n [] k each less at = absurd (omega (arith, less))
numbered-each Q n (d ∷ ds) zero each less at = (d, each.0, at)
numbered-each Q n (d ∷ ds) (suc k) each less at = numbered-each Q n ds k each.1 (omega (arith, less)) at

-- what a search finds is an element
found-Any : (P : Delivery → Type 0) (id : RecordId) (ds : List Delivery) (d : Delivery) → found_delivery id ds ≡ Some d → P d → Any P ds
found-Any P id [] d found p = absurd (none_some d found)
found-Any P id (e ∷ es) d found p =
    elim (same_id e.id id) as (λ b. cond b (Some e) (found_delivery id es) ≡ Some d → Any P (e ∷ es)) [
      | true ↦ λ f. (0, d, omega arith, some_same e d f, p)
      | false ↦ λ f. let any = found-Any P id es d f p in (suc any.0, any.1, omega (arith, any.2), any.3, any.4)
    ] found

-- what is pending in any row was made, and is not acknowledged
all_pending-left : (case : CaseShape) (history : List Entry) (run : Run) → AreAcknowledged case history run → AreRowsInOrder run
    → AllByRecursion (λ (d : Delivery). (is_acknowledged d.id history ≡ false) × (found_delivery d.id run.made ≡ Some d)) (all_pending run)
all_pending-left case history run acked order =
    each-flat_map (λ (d : Delivery). (is_acknowledged d.id history ≡ false) × (found_delivery d.id run.made ≡ Some d))
    (λ (r : RowName × Contents). r.1.pending) run.rows
    (each-weaker (λ (e : RowName × Contents). lookup (is_at (row_cmp e.0)) run.rows ≡ Some e.1)
    (λ (r : RowName × Contents). AllByRecursion (λ (d : Delivery). (is_acknowledged d.id history ≡ false) ×
    (found_delivery d.id run.made ≡ Some d)) r.1.pending)
    (λ r found. subst (λ o. AllByRecursion (λ (d : Delivery). (is_acknowledged d.id history ≡ false) ×
    (found_delivery d.id run.made ≡ Some d))
    (unwrap_or o (fresh (fresh_of case.topology r.0.part))).pending) found
    (each-both (λ (d : Delivery). is_acknowledged d.id history ≡ false) (λ (d : Delivery). found_delivery d.id run.made ≡ Some d)
    (row_of case.topology run r.0).pending
    (acked.left r.0) (row_of-made case.topology run r.0 acked.made)))
    run.rows (each_found row_cmp-total run.rows order.sorted))

-- the floor of a run is the least number of what was made and is not acknowledged
pub legal-floor : (case : CaseShape) (history : List Entry) → IsLegal case history
    → IsFloor history (run_of case.topology history) (floor_of (run_of case.topology history))
legal-floor case history legal = record {
  at_most = All-from_recursion (λ (d : Delivery). is_acknowledged d.id history ≡ false → floor_of run ≤ d.id.commit) run.made
      (each-weaker (λ (d : Delivery). is_acknowledged d.id history ≡ false → IsSentBy case.topology run d)
      (λ (d : Delivery). is_acknowledged d.id history ≡ false → floor_of run ≤ d.id.commit)
      (λ d sent. left-above case.topology history run d sent) run.made acked.sent);
  reached = by_case (floor_of-reached run);
}
  where
    run : Run
    run = run_of case.topology history

    acked : AreAcknowledged case history run
    acked = legal-acknowledged case history legal

    by_case : (floor_of run ≡ run.next) ⊎ Contains
        (map (λ (d : Delivery). d.id.commit) (flat_map (λ (r : RowName × Contents). r.1.pending) run.rows)) (floor_of run)
        → (floor_of run ≡ run.next) ⊎ Any (λ (d : Delivery). (is_acknowledged d.id history ≡ false) × (d.id.commit ≡ floor_of run)) run.made
    by_case (inl next) = inl next
    by_case (inr has) =
        let one = numbered-each (λ (d : Delivery). (is_acknowledged d.id history ≡ false) × (found_delivery d.id run.made ≡ Some d))
        (floor_of run) (all_pending run) has.0
        (all_pending-left case history run acked (rows-in_order case.topology history)) has.1 has.2 in
        inr (found-Any (λ (d : Delivery). (is_acknowledged d.id history ≡ false) ×
        (d.id.commit ≡ floor_of run)) one.0.id run.made one.0 one.1.1 (one.1.0, one.2))
