-- A delivery that waits is pending in the row that made it.
use Rattle.std.proofs.Common.{◌≡◌, ℕ, ◌-◌, ◌<◌, ◌≤◌, true, false, cond, List, [], ◌++◌, refl, sym, ◌∙◌, ap, subst, arith}
use Rattle.std.specs.Prelude.{⊤, Option, Some, None, IsNone, Contains, not, nat_lt, slice_get}
use Rattle.std.specs.Option.{option_map}
use Rattle.std.specs.List.{AllByRecursion}
use Rattle.std.proofs.lemmas.Bool.{ltb-true, ltb-false}
use Rattle.std.proofs.lemmas.Option.{slice_get_within}
use Rattle.mw_types.specs.declared.identity.RecordId.{RecordId}
use Rattle.mw_types.specs.declared.identity.RowName.{RowName}
use Rattle.mw_types.specs.declared.kind.Kind.{Kind}
use Rattle.mw_types.specs.declared.delivery.Delivery.{Delivery}
use Rattle.mw_types.specs.declared.entry.Entry.{Entry}
use Rattle.mw_types.specs.declared.entry.Entry.TheVariants.{Inject, Handle, Fire, Ack}
use Rattle.topology.specs.declared.subscription.Subscription.{Subscription}
use Rattle.topology.specs.Shapes.{Shape, ComputationShape, parts_of, injectors_of, feeds_of, kind_of}
use Rattle.row_parts.specs.Contents.{Contents, same_id, found_delivery}
use Rattle.run_history.specs.Cases.{CaseShape}
use Rattle.run_history.specs.Made.{row_written, productions_of, late_cause, deliveries_of, deliveries_made}
use Rattle.run_history.specs.Runs.{Run, run_of, row_of, followed, changed, still_unhandled}
use Rattle.run_history.specs.Legal.{MayFollow, IsLegal, floor_of}
use Rattle.run_history.specs.Finished.{handles}
use Rattle.history_laws.specs.Ids.{IsSentBy}
use Rattle.list_lemmas.proofs.Lists.{none_some, some_same, each-append, each-all, each-weaker, each-filter, each-both, find-none, find-none_each, find-kept, find-more, find-behind, find-each}
use Rattle.history_laws.proofs.Along.{along_history}
use Rattle.history_laws.proofs.Made.{each_of_commit, deliveries_made-each}
use Rattle.history_laws.proofs.FeedLaws.{consumers-fed}
use Rattle.history_laws.proofs.FloorLaws.{row_of-above}
use Rattle.history_laws.proofs.IdLaws.{same_id-true, each_found_delivery, made-ascend, still_unhandled-filter}
use Rattle.history_laws.proofs.RowSteps.{row_of-step, row_of-here, ArePendingInOrder, ArePendingInOrder-followed, row_of-in_order}

-- ---- each entry that may come is on a row of a part that is there, where it makes anything

-- a part whose kind is known is there
pub kind-there : (shape : Shape) (part : ℕ) (kind : Kind) → kind_of shape part ≡ Some kind → part < parts_of shape
kind-there shape part kind e = elim (nat_lt part (injectors_of shape)) as
    (λ b. nat_lt part (injectors_of shape) ≡ b → part < parts_of shape) [
      | true ↦ λ less. let below = ltb-true part (injectors_of shape) less in omega (arith, below)
      | false ↦ λ less. by_computation (ltb-false part (injectors_of shape) less)
          (slice_get shape.computations (part - injectors_of shape)) refl
          (ap (λ b. option_map (λ (c : ComputationShape). c.kind) (cond b None (slice_get shape.computations (part - injectors_of shape))))
          (sym less) ∙ e)
    ] refl
  where
    by_computation : injectors_of shape ≤ part → (o : Option ComputationShape)
        → slice_get shape.computations (part - injectors_of shape) ≡ o
        → option_map (λ (c : ComputationShape). c.kind) o ≡ Some kind → part < parts_of shape
    by_computation behind None at e = absurd (none_some kind e)
    by_computation behind (Some c) at e =
        let within = slice_get_within shape.computations (part - injectors_of shape) c at in omega (arith, within, behind)

-- what is some after a change was some before it
pub was_some : {A B : Type 0} (f : A → B) (o : Option A) (y : B) → option_map f o ≡ Some y → (x : A) × (o ≡ Some x) × (f x ≡ y)
was_some f None y e = absurd (none_some y e)
was_some f (Some x) y e = (x, refl, some_same (f x) y e)

-- what an entry makes goes to parts that the part of its row feeds
pub sent_fed : (case : CaseShape) (run : Run) (entry : Entry) (name : RowName) → MayFollow case run entry → row_written entry ≡ Some name
    → AllByRecursion (λ (d : Delivery). Contains (feeds_of case.topology d.to.part) name.part)
    (deliveries_of case.topology run.made run.next entry)
sent_fed case run entry name may written = by_kind entry may (row_written entry) refl written
  where
    shape : Shape
    shape = case.topology

    of_part : (part : ℕ) (entry : Entry) → part < parts_of shape
        → AllByRecursion (λ (d : Delivery). Contains (feeds_of shape d.to.part) part)
        (deliveries_made shape part (productions_of entry) (late_cause run.made entry) run.next)
    of_part part entry there = deliveries_made-each shape part (productions_of entry) (late_cause run.made entry) run.next
        (λ (s : Subscription). Contains (feeds_of shape s.to) part) (λ p. ⊤) (λ to item. Contains (feeds_of shape to.part) part)
        (λ s p fed _. fed) (consumers-fed shape part there) (each-all (λ p. ⊤) (λ p. tt) (productions_of entry))

    at_name : (row : RowName) (entry : Entry) → Some row ≡ Some name → row.part < parts_of shape
        → AllByRecursion (λ (d : Delivery). Contains (feeds_of shape d.to.part) name.part)
        (deliveries_made shape row.part (productions_of entry) (late_cause run.made entry) run.next)
    at_name row entry same there = subst (λ (n : RowName). AllByRecursion (λ (d : Delivery). Contains (feeds_of shape d.to.part) n.part)
        (deliveries_made shape row.part (productions_of entry) (late_cause run.made entry) run.next)) (some_same row name same)
        (of_part row.part entry there)

    by_kind : (entry : Entry) → MayFollow case run entry → (w : Option RowName) → row_written entry ≡ w → w ≡ Some name
        → AllByRecursion (λ (d : Delivery). Contains (feeds_of shape d.to.part) name.part) (deliveries_of shape run.made run.next entry)
    by_kind (Inject seq part line item) may w e f =
        let below = ltb-true part (injectors_of shape) may.injector in
        at_name (record { part = part; key = [] }) (Inject seq part line item) (e ∙ f) (omega (arith, below))
    by_kind (Handle seq row id effects) may w e f =
        let kind = was_some _ (kind_of shape row.part) effects may.does in
        at_name row (Handle seq row id effects) (e ∙ f) (kind-there shape row.part kind.0 kind.1)
    by_kind (Fire seq row timer mark effects) may w e f =
        let kind = was_some _ (kind_of shape row.part) effects may.does in
        at_name row (Fire seq row timer mark effects) (e ∙ f) (kind-there shape row.part kind.0 kind.1)
    by_kind _ may w e f = tt

-- ---- what waits is pending

-- an entry that acknowledges something acknowledges another delivery
abbrev pub SparesFrom : Entry → Delivery → Type 0
SparesFrom (Ack seq row id) d = same_id d.id id ≡ false
SparesFrom entry d = ⊤

-- nothing that waits may be acknowledged
pub spares_waiting : (case : CaseShape) (run : Run) (entry : Entry) → MayFollow case run entry
    → AllByRecursion (SparesFrom entry) run.unhandled
spares_waiting case run (Ack seq row id) may = find-none_each (λ (d : Delivery). same_id d.id id) run.unhandled
    (none (found_delivery id run.unhandled) may.handled)
  where
    none : (o : Option Delivery) → IsNone o → o ≡ None
    none None is = refl
    none (Some d) is = absurd (cc)
spares_waiting case run _ may = each-all (λ d. ⊤) (λ d. tt) run.unhandled

-- what is pending in a row stays pending there, but for what an entry acknowledges
changed-pending : (entry : Entry) (sent : List Delivery) (row : Contents) (d : Delivery) → found_delivery d.id row.pending ≡ Some d
    → SparesFrom entry d
    → found_delivery d.id (changed entry sent row).pending ≡ Some d
changed-pending (Inject seq part line item) sent row d found spared = find-more
    (λ (e : Delivery). same_id e.id d.id) row.pending sent d found
changed-pending (Handle seq name id effects) sent row d found spared = find-more
    (λ (e : Delivery). same_id e.id d.id) row.pending sent d found
changed-pending (Fire seq name timer mark effects) sent row d found spared = find-more
    (λ (e : Delivery). same_id e.id d.id) row.pending sent d found
changed-pending (Ack seq name id) sent row d found spared =
    find-kept (λ (e : Delivery). same_id e.id d.id) (λ (e : Delivery). not (same_id e.id id)) row.pending d found (ap not spared)
changed-pending _ sent row d found spared = found

-- a delivery that is pending, and that an entry does not acknowledge, is still pending after it
pub IsSentBy-followed : (shape : Shape) (run : Run) (entry : Entry) (d : Delivery) → IsSentBy shape run d → SparesFrom entry d
    → IsSentBy shape (followed shape run entry) d
IsSentBy-followed shape run entry d by spared = record {
  sender = by.sender;
  pending = row_of-step shape run entry by.sender (λ (c : Contents). found_delivery d.id c.pending ≡ Some d) by.pending
      (λ written. changed-pending entry (deliveries_of shape run.made run.next entry) (row_of shape run by.sender) d by.pending spared);
  feeds = by.feeds;
}

-- a delivery that an entry made is found behind what was pending
pub found_behind : (n : ℕ) (pending sent : List Delivery) (d : Delivery) → AllByRecursion (λ (e : Delivery). e.id.commit < n) pending
    → d.id.commit ≡ n
    → found_delivery d.id sent ≡ Some d → found_delivery d.id (pending ++ sent) ≡ Some d
found_behind n pending sent d below is found =
    find-behind (λ (e : Delivery). same_id e.id d.id) pending sent
    (find-none (λ (e : Delivery). same_id e.id d.id) pending
    (each-weaker (λ (e : Delivery). e.id.commit < n) (λ (e : Delivery). same_id e.id d.id ≡ false)
    (λ e less. other e less) pending below)) ∙ found
  where
    other : (e : Delivery) → e.id.commit < n → same_id e.id d.id ≡ false
    other e less = elim (same_id e.id d.id) as (λ t. same_id e.id d.id ≡ t → t ≡ false) [
      | false ↦ λ _. refl
      | true ↦ λ same. let one : e.id.commit ≡ d.id.commit = ap (λ (i : RecordId). i.commit) (same_id-true e.id d.id same) in
          absurd (omega (arith, one, less, is))
    ] refl

-- what an entry made is pending in the row that the entry is on
pub sent_pending : (case : CaseShape) (run : Run) (entry : Entry) → ArePendingInOrder run → MayFollow case run entry
    → AllByRecursion (IsSentBy case.topology (followed case.topology run entry)) (deliveries_of case.topology run.made run.next entry)
sent_pending case run entry order may = by_kind entry may
  where
    shape : Shape
    shape = case.topology

    each : (entry : Entry) (name : RowName) → MayFollow case run entry → row_written entry ≡ Some name
        → (changed entry (deliveries_of shape run.made run.next entry) (row_of shape run name)).pending ≡
        (row_of shape run name).pending ++ deliveries_of shape run.made run.next entry
        → AllByRecursion (IsSentBy shape (followed shape run entry)) (deliveries_of shape run.made run.next entry)
    each entry name may written is =
        let sent = deliveries_of shape run.made run.next entry in
        each-weaker (λ d. (found_delivery d.id sent ≡ Some d) ×
        ((d.id.commit ≡ run.next) × Contains (feeds_of shape d.to.part) name.part)) (IsSentBy shape (followed shape run entry))
        (λ d (facts : (found_delivery d.id sent ≡ Some d) × ((d.id.commit ≡ run.next) × Contains (feeds_of shape d.to.part) name.part)).
        record {
          sender = name;
          pending = ap (λ (c : Contents). found_delivery d.id c.pending) (row_of-here shape run entry name written)
              ∙ ap (found_delivery d.id) is
              ∙ found_behind run.next (row_of shape run name).pending sent d (row_of-in_order shape run name order).below facts.1.0 facts.0;
          feeds = facts.1.1;
        }) sent
        (each-both (λ d. found_delivery d.id sent ≡ Some d)
        (λ d. (d.id.commit ≡ run.next) × Contains (feeds_of shape d.to.part) name.part) sent
        (each_found_delivery sent (made-ascend shape run.made run.next entry))
        (each-both (λ d. d.id.commit ≡ run.next) (λ d. Contains (feeds_of shape d.to.part) name.part) sent
        (each_of_commit shape run.made run.next entry) (sent_fed case run entry name may written)))

    by_kind : (entry : Entry) → MayFollow case run entry
        → AllByRecursion (IsSentBy shape (followed shape run entry)) (deliveries_of shape run.made run.next entry)
    by_kind (Inject seq part line item) may = each (Inject seq part line item) (record { part = part; key = [] }) may refl refl
    by_kind (Handle seq row id effects) may = each (Handle seq row id effects) row may refl refl
    by_kind (Fire seq row timer mark effects) may = each (Fire seq row timer mark effects) row may refl refl
    by_kind _ may = tt

-- what waits is pending, and what is pending is in order
pub record AreSent (shape : Shape) (run : Run) : Type 0 where
  pub order : ArePendingInOrder run
  pub each : AllByRecursion (IsSentBy shape run) run.unhandled

-- one more entry keeps what waits pending
pub AreSent-followed : (case : CaseShape) (run : Run) (entry : Entry) → AreSent case.topology run → MayFollow case run entry
    → AreSent case.topology (followed case.topology run entry)
AreSent-followed case run entry sent may = record {
  order = ArePendingInOrder-followed case.topology run entry sent.order;
  each = each-append (IsSentBy case.topology (followed case.topology run entry)) (still_unhandled entry run.unhandled) _
      (subst (AllByRecursion (IsSentBy case.topology (followed case.topology run entry))) (sym (still_unhandled-filter entry run.unhandled))
      (each-filter (IsSentBy case.topology (followed case.topology run entry)) (λ (d : Delivery). not (handles d.id entry)) run.unhandled
      (each-weaker (λ d. IsSentBy case.topology run d × SparesFrom entry d) (IsSentBy case.topology (followed case.topology run entry))
      (λ d (facts : IsSentBy case.topology run d × SparesFrom entry d). IsSentBy-followed case.topology run entry d facts.0 facts.1)
      run.unhandled
      (each-both (IsSentBy case.topology run) (SparesFrom entry) run.unhandled sent.each (spares_waiting case run entry may)))))
      (sent_pending case run entry sent.order may);
}

-- after each legal history what waits is pending in the row that made it
pub legal-sent : (case : CaseShape) (history : List Entry) → IsLegal case history → AreSent case.topology (run_of case.topology history)
legal-sent case = along_history case (λ done run. AreSent case.topology run)
    (λ done run entry sent may. AreSent-followed case run entry sent may)
    (record { order = record { each = tt }; each = tt })

-- a delivery that waits has a number at or above the floor
pub waiting-above : (case : CaseShape) (history : List Entry) (d : Delivery) → IsLegal case history
    → found_delivery d.id (run_of case.topology history).unhandled ≡ Some d → floor_of (run_of case.topology history) ≤ d.id.commit
waiting-above case history d legal waits =
    let run = run_of case.topology history in
    let by = find-each (IsSentBy case.topology run) (λ (e : Delivery). same_id e.id d.id) run.unhandled d
    (legal-sent case history legal).each waits in
    find-each (λ (e : Delivery). floor_of run ≤ e.id.commit) (λ (e : Delivery). same_id e.id d.id)
    (row_of case.topology run by.sender).pending d
    (row_of-above case.topology run by.sender) by.pending
