-- What is pending as a worker knows it, in the order in which it was made, and each once.
use Rattle.std.proofs.Common.{◌≡◌, ◌∙◌, Bool, true, false, List, [], ◌∷◌, map, refl, sym, ap}
use Rattle.std.specs.Prelude.{None, Option, Some, if◌then◌else◌}
use Rattle.std.specs.List.{AllByRecursion, cons_option, filter_map}
use Rattle.std.specs.List.Sorted.{IsStrictlySortedBy}
use Rattle.std.specs.Option.{option_map}
use Rattle.std.specs.declared.cmp.Ordering.{Ordering}
use Rattle.std.specs.declared.cmp.Ordering.TheVariants.{Less}
use Rattle.mw_types.specs.Orders.{id_cmp}
use Rattle.mw_types.specs.declared.delivery.Delivery.{Delivery}
use Rattle.mw_types.specs.declared.identity.RecordId.{RecordId}
use Rattle.mw_types.specs.declared.identity.RowName.{RowName}
use Rattle.row_parts.specs.Contents.{delivery_cmp}
use Rattle.holdings.specs.declared.pending.Sent.{Sent}
use Rattle.outbox.specs.Messages.{sent_again}
use Rattle.node.specs.Workers.{where_passes}
use Rattle.outbox.specs.declared.outgoing.Outgoing.TheVariants as outgoing
use Rattle.list_lemmas.proofs.Lists.{none_some, some_same}

-- records stand by their ids
abbrev pub by_id : Sent → Sent → Ordering
by_id s t = id_cmp s.delivery.id t.delivery.id

-- a record, with the row that sent it
abbrev pub sent_from : Delivery → RowName → Sent
sent_from d name = record { sender = name; delivery = d }

-- those of some records of which a sender is known
abbrev pub sent_of_known : (Delivery → Option RowName) → List Delivery → List Sent
sent_of_known sender ds = filter_map (λ (d : Delivery). option_map (sent_from d) (sender d)) ds

-- they are sent again as messages
pub known-again : (sender : Delivery → Option RowName) (ds : List Delivery) → map sent_again (sent_of_known sender ds)
    ≡ filter_map (λ (d : Delivery). option_map (outgoing.Deliver d) (sender d)) ds
known-again sender [] = refl
known-again sender (d ∷ ds) =
    elim (sender d) as (λ o. map sent_again (cons_option (option_map (sent_from d) o) (sent_of_known sender ds))
    ≡ cons_option (option_map (outgoing.Deliver d) o) (filter_map (λ (e : Delivery). option_map (outgoing.Deliver e) (sender e)) ds)) [
      | None ↦ known-again sender ds
      | Some name ↦ ap (λ ms. outgoing.Deliver d name ∷ ms) (known-again sender ds)
    ]

-- records behind one are behind it, where a sender is known
each-behind : (sender : Delivery → Option RowName) (one : Delivery) (name : RowName) (ds : List Delivery)
    → AllByRecursion (λ (e : Delivery). delivery_cmp one e ≡ Less) ds
    → AllByRecursion (λ (t : Sent). by_id (sent_from one name) t ≡ Less) (sent_of_known sender ds)
each-behind sender one name [] all = tt
each-behind sender one name (d ∷ ds) all =
    elim (sender d) as (λ o. AllByRecursion (λ (t : Sent). by_id (sent_from one name) t ≡ Less)
    (cons_option (option_map (sent_from d) o) (sent_of_known sender ds))) [
      | None ↦ each-behind sender one name ds all.1
      | Some other ↦ (all.0, each-behind sender one name ds all.1)
    ]

-- they stand by their ids
pub known-ascends : (sender : Delivery → Option RowName) (ds : List Delivery) → IsStrictlySortedBy delivery_cmp ds
    → IsStrictlySortedBy by_id (sent_of_known sender ds)
unfolding IsStrictlySortedBy
known-ascends sender [] sorted = tt
known-ascends sender (d ∷ ds) sorted =
    elim (sender d) as (λ o. IsStrictlySortedBy by_id (cons_option (option_map (sent_from d) o) (sent_of_known sender ds))) [
      | None ↦ known-ascends sender ds sorted.1
      | Some name ↦ (each-behind sender d name ds sorted.0, known-ascends sender ds sorted.1)
    ]

-- what is above an id
each-above : (s : Sent) (ts : List Sent)
    → AllByRecursion (λ (i : RecordId). id_cmp s.delivery.id i ≡ Less) (map (λ (t : Sent). t.delivery.id) ts)
    → AllByRecursion (λ (t : Sent). by_id s t ≡ Less) ts
each-above s [] all = tt
each-above s (t ∷ ts) all = (all.0, each-above s ts all.1)

-- records whose ids ascend do
pub ids-ascend : (ts : List Sent) → IsStrictlySortedBy id_cmp (map (λ (t : Sent). t.delivery.id) ts) → IsStrictlySortedBy by_id ts
unfolding IsStrictlySortedBy
ids-ascend [] sorted = tt
ids-ascend (t ∷ ts) sorted = (each-above t ts sorted.0, ids-ascend ts sorted.1)

-- ---- what passes a test

-- what is there and passes
pub passes-where : {X : Type 0} (test : X → Bool) (o : Option X) (x : X) → o ≡ Some x → test x ≡ true → where_passes test o ≡ Some x
passes-where test o x is passes =
    ap (where_passes test) is ∙ ap (λ b. if b then Some x else None) passes

-- and the other way
pub where-passes : {X : Type 0} (test : X → Bool) (o : Option X) (x : X) → where_passes test o ≡ Some x
    → (o ≡ Some x) × (test x ≡ true)
where-passes test None x is = absurd (none_some x is)
where-passes {X} test (Some y) x is = elim (test y) as (λ b. test y ≡ b → (if b then Some y else None) ≡ Some x
    → (Some y ≡ Some x) × (test x ≡ true)) [
      | true ↦ λ passes found. (found, ap test (sym (some_same y x found)) ∙ passes)
      | false ↦ λ fails found. absurd (none_some x found)
    ] refl is
