-- What an entry sends: ids, timestamps and rows of the deliveries that are made.
use Rattle.std.proofs.Common.{◌≡◌, ◌<◌, ◌≤◌, ◌+◌, ◌*◌, ◌^◌, ℕ, Bool, true, ◌&&◌, List, [], ◌∷◌, ◌++◌, length, map, arith, length-append}
use Rattle.std.specs.Prelude.{All, nat_lt, nat_le}
use Rattle.std.specs.List.{AllByRecursion, enumerate_from, flat_map, list_all}
use Rattle.std.specs.List.Sorted.{IsStrictlySortedBy}
use Rattle.std.proofs.lemmas.List.Elements.{All-from_recursion, recursion_from_All}
use Rattle.std.proofs.lemmas.List.{length-map}
use Rattle.std.proofs.lemmas.Bool.{and_from, lt-ltb, le-leb, ltb-true}
use Rattle.list_lemmas.proofs.Places.{each-passes}
use Rattle.list_lemmas.proofs.Tests.{both_true}
use Rattle.mw_types.specs.declared.TheConstants.{MAX_STAMP}
use Rattle.mw_types.specs.declared.identity.RowName.{RowName}
use Rattle.mw_types.specs.declared.record.Record.{Record}
use Rattle.mw_types.specs.declared.record.Production.{Production}
use Rattle.mw_types.specs.declared.delivery.Delivery.{Delivery}
use Rattle.mw_types.specs.declared.state.State.TheVariants.{Injector}
use Rattle.mw_types.specs.declared.entry.Entry.TheVariants.{Fire}
use Rattle.topology.specs.declared.subscription.Subscription.{Subscription}
use Rattle.topology.specs.Shapes.{Shape, ComputationShape, Reading, consumers_of, subscriptions_to, stream_of, injectors_of, parts_of}
use Rattle.row_parts.specs.Contents.{IsId, delivery_cmp}
use Rattle.run_history.specs.Made.{deliveries_made, delivery_at, sends_of, produced, row_to}
use Rattle.list_lemmas.proofs.Lists.{each-all, each-map, each-weaker, each-both, sorted-append}
use Rattle.history_laws.proofs.Made.{each_of_commit, deliveries_made-each}
use Rattle.history_laws.proofs.IdLaws.{made-ascend, across}
use Rattle.run_history.specs.Fits.{is_sent_before}
use Rattle.run_history.proofs.Fitting.{passes-each}

-- ---- ids

-- each number is below the end of the count
each-index : (commit n : ℕ) (xs : List (RowName × Record)) → AllByRecursion (λ (d : Delivery). d.id.index < n + length xs)
    (map (delivery_at commit) (enumerate_from n xs))
each-index commit n [] = tt
each-index commit n (x ∷ xs) = (
  omega arith,
  each-weaker (λ (d : Delivery). d.id.index < (n + 1) + length xs) (λ (d : Delivery). d.id.index < n + length (x ∷ xs))
      (λ d less. omega (arith, less)) _ (each-index commit (n + 1) xs),
)

-- few records to few consumers are few sends
sends-few : (subscriptions : List Subscription) (items : List Record) → length subscriptions ≤ 64
    → length (flat_map (sends_of subscriptions) items) ≤ length items * 64
sends-few subscriptions [] few = omega arith
sends-few subscriptions (item ∷ items) few =
    let rest = sends-few subscriptions items few in
    omega (
      arith,
      rest,
      few,
      length-append (sends_of subscriptions item) (flat_map (sends_of subscriptions) items),
      length-map {B = RowName × Record} subscriptions (λ (s : Subscription). (row_to item s, item)),
    )

-- what an entry sends has ids that can be kept
pub sent-ids : (shape : Shape) (part : ℕ) (productions : List Production) (late : Bool) (commit : ℕ) → length (consumers_of shape part) ≤ 64
    → length productions ≤ 8 → commit < 2 ^ 32 → All (λ (d : Delivery). IsId d.id) (deliveries_made shape part productions late commit)
sent-ids shape part productions late commit consumers few small =
    let items = map (produced late) productions in
    let sends = flat_map (sends_of (consumers_of shape part)) items in
    let bound : length sends ≤ 512 = omega (
      arith,
      sends-few (consumers_of shape part) items consumers,
      length-map productions
          (produced late),
      few,
    ) in
    All-from_recursion (λ (d : Delivery). IsId d.id) (deliveries_made shape part productions late commit)
    (each-weaker (λ (d : Delivery). (d.id.index < 0 + length sends) × (d.id.commit ≡ commit)) (λ (d : Delivery). IsId d.id)
    (λ d is. let first = is.0 in let second = is.1 in record { commit = omega (arith, second, small); index = omega (arith, first, bound) })
    (deliveries_made shape part productions late commit)
    (each-both (λ (d : Delivery). d.id.index < 0 + length sends) (λ (d : Delivery). d.id.commit ≡ commit)
    (deliveries_made shape part productions late commit)
    (each-index commit 0 sends) (sent-commits shape part productions late commit)))
  where
    sent-commits : (shape : Shape) (part : ℕ) (productions : List Production) (late : Bool) (commit : ℕ)
        → AllByRecursion (λ (d : Delivery). d.id.commit ≡ commit) (deliveries_made shape part productions late commit)
    sent-commits shape part productions late commit = each_of_commit shape [] commit
        (Fire 0 (record { part = part; key = [] }) (record { tag = 0; time = 0; late = late }) 0
        (record { state = Injector 0; timers = []; productions = productions }))

-- ---- order

-- what is pending stays in order with what an entry of a later number sends
pub pending-sent : (shape : Shape) (part : ℕ) (productions : List Production) (late : Bool) (commit : ℕ) (pending : List Delivery)
    → IsStrictlySortedBy delivery_cmp pending → list_all (is_sent_before shape commit) pending ≡ true
    → IsStrictlySortedBy delivery_cmp (pending ++ deliveries_made shape part productions late commit)
pending-sent shape part productions late commit pending sorted before =
    let entry = Fire 0 (record { part = part; key = [] }) (record { tag = 0; time = 0; late = late }) 0
    (record { state = Injector 0; timers = []; productions = productions }) in
    sorted-append delivery_cmp pending (deliveries_made shape part productions late commit) sorted (made-ascend shape [] commit entry)
    (across commit pending (deliveries_made shape part productions late commit)
    (each-weaker (λ (d : Delivery). is_sent_before shape commit d ≡ true) (λ (d : Delivery). d.id.commit < commit)
    (λ d is. ltb-true d.id.commit commit (both_true (nat_lt d.id.commit commit) (nat_le (injectors_of shape) d.to.part)
    (both_true (nat_lt d.id.commit commit && nat_le (injectors_of shape) d.to.part) (nat_lt d.to.part (parts_of shape)) is).0).0)
    pending (each-passes (is_sent_before shape commit) pending before))
    (each_of_commit shape [] commit entry))

-- ---- timestamps

-- what an entry sends has the timestamps of what it produced
pub sent-stamps : (shape : Shape) (part : ℕ) (productions : List Production) (late : Bool) (commit : ℕ)
    → All (λ (p : Production). p.stamp ≤ MAX_STAMP) productions → All (λ (d : Delivery). d.item.stamp ≤ MAX_STAMP)
    (deliveries_made shape part productions late commit)
sent-stamps shape part productions late commit stamps =
    All-from_recursion (λ (d : Delivery). d.item.stamp ≤ MAX_STAMP) (deliveries_made shape part productions late commit)
    (deliveries_made-each shape part productions late commit (λ s. Unit {0}) (λ (p : Production). p.stamp ≤ MAX_STAMP)
    (λ to (item : Record). item.stamp ≤ MAX_STAMP)
    (λ s p r q. q) (each-all (λ (s : Subscription). Unit {0}) (λ s. tt) (consumers_of shape part))
    (recursion_from_All (λ (p : Production). p.stamp ≤ MAX_STAMP) productions stamps))

-- ---- where it goes

-- a subscription is a computation's
abbrev IsConsumer : ℕ → ℕ → Subscription → Type 0
IsConsumer first end s = (first ≤ s.to) × (s.to < end)

-- the subscriptions of computations that are numbered from n on
consumers-range : (stream : List ℕ) (n : ℕ) (cs : List ComputationShape)
    → AllByRecursion (IsConsumer n (n + length cs)) (flat_map (subscriptions_to stream) (enumerate_from n cs))
consumers-range stream n [] = tt
consumers-range stream n (c ∷ cs) =
    Rattle.list_lemmas.proofs.Lists.each-append (IsConsumer n (n + length (c ∷ cs))) (subscriptions_to stream (n, c)) _
    (each-map (IsConsumer n (n + length (c ∷ cs))) (λ (r : Reading). record { to = n; by = r.by }) _
    (each-all _ (λ r. (omega arith, omega arith)) _))
    (each-weaker (IsConsumer (n + 1) ((n + 1) + length cs)) (IsConsumer n (n + length (c ∷ cs)))
    (λ s is. let low = is.0 in let high = is.1 in (omega (arith, low), omega (arith, high))) _ (consumers-range stream (n + 1) cs))

-- what an entry sends was made before the next number, and goes to computations
pub sent-before : (shape : Shape) (part : ℕ) (productions : List Production) (late : Bool) (commit : ℕ)
    → list_all (is_sent_before shape (commit + 1)) (deliveries_made shape part productions late commit) ≡ true
sent-before shape part productions late commit =
    let sent = deliveries_made shape part productions late commit in
    let Goes : RowName → Type 0 = λ to. (injectors_of shape ≤ to.part) × (to.part < parts_of shape) in
    passes-each (is_sent_before shape (commit + 1)) sent
    (each-weaker (λ (d : Delivery). (d.id.commit ≡ commit) × Goes d.to) (λ d. is_sent_before shape (commit + 1) d ≡ true)
    (λ d is. let number = is.0 in
    and_from (nat_lt d.id.commit (commit + 1) && nat_le (injectors_of shape) d.to.part) (nat_lt d.to.part (parts_of shape))
    (and_from (nat_lt d.id.commit (commit + 1)) (nat_le (injectors_of shape) d.to.part)
    (lt-ltb d.id.commit (commit + 1) (omega (arith, number))) (le-leb (injectors_of shape) d.to.part is.1.0))
    (lt-ltb d.to.part (parts_of shape) is.1.1)) sent
    (each-both (λ (d : Delivery). d.id.commit ≡ commit) (λ (d : Delivery). Goes d.to) sent
    (each_of_commit shape [] commit (Fire 0 (record { part = part; key = [] }) (record { tag = 0; time = 0; late = late }) 0
    (record { state = Injector 0; timers = []; productions = productions })))
    (deliveries_made-each shape part productions late commit
    (IsConsumer (injectors_of shape) (injectors_of shape + length shape.computations)) (λ p. Unit {0}) (λ to item. Goes to)
    (λ s p r q. r) (consumers-range (stream_of shape part) (injectors_of shape) shape.computations)
    (each-all (λ (p : Production). Unit {0}) (λ p. tt) productions))))
