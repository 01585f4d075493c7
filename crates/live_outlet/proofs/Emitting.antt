-- What a history emits: more with each entry, under ids that ascend.
use Rattle.std.proofs.Common.{◌≡◌, ℕ, ◌+◌, ◌<◌, ◌≤◌, fold, List, [], ◌∷◌, ◌++◌, length, map, take, drop, refl, sym, ◌∙◌, ap, subst, arith, append_assoc, append-nil}
use Rattle.std.specs.Prelude.{Option, Some, None}
use Rattle.std.specs.Option.{option_map_or}
use Rattle.std.specs.List.{AllByRecursion, enumerate_from}
use Rattle.std.specs.List.Sorted.{IsStrictlySortedBy}
use Rattle.std.specs.Ordering.{nat_cmp, ordering_then}
use Rattle.std.specs.declared.cmp.Ordering.TheVariants.{Less, Equal}
use Rattle.std.specs.Cmp.{nat_cmp_is}
use Rattle.std.proofs.lemmas.List.{map-append, take-append-drop, take-append-le, take_all}
use Rattle.std.proofs.lemmas.List.Sums.{fold-append}
use Rattle.mw_types.specs.declared.identity.RecordId.{RecordId}
use Rattle.mw_types.specs.declared.identity.RowName.{RowName}
use Rattle.mw_types.specs.declared.record.Record.{Record}
use Rattle.mw_types.specs.declared.delivery.Delivery.{Delivery}
use Rattle.mw_types.specs.declared.delivery.Emission.{Emission}
use Rattle.mw_types.specs.declared.entry.Entry.{Entry}
use Rattle.mw_types.specs.Orders.{id_cmp}
use Rattle.topology.specs.declared.subscription.Subscription.{Subscription}
use Rattle.topology.specs.Shapes.{Shape, consumers_of}
use Rattle.run_history.specs.Made.{emission_at, emissions_to, emissions_made, emissions_of, row_written, productions_of, late_cause}
use Rattle.run_history.specs.Runs.{Run, run_of, followed, empty_run}
use Rattle.list_lemmas.proofs.Lists.{each-append, each-map, each-all, each-weaker, sorted-append}
use Rattle.live_outlet.specs.Outlets.{emitted_by, AreBetween}

-- ---- more with each entry

emissions-rest : (shape : Shape) (rest : List Entry) (run : Run)
    → (more : List Emission) × ((fold (followed shape) run rest).emissions ≡ run.emissions ++ more)
emissions-rest shape [] run = ([], sym (append-nil run.emissions))
emissions-rest shape (e ∷ es) run =
    let later = emissions-rest shape es (followed shape run e) in
    let sent = emissions_of shape run.made run.next e in
    (sent ++ later.0, later.1 ∙ append_assoc run.emissions sent later.0)

-- what the first entries emit begins what all emit
pub emitted-grows : (shape : Shape) (history : List Entry) (n : ℕ)
    → (more : List Emission) × (emitted_by shape history n ++ more ≡ (run_of shape history).emissions)
emitted-grows shape history n =
    let later = emissions-rest shape (drop n history) (run_of shape (take n history)) in (
      later.0,
      sym later.1
          ∙ ap (λ (r : Run). r.emissions) (sym (fold-append (followed shape) empty_run (take n history) (drop n history)))
          ∙ ap (λ (h : List Entry). (run_of shape h).emissions) (take-append-drop n history),
    )

-- the first entries of a beginning are those of the whole
emitted-front : (shape : Shape) (history : List Entry) (n place : ℕ) → place ≤ length (take n history)
    → emitted_by shape (take n history) place ≡ emitted_by shape history place
emitted-front shape history n place within =
    ap (λ (h : List Entry). (run_of shape h).emissions)
    (sym (take-append-le place (take n history) (drop n history) within) ∙ ap (take place) (take-append-drop n history))

-- what is emitted between two places of a beginning is so in the whole
pub between-front : (shape : Shape) (history : List Entry) (n from to : ℕ) (es : List Emission) → from ≤ length (take n history)
    → to ≤ length (take n history) → AreBetween shape (take n history) from to es → AreBetween shape history from to es
between-front shape history n from to es from_within to_within between =
    ap (λ l. l ++ es) (sym (emitted-front shape history n from from_within)) ∙ between ∙ emitted-front shape history n to to_within

-- a beginning has all its entries
pub emitted-whole : (shape : Shape) (history : List Entry) (n : ℕ)
    → emitted_by shape history (length (take n history)) ≡ emitted_by shape history n
emitted-whole shape history n =
    sym (emitted-front shape history n (length (take n history)) (omega arith))
    ∙ ap (λ (h : List Entry). (run_of shape h).emissions) (take_all (length (take n history)) (take n history) (omega arith))

-- so has the whole
pub emitted-all : (shape : Shape) (history : List Entry) (n : ℕ) → length history ≤ n
    → emitted_by shape history n ≡ (run_of shape history).emissions
emitted-all shape history n all = ap (λ (h : List Entry). (run_of shape h).emissions) (take_all n history all)

-- ---- ids that ascend

-- the ids of emissions
abbrev pub ids_of : List Emission → List RecordId
ids_of es = map (λ (e : Emission). e.id) es

-- an earlier commit number makes an earlier id, and of one entry a lesser index does
before_commit : (a b : RecordId) → a.commit < b.commit → id_cmp a b ≡ Less
before_commit a b less = ap (λ o. ordering_then o (nat_cmp a.index b.index)) (sym (nat_cmp_is a.commit b.commit Less less))

before_index : (c i j : ℕ) → i < j → id_cmp (record { commit = c; index = i }) (record { commit = c; index = j }) ≡ Less
before_index c i j less = ap (λ o. ordering_then o (nat_cmp i j)) (sym (nat_cmp_is c c Equal refl)) ∙ sym (nat_cmp_is i j Less less)

-- records that are numbered on have ids behind those before
after_index : (part c i n : ℕ) (items : List Record) → i < n
    → AllByRecursion (λ (id : RecordId). id_cmp (record { commit = c; index = i }) id ≡ Less)
    (ids_of (map (emission_at part c) (enumerate_from n items)))
after_index part c i n [] less = tt
after_index part c i n (item ∷ items) less = (before_index c i n less, after_index part c i (n + 1) items (omega (arith, less)))

numbered-ascend : (part c n : ℕ) (items : List Record)
    → IsStrictlySortedBy id_cmp (ids_of (map (emission_at part c) (enumerate_from n items)))
unfolding IsStrictlySortedBy
numbered-ascend part c n [] = tt
numbered-ascend part c n (item ∷ items) = (after_index part c n (n + 1) items (omega arith), numbered-ascend part c (n + 1) items)

-- what an entry emits is in order
entry-ascend : (shape : Shape) (made : List Delivery) (commit : ℕ) (entry : Entry)
    → IsStrictlySortedBy id_cmp (ids_of (emissions_of shape made commit entry))
unfolding IsStrictlySortedBy
entry-ascend shape made commit entry = by_row (row_written entry)
  where
    by_consumers : (part : ℕ) (subscriptions : List Subscription) (items : List Record)
        → IsStrictlySortedBy id_cmp (ids_of (emissions_to subscriptions part commit items))
    by_consumers part [] items = numbered-ascend part commit 0 items
    by_consumers part (s ∷ ss) items = tt

    by_row : (written : Option RowName) → IsStrictlySortedBy id_cmp (ids_of
        (option_map_or (λ (row : RowName). emissions_made shape row.part (productions_of entry) (late_cause made entry) commit) written []))
    by_row None = tt
    by_row (Some row) = by_consumers row.part (consumers_of shape row.part) _

-- and has the entry's number
entry-commit : (shape : Shape) (made : List Delivery) (commit : ℕ) (entry : Entry)
    → AllByRecursion (λ (id : RecordId). id.commit ≡ commit) (ids_of (emissions_of shape made commit entry))
entry-commit shape made commit entry = by_row (row_written entry)
  where
    by_consumers : (part : ℕ) (subscriptions : List Subscription) (items : List Record)
        → AllByRecursion (λ (id : RecordId). id.commit ≡ commit) (ids_of (emissions_to subscriptions part commit items))
    by_consumers part [] items = each-map (λ (id : RecordId). id.commit ≡ commit) (λ (e : Emission). e.id) _
        (each-map (λ (e : Emission). e.id.commit ≡ commit) (emission_at part commit) _
        (each-all (λ (s : ℕ × Record). (emission_at part commit s).id.commit ≡ commit) (λ s. refl) (enumerate_from 0 items)))
    by_consumers part (s ∷ ss) items = tt

    by_row : (written : Option RowName) → AllByRecursion (λ (id : RecordId). id.commit ≡ commit) (ids_of
        (option_map_or (λ (row : RowName). emissions_made shape row.part (productions_of entry) (late_cause made entry) commit) written []))
    by_row None = tt
    by_row (Some row) = by_consumers row.part (consumers_of shape row.part) _

-- what was emitted has numbers below the next, and ascends by id
record IsInOrder (run : Run) : Type 0 where
  below : AllByRecursion (λ (id : RecordId). id.commit < run.next) (ids_of run.emissions)
  ascending : IsStrictlySortedBy id_cmp (ids_of run.emissions)

-- ids below a number are before ids of that number
across : (n : ℕ) (old new : List RecordId) → AllByRecursion (λ (id : RecordId). id.commit < n) old
    → AllByRecursion (λ (id : RecordId). id.commit ≡ n) new
    → AllByRecursion (λ x. AllByRecursion (λ y. id_cmp x y ≡ Less) new) old
across n [] new old_below of_new = tt
across n (x ∷ old) new old_below of_new = (
  each-weaker (λ (id : RecordId). id.commit ≡ n) (λ y. id_cmp x y ≡ Less)
      (λ y is. before_commit x y (let first = old_below.0 in omega (arith, first, is))) new of_new,
  across n old new old_below.1 of_new,
)

-- one more entry keeps that
in_order-followed : (shape : Shape) (run : Run) (entry : Entry) → IsInOrder run → IsInOrder (followed shape run entry)
in_order-followed shape run entry is =
    let sent = emissions_of shape run.made run.next entry in
    let of_sent = entry-commit shape run.made run.next entry in
    let both : ids_of (run.emissions ++ sent) ≡ ids_of run.emissions ++ ids_of sent =
    map-append (λ (e : Emission). e.id) run.emissions sent in record {
      below = subst (AllByRecursion (λ (id : RecordId). id.commit < run.next + 1)) (sym both)
          (each-append (λ (id : RecordId). id.commit < run.next + 1) (ids_of run.emissions) (ids_of sent)
          (each-weaker (λ (id : RecordId). id.commit < run.next) (λ (id : RecordId). id.commit < run.next + 1)
          (λ id less. omega (arith, less)) (ids_of run.emissions) is.below)
          (each-weaker (λ (id : RecordId). id.commit ≡ run.next) (λ (id : RecordId). id.commit < run.next + 1)
          (λ id same. omega (arith, same)) (ids_of sent) of_sent));
      ascending = subst (IsStrictlySortedBy id_cmp) (sym both)
          (sorted-append id_cmp (ids_of run.emissions) (ids_of sent) is.ascending (entry-ascend shape run.made run.next entry)
          (across run.next (ids_of run.emissions) (ids_of sent) is.below of_sent));
    }

in_order-rest : (shape : Shape) (rest : List Entry) (run : Run) → IsInOrder run → IsInOrder (fold (followed shape) run rest)
in_order-rest shape [] run is = is
in_order-rest shape (e ∷ es) run is = in_order-rest shape es (followed shape run e) (in_order-followed shape run e is)

in_order-none : IsInOrder empty_run
unfolding IsStrictlySortedBy
in_order-none = record { below = tt; ascending = tt }

-- what a history emits ascends by id
pub ids-ascend : (shape : Shape) (history : List Entry) → IsStrictlySortedBy id_cmp (ids_of (run_of shape history).emissions)
ids-ascend shape history = (in_order-rest shape history empty_run in_order-none).ascending
