-- What ids tell: what was made, what was handled, and what waits.
use Rattle.std.proofs.Common.{◌≡◌, ℕ, ◌+◌, ◌<◌, ◌==◌, ◌&&◌, Bool, true, false, List, [], ◌∷◌, ◌++◌, length, map, refl, sym, ◌∙◌, ap, subst, arith}
use Rattle.std.proofs.lemmas.List.{length_push}
use Rattle.std.specs.Prelude.{⊤, Option, Some, None, IsSome, filter, not, ◌||◌}
use Rattle.std.specs.Option.{option_map_or}
use Rattle.std.specs.List.{AllByRecursion, enumerate_from}
use Rattle.std.specs.List.Sorted.{IsStrictlySortedBy}
use Rattle.std.specs.Ordering.{nat_cmp, ordering_then, is_eq}
use Rattle.std.specs.declared.cmp.Ordering.TheVariants.{Less, Equal}
use Rattle.std.specs.Cmp.{nat_cmp_is, tied_itself, first_so, second_so}
use Rattle.std.proofs.lemmas.List.Folds.{list_any-append}
use Rattle.std.proofs.lemmas.List.Elements.{filter-append, filter_agree}
use Rattle.std.proofs.lemmas.Bool.{eqb-true, eq-eqb}
use Rattle.mw_types.specs.declared.identity.RecordId.{RecordId}
use Rattle.mw_types.specs.declared.identity.RowName.{RowName}
use Rattle.mw_types.specs.declared.record.Record.{Record}
use Rattle.mw_types.specs.declared.delivery.Delivery.{Delivery}
use Rattle.mw_types.specs.declared.entry.Entry.{Entry}
use Rattle.mw_types.specs.declared.entry.Entry.TheVariants.{Claim, Inject, Handle, Fire, Ack, Purge}
use Rattle.mw_types.specs.Orders.{id_cmp}
use Rattle.mw_types.proofs.OrderLaws.{id_cmp-total}
use Rattle.topology.specs.Shapes.{Shape}
use Rattle.row_parts.specs.Contents.{same_id, delivery_cmp, found_delivery}
use Rattle.run_history.specs.Cases.{CaseShape}
use Rattle.run_history.specs.Made.{deliveries_of, deliveries_made, delivery_at, row_written, productions_of, late_cause}
use Rattle.run_history.specs.Runs.{Run, run_of, followed, empty_run, still_unhandled}
use Rattle.run_history.specs.Legal.{MayFollow, IsLegal}
use Rattle.run_history.specs.Finished.{handles, is_handled}
use Rattle.history_laws.specs.Ids.{is_left, TellsWhatWaits}
use Rattle.list_lemmas.proofs.Lists.{each-append, each-all, each-weaker, find-passes, find-each, find-more, filter-filter, filter-all, sorted-append, find-in_part, find-each_self}
use Rattle.history_laws.proofs.Along.{along_history, along_any}
use Rattle.history_laws.proofs.Made.{each_of_commit}

-- an id is the same as itself
pub same_id-itself : (id : RecordId) → same_id id id ≡ true
same_id-itself id = ap (λ b. b && (id.index == id.index)) (eq-eqb id.commit id.commit refl) ∙ eq-eqb id.index id.index refl

-- ids that are the same are equal
pub same_id-true : (a b : RecordId) → same_id a b ≡ true → a ≡ b
same_id-true a b e =
    let commit : a.commit ≡ b.commit = eqb-true a.commit b.commit (first_so (a.commit == b.commit) (a.index == b.index) e) in
    let index : a.index ≡ b.index = eqb-true a.index b.index (second_so (a.commit == b.commit) (a.index == b.index) e) in
    λ i. record { commit = commit i; index = index i }

-- deliveries of which one is before the other have different ids
pub apart_ids : (a b : Delivery) → delivery_cmp a b ≡ Less → same_id b.id a.id ≡ false
apart_ids a b less = elim (same_id b.id a.id) as (λ t. same_id b.id a.id ≡ t → t ≡ false) [
  | false ↦ λ _. refl
  | true ↦ λ same. sym (ap is_eq (tied_itself id_cmp-total b.id))
      ∙ ap (λ (i : RecordId). is_eq (id_cmp i b.id)) (same_id-true b.id a.id same) ∙ ap is_eq less
] refl

-- an id that a delivery has is not that of a delivery after it
pub passes_once : (id : RecordId) (a b : Delivery) → delivery_cmp a b ≡ Less → same_id a.id id ≡ true → same_id b.id id ≡ false
passes_once id a b less same = subst (λ (i : RecordId). same_id b.id i ≡ false) (same_id-true a.id id same) (apart_ids a b less)

-- in deliveries in the order of their ids each is the one that is found under its id
pub each_found_delivery : (ds : List Delivery) → IsStrictlySortedBy delivery_cmp ds
    → AllByRecursion (λ d. found_delivery d.id ds ≡ Some d) ds
each_found_delivery ds sorted = find-each_self delivery_cmp (λ d e. same_id e.id d.id) (λ d. same_id-itself d.id) back ds sorted
  where
    back : (x y : Delivery) → delivery_cmp x y ≡ Less → same_id x.id y.id ≡ false
    back x y less = elim (same_id x.id y.id) as (λ t. same_id x.id y.id ≡ t → t ≡ false) [
      | false ↦ λ _. refl
      | true ↦ λ same. sym (subst (λ (i : RecordId). same_id y.id i ≡ true) (sym (same_id-true x.id y.id same)) (same_id-itself y.id))
          ∙ apart_ids x y less
    ] refl

-- ---- what an entry makes is in order, and after all that was made before it

-- an earlier commit number makes an earlier delivery
before_commit : (a b : Delivery) → a.id.commit < b.id.commit → delivery_cmp a b ≡ Less
before_commit a b less = ap (λ o. ordering_then o (nat_cmp a.id.index b.id.index)) (sym (nat_cmp_is a.id.commit b.id.commit Less less))

-- of one entry a lesser place makes an earlier delivery
before_index : (c i j : ℕ) → i < j → id_cmp (record { commit = c; index = i }) (record { commit = c; index = j }) ≡ Less
before_index c i j less = ap (λ o. ordering_then o (nat_cmp i j)) (sym (nat_cmp_is c c Equal refl)) ∙ sym (nat_cmp_is i j Less less)

-- what an entry makes from a place on is after what it made before that place
after_place : (c i n : ℕ) (send : RowName × Record) (sends : List (RowName × Record)) → i < n
    → AllByRecursion (λ d. delivery_cmp (delivery_at c (i, send)) d ≡ Less) (map (delivery_at c) (enumerate_from n sends))
after_place c i n send [] less = tt
after_place c i n send (s ∷ ss) less = (before_index c i n less, after_place c i (n + 1) send ss (omega (arith, less)))

-- what is made of sends is in order
sends-ascend : (c n : ℕ) (sends : List (RowName × Record)) → IsStrictlySortedBy delivery_cmp (map (delivery_at c) (enumerate_from n sends))
unfolding IsStrictlySortedBy
sends-ascend c n [] = tt
sends-ascend c n (s ∷ ss) = (after_place c n (n + 1) s ss (omega arith), sends-ascend c (n + 1) ss)

-- what an entry makes is in order
pub made-ascend : (shape : Shape) (made : List Delivery) (commit : ℕ) (entry : Entry)
    → IsStrictlySortedBy delivery_cmp (deliveries_of shape made commit entry)
unfolding IsStrictlySortedBy
made-ascend shape made commit entry = by_row (row_written entry)
  where
    by_row : (written : Option RowName) → IsStrictlySortedBy delivery_cmp
        (option_map_or (λ (row : RowName). deliveries_made shape row.part (productions_of entry) (late_cause made entry) commit) written [])
    by_row None = tt
    by_row (Some row) = sends-ascend commit 0 _

-- what was made before an entry is before what it makes
pub across : (n : ℕ) (ds es : List Delivery) → AllByRecursion (λ (d : Delivery). d.id.commit < n) ds
    → AllByRecursion (λ (d : Delivery). d.id.commit ≡ n) es
    → AllByRecursion (λ d. AllByRecursion (λ e. delivery_cmp d e ≡ Less) es) ds
across n [] es old new = tt
across n (d ∷ ds) es old new = (
  each-weaker (λ (e : Delivery). e.id.commit ≡ n) (λ e. delivery_cmp d e ≡ Less)
      (λ e is. before_commit d e (let first = old.0 in omega (arith, first, is))) es new,
  across n ds es old.1 new,
)

-- deliveries with lesser numbers, and with this one, are all below the next
pub below_next : (n : ℕ) (ds es : List Delivery) → AllByRecursion (λ (d : Delivery). d.id.commit < n) ds
    → AllByRecursion (λ (d : Delivery). d.id.commit ≡ n) es
    → AllByRecursion (λ (d : Delivery). d.id.commit < n + 1) (ds ++ es)
below_next n ds es old new = each-append (λ (d : Delivery). d.id.commit < n + 1) ds es
    (each-weaker (λ (d : Delivery). d.id.commit < n) (λ (d : Delivery). d.id.commit < n + 1) (λ d less. omega (arith, less)) ds old)
    (each-weaker (λ (d : Delivery). d.id.commit ≡ n) (λ (d : Delivery). d.id.commit < n + 1) (λ d is. omega (arith, is)) es new)

-- what was made has numbers below the next, and ascends by id
pub record IsMadeInOrder (run : Run) : Type 0 where
  pub below : AllByRecursion (λ (d : Delivery). d.id.commit < run.next) run.made
  pub ascending : IsStrictlySortedBy delivery_cmp run.made

-- one more entry keeps what was made in order
pub IsMadeInOrder-followed : (shape : Shape) (run : Run) (entry : Entry) → IsMadeInOrder run → IsMadeInOrder (followed shape run entry)
IsMadeInOrder-followed shape run entry made =
    let new = each_of_commit shape run.made run.next entry in record {
      below = below_next run.next run.made (deliveries_of shape run.made run.next entry) made.below new;
      ascending = sorted-append delivery_cmp run.made (deliveries_of shape run.made run.next entry) made.ascending
          (made-ascend shape run.made run.next entry)
          (across run.next run.made (deliveries_of shape run.made run.next entry) made.below new);
    }

-- before any entry nothing was made
pub IsMadeInOrder-empty : IsMadeInOrder empty_run
unfolding IsStrictlySortedBy
IsMadeInOrder-empty = record { below = tt; ascending = tt }

-- what was made is in order after each history
pub made-in_order : (shape : Shape) (history : List Entry) → IsMadeInOrder (run_of shape history)
made-in_order shape history = along_any shape IsMadeInOrder (IsMadeInOrder-followed shape) history empty_run IsMadeInOrder-empty

-- ---- what was handled, and what waits

-- a handled record was made, and went to the row that handled it
abbrev pub WasMade : List Delivery → Entry → Type 0
WasMade made (Handle seq row id effects) = (d : Delivery) × (found_delivery id made ≡ Some d) × (d.to ≡ row)
WasMade made entry = ⊤

-- what a legal history and its run have to do with each other: the length is the next number, what was made is in order,
-- each handled record was made, and what was made and not handled waits
pub record AreIds (history : List Entry) (run : Run) : Type 0 where
  pub next : run.next ≡ length history
  pub made : IsMadeInOrder run
  pub handled : AllByRecursion (WasMade run.made) history
  pub waiting : run.unhandled ≡ filter (is_left history) run.made

-- what was made stays made
pub WasMade-more : (made more : List Delivery) (entry : Entry) → WasMade made entry → WasMade (made ++ more) entry
WasMade-more made more (Handle seq row id effects) was =
    (was.0, find-more (λ (d : Delivery). same_id d.id id) made more was.0 was.1, was.2)
WasMade-more made more _ was = tt

-- the delivery that waits under an id is the one that was made under it
pub waits_as_made : (history : List Entry) (run : Run) (id : RecordId) (d : Delivery) → AreIds history run
    → found_delivery id run.unhandled ≡ Some d → found_delivery id run.made ≡ Some d
waits_as_made history run id d ids waits =
    find-in_part delivery_cmp (λ (e : Delivery). same_id e.id id) (is_left history) (passes_once id) run.made d ids.made.ascending
    (subst (λ (l : List Delivery). found_delivery id l ≡ Some d) ids.waiting waits)

-- a record that may be handled was made
handled-made : (case : CaseShape) (history : List Entry) (run : Run) (entry : Entry) → AreIds history run → MayFollow case run entry
    → WasMade run.made entry
handled-made case history run (Handle seq row id effects) ids may =
    (may.delivery, waits_as_made history run id may.delivery ids may.waits, may.to_row)
handled-made case history run _ ids may = tt

-- an entry handles only what was made, so no id of the next number
handles_not-next : (made : List Delivery) (n : ℕ) (d : Delivery) (entry : Entry) → AllByRecursion (λ (e : Delivery). e.id.commit < n) made
    → d.id.commit ≡ n → WasMade made entry → handles d.id entry ≡ false
handles_not-next made n d (Claim worker interval) below is was = refl
handles_not-next made n d (Inject seq part line item) below is was = refl
handles_not-next made n d (Handle seq row id effects) below is was = elim (same_id d.id id) as (λ t. same_id d.id id ≡ t → t ≡ false) [
  | false ↦ λ _. refl
  | true ↦ λ same.
      let one : d.id ≡ id = same_id-true d.id id same in
      let other : was.0.id ≡ id = same_id-true was.0.id id (find-passes (λ (e : Delivery). same_id e.id id) made was.0 was.1) in
      let commit : d.id.commit ≡ was.0.id.commit = ap (λ (i : RecordId). i.commit) (one ∙ sym other) in
      let less : was.0.id.commit < n = find-each (λ (e : Delivery). e.id.commit < n)
      (λ (e : Delivery). same_id e.id id) made was.0 below was.1 in
      absurd (omega (arith, commit, less, is))
] refl
handles_not-next made n d (Fire seq row timer mark effects) below is was = refl
handles_not-next made n d (Ack seq row id) below is was = refl
handles_not-next made n d (Purge seq row floor) below is was = refl

-- no entry of a history has handled what the next entry makes
not_handled-next : (made : List Delivery) (n : ℕ) (d : Delivery) (entries : List Entry)
    → AllByRecursion (λ (e : Delivery). e.id.commit < n) made
    → d.id.commit ≡ n → AllByRecursion (WasMade made) entries → is_handled d.id entries ≡ false
not_handled-next made n d [] below is was = refl
not_handled-next made n d (e ∷ es) below is was =
    ap (λ b. b || is_handled d.id es) (handles_not-next made n d e below is was.0) ∙ not_handled-next made n d es below is was.1

-- whether a record is handled in a history with one more entry
pub is_handled-push : (id : RecordId) (history : List Entry) (entry : Entry)
    → is_handled id (history ++ entry ∷ []) ≡ (is_handled id history || (handles id entry || false))
is_handled-push id history entry = list_any-append (handles id) history (entry ∷ [])

-- two tests that both fail
pub left_push : (a b : Bool) → not (a || (b || false)) ≡ (not a && not b)
left_push true b = refl
left_push false true = refl
left_push false false = refl

-- an entry that handles nothing takes nothing
pub none_taken : (waiting : List Delivery) → waiting ≡ filter (λ (d : Delivery). not false) waiting
none_taken waiting = sym (filter-all (λ (d : Delivery). not false) waiting
    (each-all (λ (d : Delivery). not false ≡ true) (λ d. refl) waiting))

-- what still waits is what the entry does not handle
pub still_unhandled-filter : (entry : Entry) (waiting : List Delivery)
    → still_unhandled entry waiting ≡ filter (λ (d : Delivery). not (handles d.id entry)) waiting
still_unhandled-filter (Handle seq row id effects) waiting = refl
still_unhandled-filter _ waiting = none_taken waiting

-- one more entry keeps what ids tell
pub AreIds-followed : (case : CaseShape) (history : List Entry) (run : Run) (entry : Entry) → AreIds history run → MayFollow case run entry
    → AreIds (history ++ entry ∷ []) (followed case.topology run entry)
AreIds-followed case history run entry ids may = record {
  next = ap (λ n. n + 1) ids.next ∙ sym (length_push history entry);
  made = IsMadeInOrder-followed shape run entry ids.made;
  handled = each-weaker (WasMade run.made) (WasMade (run.made ++ sent)) (WasMade-more run.made sent) (history ++ entry ∷ []) was;
  waiting = ap (λ l. l ++ sent) waits ∙ ap (λ l. filter left run.made ++ l) (sym (filter-all left sent new_left))
      ∙ sym (filter-append left run.made sent);
}
  where
    shape : Shape
    shape = case.topology

    sent : List Delivery
    sent = deliveries_of shape run.made run.next entry

    left : Delivery → Bool
    left = is_left (history ++ entry ∷ [])

    was : AllByRecursion (WasMade run.made) (history ++ entry ∷ [])
    was = each-append (WasMade run.made) history (entry ∷ []) ids.handled (handled-made case history run entry ids may, tt)

    waits : still_unhandled entry run.unhandled ≡ filter left run.made
    waits = still_unhandled-filter entry run.unhandled
        ∙ ap (filter (λ (d : Delivery). not (handles d.id entry))) ids.waiting
        ∙ filter-filter (λ (d : Delivery). not (handles d.id entry)) (is_left history) run.made
        ∙ filter_agree _ left (λ d. sym (ap not (is_handled-push d.id history entry)
        ∙ left_push (is_handled d.id history) (handles d.id entry))) run.made

    new_left : AllByRecursion (λ d. left d ≡ true) sent
    new_left = each-weaker (λ (d : Delivery). d.id.commit ≡ run.next) (λ d. left d ≡ true)
        (λ d is. ap not (not_handled-next run.made run.next d (history ++ entry ∷ []) ids.made.below is was))
        sent (each_of_commit shape run.made run.next entry)

-- what ids tell after each legal history
pub legal-ids : (case : CaseShape) (history : List Entry) → IsLegal case history → AreIds history (run_of case.topology history)
legal-ids case = along_history case AreIds (λ done run entry ids may. AreIds-followed case done run entry ids may)
    (record { next = refl; made = IsMadeInOrder-empty; handled = tt; waiting = refl })

-- how many entries there are is the next number
pub next-length : (shape : Shape) (history : List Entry) → (run_of shape history).next ≡ length history
next-length = Rattle.run_history.proofs.RunLaws.next-length

-- a handled record was made
pub handled-was_made : (made : List Delivery) (id : RecordId) (entries : List Entry) → AllByRecursion (WasMade made) entries
    → is_handled id entries ≡ true → IsSome (found_delivery id made)
handled-was_made made id [] was handled = absurd (cc)
handled-was_made made id (e ∷ es) was handled =
    elim (handles id e) as (λ b. handles id e ≡ b → (b || is_handled id es) ≡ true → IsSome (found_delivery id made)) [
      | true ↦ λ by h. here e by was.0
      | false ↦ λ by h. handled-was_made made id es was.1 h
    ] refl handled
  where
    here : (entry : Entry) → handles id entry ≡ true → WasMade made entry → IsSome (found_delivery id made)
    here (Handle seq row other effects) by was =
        subst IsSome (sym (ap (λ (i : RecordId). found_delivery i made) (same_id-true id other by) ∙ was.1)) refl
    here _ by was = cc

-- what ids tell after each legal history
pub legal-tells : (case : CaseShape) (history : List Entry) → IsLegal case history → TellsWhatWaits history (run_of case.topology history)
legal-tells case history legal =
    let ids = legal-ids case history legal in record {
      handled = λ id handled. handled-was_made (run_of case.topology history).made id history ids.handled handled;
      waiting = ids.waiting;
    }
