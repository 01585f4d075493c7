-- What is known of the deliveries that were made, as more of them are made.
use Rattle.std.proofs.Common.{◌≡◌, ◌≢◌, ℕ, ◌+◌, ◌*◌, ◌≤◌, ◌==◌, ◌&&◌, Bool, true, false, cond, nat_lt, List, [], ◌∷◌, ◌++◌, length, get_or, map, Option, Some, None, refl, sym, ◌∙◌, ap, arith, inl, inr, length-append}
use Rattle.std.specs.Prelude.{unwrap_or}
use Rattle.std.specs.Option.{option_map_or, option_or}
use Rattle.std.specs.List.{AllByRecursion, flat_map, enumerate_from}
use Rattle.std.proofs.lemmas.Bool.{cases_lt, lt-ltb, le-ltb}
use Rattle.std.proofs.lemmas.Bool.Decides.{eqb_tells}
use Rattle.std.proofs.lemmas.List.{get_or_append_left, length-map}
use Rattle.std.proofs.lemmas.List.Folds.{find-append}
use Rattle.std.proofs.lemmas.Option.{unwrap_or-slice_get, slice_get_past}
use Rattle.std.proofs.Math.Seq.{get_or-append_seam}
use Rattle.mw_types.specs.declared.identity.RecordId.{RecordId}
use Rattle.mw_types.specs.declared.identity.RowName.{RowName}
use Rattle.mw_types.specs.declared.record.Record.{Record}
use Rattle.mw_types.specs.declared.record.Production.{Production}
use Rattle.mw_types.specs.declared.delivery.Delivery.{Delivery}
use Rattle.mw_types.specs.declared.entry.Entry.{Entry}
use Rattle.row_parts.specs.Contents.{same_id, found_delivery}
use Rattle.topology.specs.declared.subscription.Subscription.{Subscription}
use Rattle.topology.specs.Shapes.{Shape, consumers_of}
use Rattle.run_history.specs.Made.{produced, sends_of, delivery_at, deliveries_made, deliveries_of, late_cause, productions_of, row_written}
use Rattle.run_history.specs.Printing.{KnowsLate, sends_made}
use Rattle.list_lemmas.proofs.Lists.{each-all, each-append, each-map}

-- whether the delivery of an id is late
abbrev late_of : RecordId → List Delivery → Bool
late_of id ds = option_map_or (λ (d : Delivery). d.item.late) (found_delivery id ds) false

-- a number is equal to itself
eqb_same : (a b : ℕ) → a ≡ b → (a == b) ≡ true
eqb_same a b e = elim (eqb_tells a b) [ inl w ↦ w.0 | inr w ↦ absurd (w.1 e) ]

eqb_apart : (a b : ℕ) → a ≢ b → (a == b) ≡ false
eqb_apart a b e = elim (eqb_tells a b) [ inl w ↦ absurd (e w.1) | inr w ↦ w.0 ]

-- of the deliveries of one entry, each is late or none is
late_numbered : (late : Bool) (n k : ℕ) (sends : List (RowName × Record)) (id : RecordId) → id.commit ≡ n → k ≤ id.index
    → AllByRecursion (λ (s : RowName × Record). s.1.late ≡ late) sends
    → late_of id (map (delivery_at n) (enumerate_from k sends)) ≡ (late && nat_lt id.index (k + length sends))
late_numbered late n k [] id same le each = both_false late _ (le-ltb id.index (k + 0) (omega (arith, le)))
  where
    both_false : (a b : Bool) → b ≡ false → false ≡ (a && b)
    both_false true b e = sym e
    both_false false b e = refl
late_numbered late n k (s ∷ sends) id same le each =
    let rest = map (delivery_at n) (enumerate_from (k + 1) sends) in
    elim (cases_lt k id.index) [
      | inl less ↦
          first (n == id.commit) (k == id.index) rest (eqb_apart k id.index (λ e. omega (arith, e, less)))
          ∙ late_numbered late n (k + 1) sends id same (omega (arith, less)) each.1
          ∙ ap (λ m. late && nat_lt id.index m) (omega arith)
      | inr more ↦
          here (n == id.commit) (k == id.index) rest (eqb_same n id.commit (sym same)) (eqb_same k id.index (omega (arith, le, more)))
          ∙ each.0 ∙ and_true late _ (lt-ltb id.index (k + length (s ∷ sends)) (omega (arith, more)))
    ]
  where
    first : (t u : Bool) (rest : List Delivery) → u ≡ false
        → option_map_or (λ (d : Delivery). d.item.late) (cond (t && u) (Some (delivery_at n (k, s))) (found_delivery id rest)) false
        ≡ late_of id rest
    first true false rest e = refl
    first false false rest e = refl
    first t true rest e = cc

    here : (t u : Bool) (rest : List Delivery) → t ≡ true → u ≡ true
        → option_map_or (λ (d : Delivery). d.item.late) (cond (t && u) (Some (delivery_at n (k, s))) (found_delivery id rest)) false
        ≡ s.1.late
    here true true rest e f = refl
    here false u rest e f = cc
    here true false rest e f = cc

    and_true : (a b : Bool) → b ≡ true → a ≡ (a && b)
    and_true true b e = sym e
    and_true false b e = refl

-- an entry makes deliveries under its own commit number alone
none_numbered : (n k : ℕ) (sends : List (RowName × Record)) (id : RecordId) → id.commit ≢ n
    → found_delivery id (map (delivery_at n) (enumerate_from k sends)) ≡ None
none_numbered n k [] id apart = refl
none_numbered n k (s ∷ sends) id apart =
    passed (n == id.commit) (k == id.index) (eqb_apart n id.commit (λ e. apart (sym e))) ∙ none_numbered n (k + 1) sends id apart
  where
    passed : (t u : Bool) → t ≡ false
        → cond (t && u) (Some (delivery_at n (k, s))) (found_delivery id (map (delivery_at n) (enumerate_from (k + 1) sends)))
        ≡ found_delivery id (map (delivery_at n) (enumerate_from (k + 1) sends))
    passed false u e = refl
    passed true u e = cc

-- what is sent is late where its cause is
sent_late : (late : Bool) (subscriptions : List Subscription) (ps : List Production)
    → AllByRecursion (λ (s : RowName × Record). s.1.late ≡ late) (flat_map (sends_of subscriptions) (map (produced late) ps))
sent_late late subscriptions [] = tt
sent_late late subscriptions (p ∷ ps) =
    each-append _ (sends_of subscriptions (produced late p)) _
    (each-map _ _ subscriptions (each-all _ (λ s. refl) subscriptions))
    (sent_late late subscriptions ps)

-- how many deliveries productions become
length-sent : (late : Bool) (subscriptions : List Subscription) (ps : List Production)
    → length (flat_map (sends_of subscriptions) (map (produced late) ps)) ≡ length ps * length subscriptions
length-sent late subscriptions [] = omega arith
length-sent late subscriptions (p ∷ ps) =
    let rest = flat_map (sends_of subscriptions) (map (produced late) ps) in
    length-append (sends_of subscriptions (produced late p)) rest
    ∙ ap (λ m. m + length rest) (length-map subscriptions _)
    ∙ ap (λ m. length subscriptions + m) (length-sent late subscriptions ps)
    ∙ omega arith

-- what is known of the deliveries of one more entry is known of all
knows_step : (late : List ℕ) (made sent : List Delivery) (count : ℕ) → KnowsLate late made
    → ((id : RecordId) → id.commit ≡ length late → late_of id sent ≡ nat_lt id.index count)
    → ((id : RecordId) → id.commit ≢ length late → found_delivery id sent ≡ None)
    → KnowsLate (late ++ count ∷ []) (made ++ sent)
knows_step late made sent count knows own other = record {
  known = λ id. ap (λ o. option_map_or (λ (d : Delivery). d.item.late) o false)
      (find-append (λ (d : Delivery). same_id d.id id) made sent)
      ∙ by_commit id ∙ ap (nat_lt id.index) (sym (unwrap_or-slice_get (late ++ count ∷ []) id.commit 0));
  so_far = λ id past.
      let beyond : length late + 1 ≤ id.commit = omega (arith, past, length-append late (count ∷ [])) in
      find-append (λ (d : Delivery). same_id d.id id) made sent
      ∙ ap (λ o. option_or o (found_delivery id sent)) (knows.so_far id (omega (arith, beyond)))
      ∙ other id (λ e. omega (arith, e, beyond));
}
  where
    or_none : (o : Option Delivery) → option_or o None ≡ o
    or_none None = refl
    or_none (Some d) = refl

    by_commit : (id : RecordId)
        → option_map_or (λ (d : Delivery). d.item.late) (option_or (found_delivery id made) (found_delivery id sent)) false
        ≡ nat_lt id.index (get_or (late ++ count ∷ []) id.commit 0)
    by_commit id = elim (cases_lt id.commit (length late)) [
      | inl below ↦
          ap (λ o. option_map_or (λ (d : Delivery). d.item.late) o false)
          (ap (λ o. option_or (found_delivery id made) o) (other id (λ e. omega (arith, e, below))) ∙ or_none (found_delivery id made))
          ∙ knows.known id
          ∙ ap (nat_lt id.index) (unwrap_or-slice_get late id.commit 0 ∙ sym (get_or_append_left late (count ∷ []) 0 id.commit below))
      | inr le ↦
          ap (λ o. option_map_or (λ (d : Delivery). d.item.late) (option_or o (found_delivery id sent)) false) (knows.so_far id le)
          ∙ behind id le
    ]
      where
        behind : (id : RecordId) → length late ≤ id.commit → late_of id sent ≡ nat_lt id.index (get_or (late ++ count ∷ []) id.commit 0)
        behind id le = elim (cases_lt (length late) id.commit) [
          | inl above ↦
              ap (λ o. option_map_or (λ (d : Delivery). d.item.late) o false) (other id (λ e. omega (arith, e, above)))
              ∙ sym (le-ltb id.index 0 (omega arith))
              ∙ ap (nat_lt id.index) (sym (ap (λ o. unwrap_or o 0) (slice_get_past (late ++ count ∷ []) id.commit
              (omega (arith, above, length-append late (count ∷ []))))) ∙ unwrap_or-slice_get (late ++ count ∷ []) id.commit 0)
          | inr ge ↦
              let at : id.commit ≡ length late = omega (arith, le, ge) in
              own id at ∙ ap (nat_lt id.index) (sym (ap (λ k. get_or (late ++ count ∷ []) k 0) at ∙ get_or-append_seam late count [] 0))
        ]

-- what is known once one more entry's late deliveries are counted
pub knows_more : (shape : Shape) (late : List ℕ) (made : List Delivery) (entry : Entry) → KnowsLate late made
    → KnowsLate (late ++ cond (late_cause made entry) (sends_made shape entry) 0 ∷ [])
    (made ++ deliveries_of shape made (length late) entry)
knows_more shape late made entry knows =
    by_row (row_written entry) (late_cause made entry) (productions_of entry)
  where
    by_row : (o : Option RowName) (is_late : Bool) (ps : List Production)
        → KnowsLate (late ++ cond is_late (option_map_or (λ (row : RowName). length ps * length (consumers_of shape row.part)) o 0) 0 ∷ [])
        (made ++ option_map_or (λ (row : RowName). deliveries_made shape row.part ps is_late (length late)) o [])
    by_row None is_late ps = knows_step late made [] _ knows (λ id at. sym (none_sent is_late id)) (λ id apart. refl)
      where
        none_sent : (b : Bool) (id : RecordId) → nat_lt id.index (cond b 0 0) ≡ false
        none_sent true id = le-ltb id.index 0 (omega arith)
        none_sent false id = le-ltb id.index 0 (omega arith)
    by_row (Some row) is_late ps =
        let subscriptions = consumers_of shape row.part in
        knows_step late made (deliveries_made shape row.part ps is_late (length late)) _ knows
        (λ id at. late_numbered is_late (length late) 0 _ id at (omega arith) (sent_late is_late subscriptions ps)
        ∙ ap (λ m. is_late && nat_lt id.index m) (omega (arith, length-sent is_late subscriptions ps))
        ∙ counted is_late id (length ps * length subscriptions))
        (λ id apart. none_numbered (length late) 0 _ id apart)
      where
        counted : (b : Bool) (id : RecordId) (m : ℕ) → (b && nat_lt id.index m) ≡ nat_lt id.index (cond b m 0)
        counted true id m = refl
        counted false id m = sym (le-ltb id.index 0 (omega arith))
