-- What is known of senders is what is pending in the rows of a history, as entries come.
use Rattle.std.proofs.Common.{◌≡◌, ℕ, ◌+◌, ◌<◌, ◌≤◌, ◌==◌, ◌&&◌, nat_lt, Bool, true, false, cond, List, [], ◌∷◌, ◌++◌, length, map, refl, sym, ◌∙◌, ap, subst, arith, inl, inr}
use Rattle.std.specs.Prelude.{◌↔◌, ◌||◌, ◌⊎◌, not, Option, Some, None}
use Rattle.std.specs.Option.{is_some, option_or, option_map_or}
use Rattle.std.specs.List.{AllByRecursion, enumerate_from}
use Rattle.std.specs.Ordering.{is_eq}
use Rattle.std.proofs.lemmas.Bool.{eqb-true, eq-eqb, ltb-true, lt-ltb, and_from}
use Rattle.std.proofs.lemmas.List.{length-map}
use Rattle.std.proofs.lemmas.List.FromFn.{length-enumerate_from}
use Rattle.std.proofs.lemmas.List.Folds.{find-append}
use Rattle.std.specs.Cmp.{first_so, second_so, tied_itself}
use Rattle.mw_types.specs.declared.identity.RecordId.{RecordId}
use Rattle.mw_types.specs.declared.identity.RowName.{RowName}
use Rattle.mw_types.specs.declared.record.Record.{Record}
use Rattle.mw_types.specs.declared.delivery.Delivery.{Delivery}
use Rattle.mw_types.specs.declared.entry.Entry.{Entry}
use Rattle.mw_types.specs.declared.entry.Entry.TheVariants.{Claim, Inject, Handle, Fire, Ack, Purge}
use Rattle.mw_types.proofs.OrderLaws.{row_cmp-total}
use Rattle.topology.specs.Shapes.{Shape}
use Rattle.row_parts.specs.Contents.{Contents, same_id, without_delivery, found_delivery}
use Rattle.run_history.specs.Made.{row_written, deliveries_of, deliveries_made, delivery_at, productions_of, late_cause}
use Rattle.run_history.specs.Runs.{Run, run_of, row_of, followed, changed}
use Rattle.run_history.proofs.RunLaws.{run_of-push}
use Rattle.list_lemmas.proofs.Lists.{none_some, some_same, each-weaker}
use Rattle.history_laws.proofs.IdLaws.{same_id-itself, same_id-true, next-length}
use Rattle.history_laws.proofs.RowSteps.{same_row, on_row_or_not, row_of-here, row_of-elsewhere, row_of-in_order, pending-in_order}
use Rattle.book.specs.Senders.{IsPendingIn, AreSenders, sender_of}
use Rattle.book.specs.Sending.{sender_more, sender_less, settled_by, is_among_sent, is_sender, IsUnsent, KnowsSame, IsAfterEntry}
use Rattle.book.specs.Appending.{sent_by}
use Rattle.book.proofs.SenderMaps.{same_test, among-commit}

-- ---- what is found under an id

-- whether a delivery of this id is among these
abbrev is_found : RecordId → List Delivery → Bool
is_found id ds = is_some (found_delivery id ds)

-- what holds of the id of each delivery holds of an id that is found
pub found-each : (P : RecordId → Type 0) (id : RecordId) (ds : List Delivery) → AllByRecursion (λ (d : Delivery). P d.id) ds
    → is_found id ds ≡ true → P id
found-each P id [] each found = absurd (cc)
found-each P id (d ∷ ds) each found = by_case (found-each P id ds each.1) (same_id d.id id) refl found
  where
    by_case : (is_found id ds ≡ true → P id) → (b : Bool) → same_id d.id id ≡ b → is_some (cond b (Some d) (found_delivery id ds)) ≡ true
        → P id
    by_case rest true same found = subst P (same_id-true d.id id same) each.0
    by_case rest false same found = rest found

-- what holds of each id that is found holds of the id of each delivery
pub each-found : (P : RecordId → Type 0) (ds : List Delivery) → ((id : RecordId) → is_found id ds ≡ true → P id)
    → AllByRecursion (λ (d : Delivery). P d.id) ds
each-found P [] found = tt
each-found P (d ∷ ds) found = (
  found d.id (ap (λ b. is_some (cond b (Some d) (found_delivery d.id ds))) (same_id-itself d.id)),
  each-found P ds (λ id there. found id (by_case id (same_id d.id id) there)),
)
  where
    by_case : (id : RecordId) (b : Bool) → is_found id ds ≡ true → is_some (cond b (Some d) (found_delivery id ds)) ≡ true
    by_case id true there = refl
    by_case id false there = there

-- what is found in two lists together is found in one of them
found-append : (id : RecordId) (xs ys : List Delivery) → is_found id (xs ++ ys) ≡ (is_found id xs || is_found id ys)
found-append id xs ys = ap is_some (find-append (λ (d : Delivery). same_id d.id id) xs ys) ∙ by_case (found_delivery id xs)
  where
    by_case : (o : Option Delivery) → is_some (option_or o (found_delivery id ys)) ≡ (is_some o || is_found id ys)
    by_case None = refl
    by_case (Some d) = refl

-- without the deliveries of one id, every other is still found
found-without : (settled id : RecordId) (ds : List Delivery)
    → is_found id (without_delivery settled ds) ≡ (not (same_id settled id) && is_found id ds)
found-without settled id [] = by_case (same_id settled id)
  where
    by_case : (b : Bool) → false ≡ (not b && false)
    by_case true = refl
    by_case false = refl
found-without settled id (d ∷ ds) = by_kept (found-without settled id ds) (same_id d.id settled) refl
  where
    both : (b c : Bool) → same_id d.id id ≡ b → same_id settled id ≡ c → same_id d.id settled ≡ true
        → (not c && is_found id ds) ≡ (not c && is_some (cond b (Some d) (found_delivery id ds)))
    both b true here there kept = refl
    both true false here there kept = absurd (cc (ap (λ (i : RecordId). same_id i id) (same_id-true d.id settled kept)))
    both false false here there kept = refl

    by_found : is_found id (without_delivery settled ds) ≡ (not (same_id settled id) && is_found id ds)
        → (b c : Bool) → same_id d.id id ≡ b → same_id settled id ≡ c → same_id d.id settled ≡ false
        → is_some (cond b (Some d) (found_delivery id (without_delivery settled ds))) ≡
        (not c && is_some (cond b (Some d) (found_delivery id ds)))
    by_found rest true true here there apart =
        absurd (cc (same_id-true settled id there, apart))
    by_found rest true false here there apart = refl
    by_found rest false c here there apart = rest ∙ ap (λ t. not t && is_found id ds) there

    by_kept : is_found id (without_delivery settled ds) ≡ (not (same_id settled id) && is_found id ds)
        → (b : Bool) → same_id d.id settled ≡ b → is_found id
        (cond (not b) (d ∷ without_delivery settled ds) (without_delivery settled ds)) ≡
        (not (same_id settled id) && is_found id (d ∷ ds))
    by_kept rest true kept = rest ∙ both (same_id d.id id) (same_id settled id) refl refl kept
    by_kept rest false apart = by_found rest (same_id d.id id) (same_id settled id) refl refl apart

-- ---- what an entry sends

-- of sends that are numbered from n on those within the count are found
found-numbered : (commit n : ℕ) (id : RecordId) (sends : List (RowName × Record)) → id.commit ≡ commit → n ≤ id.index
    → id.index < n + length sends
    → is_found id (map (delivery_at commit) (enumerate_from n sends)) ≡ true
found-numbered commit n id [] is from below = absurd (omega (arith, from, below))
found-numbered commit n id (s ∷ ss) is from below =
    by_case (λ from-next. found-numbered commit (n + 1) id ss is from-next (omega (arith, below))) (same_id this id) refl
  where
    this : RecordId
    this = record { commit = commit; index = n }

    by_case : (n + 1 ≤ id.index → is_found id (map (delivery_at commit) (enumerate_from (n + 1) ss)) ≡ true) → (b : Bool)
        → same_id this id ≡ b
        → is_some (cond b (Some (delivery_at commit (n, s))) (found_delivery id (map (delivery_at commit) (enumerate_from (n + 1) ss)))) ≡
        true
    by_case rest true same = refl
    by_case rest false apart = rest (omega (arith, from, other))
      where
        other : id.index ≡ n → ⊥
        other index = absurd (cc (
          apart,
          and_from (commit == id.commit) (n == id.index) (eq-eqb commit id.commit (sym is))
              (eq-eqb n id.index (sym index)),
        ))

-- of sends that are numbered from n on those that are found are within the count
numbered-each : (commit n : ℕ) (sends : List (RowName × Record))
    → AllByRecursion (λ (d : Delivery). (d.id.commit ≡ commit) × (d.id.index < n + length sends))
    (map (delivery_at commit) (enumerate_from n sends))
numbered-each commit n [] = tt
numbered-each commit n (s ∷ ss) = (
  (refl, omega arith),
  each-weaker (λ (d : Delivery). (d.id.commit ≡ commit) × (d.id.index < (n + 1) + length ss))
      (λ (d : Delivery). (d.id.commit ≡ commit) × (d.id.index < n + length (s ∷ ss)))
      (λ d is. let less = is.1 in (is.0, omega (arith, less))) _ (numbered-each commit (n + 1) ss),
)

-- of numbered sends those are found that are among them
found-sends : (commit : ℕ) (id : RecordId) (sends : List (RowName × Record))
    → is_found id (map (delivery_at commit) (enumerate_from 0 sends)) ≡ is_among_sent commit
    (length (map (delivery_at commit) (enumerate_from 0 sends))) id
found-sends commit id sends =
    let sent = map (delivery_at commit) (enumerate_from 0 sends) in
    let many : length sent ≡ length sends = length-map (enumerate_from 0 sends) (delivery_at commit) ∙ length-enumerate_from 0 sends in
    same_test (is_found id sent) (is_among_sent commit (length sent) id)
    (λ found. let within = found-each (λ (i : RecordId). (i.commit ≡ commit) × (i.index < 0 + length sends)) id sent
    (numbered-each commit 0 sends) found in
    let index = within.1 in
    and_from (id.commit == commit) (nat_lt id.index (length sent)) (eq-eqb id.commit commit within.0)
    (lt-ltb id.index (length sent) (omega (arith, index, many))))
    (λ among. let less = ltb-true id.index (length sent) (second_so (id.commit == commit) (nat_lt id.index (length sent)) among) in
    found-numbered commit 0 id sends (eqb-true id.commit commit (first_so (id.commit == commit) (nat_lt id.index (length sent)) among))
    (omega arith) (omega (arith, less, many)))

-- of what an entry sends those are found that are among them
found-sent : (shape : Shape) (made : List Delivery) (commit : ℕ) (entry : Entry) (id : RecordId)
    → is_found id (deliveries_of shape made commit entry) ≡ is_among_sent commit (length (deliveries_of shape made commit entry)) id
found-sent shape made commit entry id = by_row (row_written entry)
  where
    of : Option RowName → List Delivery
    of = λ w. option_map_or (λ (row : RowName). deliveries_made shape row.part (productions_of entry) (late_cause made entry) commit) w []

    by_row : (w : Option RowName) → is_found id (of w) ≡ is_among_sent commit (length (of w)) id
    by_row None = found-sends commit id []
    by_row (Some row) = found-sends commit id _

-- ---- one more entry

-- the row that an entry is on
module _ (n : ℕ) (name : RowName) (id : RecordId) (sender : Option RowName) where
  -- an id that is among those sent is the row's, and every other as it was
  own-more : (pending sent : List Delivery) (among : Bool) → is_found id sent ≡ among → (among ≡ true → sender ≡ None)
      → (sender ≡ Some name) ↔ (is_found id pending ≡ true)
      → (cond among (Some name) sender ≡ Some name) ↔ (is_found id (pending ++ sent) ≡ true)
  own-more pending sent true found new was = (
    λ _. found-append id pending sent ∙ ap (λ b. is_found id pending || b) found
        ∙ either (is_found id pending),
    λ _. refl,
  )
    where
      either : (b : Bool) → (b || true) ≡ true
      either true = refl
      either false = refl
  own-more pending sent false found new was =
      subst (λ b. (sender ≡ Some name) ↔ (b ≡ true))
      (sym (found-append id pending sent ∙ ap (λ b. is_found id pending || b) found ∙ either (is_found id pending))) was
    where
      either : (b : Bool) → (b || false) ≡ b
      either true = refl
      either false = refl

  -- an id that is settled is the row's no more, and every other as it was
  own-less : (pending : List Delivery) (settled : RecordId) → (sender ≡ Some name) ↔ (is_found id pending ≡ true)
      → (cond (same_id settled id && is_sender name sender) None sender ≡ Some name) ↔
      (is_found id (without_delivery settled pending) ≡ true)
  own-less pending settled was =
      subst (λ b. (cond (same_id settled id && is_sender name sender) None sender ≡ Some name) ↔ (b ≡ true))
      (sym (found-without settled id pending))
      (by_case (same_id settled id) sender was)
    where
      tie : is_sender name (Some name) ≡ true
      tie = ap is_eq (tied_itself row_cmp-total name)

      gone : (o : Option RowName) (b : Bool) → is_sender name o ≡ b → cond b None o ≡ Some name → ⊥
      gone o true is e = none_some name e
      gone o false is e = absurd (cc (tie, is))

      by_case : (same : Bool) (o : Option RowName) → (o ≡ Some name) ↔ (is_found id pending ≡ true)
          → (cond (same && is_sender name o) None o ≡ Some name) ↔ ((not same && is_found id pending) ≡ true)
      by_case true o was = (λ e. absurd (gone o (is_sender name o) refl e), λ e. absurd (cc))
      by_case false o was = was

-- every other row
module _ (name other : RowName) (apart : name ≡ other → ⊥) (sender : Option RowName) where
  -- what is sent new is not another row's
  other-more : (among : Bool) → (among ≡ true → sender ≡ None) → (cond among (Some name) sender ≡ Some other) ↔ (sender ≡ Some other)
  other-more true new = (λ e. absurd (apart (some_same name other e)), λ e. absurd (none_some other (sym (new refl) ∙ e)))
  other-more false new = (λ e. e, λ e. e)

  -- what is settled was not another row's
  other-less : (same : Bool) → (cond (same && is_sender name sender) None sender ≡ Some other) ↔ (sender ≡ Some other)
  other-less false = (λ e. e, λ e. e)
  other-less true = by_case (is_sender name sender) refl
    where
      is-not : (o : Option RowName) → is_sender name o ≡ true → o ≡ Some other → ⊥
      is-not None is e = none_some other e
      is-not (Some x) is e = apart (same_row name x is ∙ some_same x other e)

      by_case : (b : Bool) → is_sender name sender ≡ b → (cond b None sender ≡ Some other) ↔ (sender ≡ Some other)
      by_case true is = (λ e. absurd (none_some other e), λ e. absurd (is-not sender is e))
      by_case false is = (λ e. e, λ e. e)

-- each of three follows from each, where they do in turn
both : {A B C : Type 0} → A ↔ B → B ↔ C → A ↔ C
both one other = (λ a. other.0 (one.0 a), λ c. one.1 (other.1 c))

-- what is known of senders after an entry on a row is what is pending then
pub AreSenders-followed : (shape : Shape) (run : Run) (entry : Entry) (name : RowName) (old new : List (RecordId × RowName))
    → row_written entry ≡ Some name
    → AreSenders shape run old → IsUnsent run.next old
    → IsAfterEntry run.next entry name (length (deliveries_of shape run.made run.next entry)) old new
    → AreSenders shape (followed shape run entry) new
AreSenders-followed shape run entry name old new written are unsent after id row =
    subst (λ o. (o ≡ Some row) ↔ IsPendingIn shape (followed shape run entry) id row) (sym (after id)) (by_row (on_row_or_not entry row))
  where
    sent : List Delivery
    sent = deliveries_of shape run.made run.next entry

    count : ℕ
    count = length sent

    new-one : is_among_sent run.next count id ≡ true → sender_of old id ≡ None
    new-one among = let is = among-commit run.next count id among in unsent id (omega (arith, is))

    here : (e : Entry) → (c : Contents) → is_found id (deliveries_of shape run.made run.next e) ≡ is_among_sent run.next
        (length (deliveries_of shape run.made run.next e)) id
        → (is_among_sent run.next (length (deliveries_of shape run.made run.next e)) id ≡ true → sender_of old id ≡ None)
        → (sender_of old id ≡ Some name) ↔ (is_found id c.pending ≡ true)
        → (sender_less (settled_by e) name id (sender_more run.next name (length (deliveries_of shape run.made run.next e)) id
        (sender_of old id)) ≡ Some name)
        ↔ (is_found id (changed e (deliveries_of shape run.made run.next e) c).pending ≡ true)
    here (Claim worker interval) c found new was = subst
        (λ b. (cond b (Some name) (sender_of old id) ≡ Some name) ↔ (is_found id c.pending ≡ true)) found was
    here (Inject seq part line item) c found new was = own-more run.next name id (sender_of old id) c.pending _ _ found new was
    here (Handle seq row_name settled effects) c found new was = own-more run.next name id (sender_of old id) c.pending _ _ found new was
    here (Fire seq row_name timer mark effects) c found new was = own-more run.next name id (sender_of old id) c.pending _ _ found new was
    here (Ack seq row_name settled) c found new was =
        subst (λ b. (cond (same_id settled id && is_sender name (cond b (Some name) (sender_of old id))) None
        (cond b (Some name) (sender_of old id)) ≡ Some name)
        ↔ (is_found id (without_delivery settled c.pending) ≡ true)) found
        (own-less run.next name id (sender_of old id) c.pending settled was)
    here (Purge seq row_name floor) c found new was = subst
        (λ b. (cond b (Some name) (sender_of old id) ≡ Some name) ↔ (is_found id c.pending ≡ true)) found was

    other : (name ≡ row → ⊥) → (settled : Option RecordId)
        → (sender_less settled name id (sender_more run.next name count id (sender_of old id)) ≡ Some row) ↔ (sender_of old id ≡ Some row)
    other apart None = other-more name row apart (sender_of old id) (is_among_sent run.next count id) new-one
    other apart (Some settled) =
        both (other-less name row apart (sender_more run.next name count id (sender_of old id)) (same_id settled id))
        (other-more name row apart (sender_of old id) (is_among_sent run.next count id) new-one)

    by_row : (row_written entry ≡ Some row) ⊎ (row_written entry ≡ Some row → ⊥)
        → (sender_less (settled_by entry) name id (sender_more run.next name count id (sender_of old id)) ≡ Some row) ↔ IsPendingIn shape
        (followed shape run entry) id row
    by_row (inl on) =
        subst (λ (r : RowName). (sender_less (settled_by entry) name id (sender_more run.next name count id (sender_of old id)) ≡ Some r)
        ↔ IsPendingIn shape (followed shape run entry) id r) (some_same name row (sym written ∙ on))
        (subst (λ (c : Contents). (sender_less (settled_by entry) name id
        (sender_more run.next name count id (sender_of old id)) ≡ Some name) ↔ (is_found id c.pending ≡ true))
        (sym (row_of-here shape run entry name written))
        (here entry (row_of shape run name) (found-sent shape run.made run.next entry id) new-one (are id name)))
    by_row (inr off) =
        both (other (λ same. off (written ∙ ap Some same)) (settled_by entry))
        (subst (λ (c : Contents). (sender_of old id ≡ Some row) ↔ (is_found id c.pending ≡ true))
        (sym (row_of-elsewhere shape run entry row off)) (are id row))

-- what is known of senders stays so where no row is written
pub AreSenders-kept : (shape : Shape) (run : Run) (entry : Entry) (sent : List (RecordId × RowName)) → row_written entry ≡ None
    → AreSenders shape run sent → AreSenders shape (followed shape run entry) sent
AreSenders-kept shape run entry sent written are id row =
    subst (λ (c : Contents). (sender_of sent id ≡ Some row) ↔ (is_found id c.pending ≡ true))
    (sym (row_of-elsewhere shape run entry row (λ e. none_some row (sym written ∙ e)))) (are id row)

-- ---- after a history

-- what is pending in a row was made by an entry of the history
pub pending-before : (shape : Shape) (history : List Entry) (id : RecordId) (name : RowName)
    → IsPendingIn shape (run_of shape history) id name → id.commit < length history
pending-before shape history id name pending =
    let order = row_of-in_order shape (run_of shape history) name (pending-in_order shape history) in
    subst (λ n. id.commit < n) (next-length shape history)
    (found-each (λ (i : RecordId). i.commit < (run_of shape history).next) id
    (row_of shape (run_of shape history) name).pending order.below pending)

-- nothing is known yet of the next entry, nor of a later one
pub senders-unsent : (shape : Shape) (history : List Entry) (sent : List (RecordId × RowName))
    → AreSenders shape (run_of shape history) sent → IsUnsent (length history) sent
senders-unsent shape history sent are id late = by_sender (sender_of sent id) refl
  where
    by_sender : (o : Option RowName) → sender_of sent id ≡ o → o ≡ None
    by_sender None is = refl
    by_sender (Some name) is = absurd (let before = pending-before shape history id name ((are id name).0 is) in omega
        (arith, before, late))

-- what is known of senders after an entry on a row of a history
pub senders-next : (shape : Shape) (history : List Entry) (entry : Entry) (name : RowName) (count : ℕ)
    (old new : List (RecordId × RowName)) → row_written entry ≡ Some name
    → count ≡ sent_by shape history entry → AreSenders shape (run_of shape history) old
    → IsAfterEntry (length history) entry name count old new → AreSenders shape (run_of shape (history ++ entry ∷ [])) new
senders-next shape history entry name count old new written many are after =
    let run = run_of shape history in
    let counted : count ≡ length (deliveries_of shape run.made run.next entry) = many
    ∙ ap (λ n. length (deliveries_of shape run.made n entry)) (sym (next-length shape history)) in
    subst (λ (r : Run). AreSenders shape r new) (sym (run_of-push shape history entry))
    (AreSenders-followed shape run entry name old new written are
    (subst (λ n. IsUnsent n old) (sym (next-length shape history)) (senders-unsent shape history old are))
    (subst (λ k. IsAfterEntry run.next entry name k old new) counted
    (subst (λ n. IsAfterEntry n entry name count old new) (sym (next-length shape history)) after)))

-- what is known of senders after a claim
pub senders-claim : (shape : Shape) (history : List Entry) (worker interval : ℕ) (sent : List (RecordId × RowName))
    → AreSenders shape (run_of shape history) sent
    → AreSenders shape (run_of shape (history ++ Claim worker interval ∷ [])) sent
senders-claim shape history worker interval sent are =
    subst (λ (r : Run). AreSenders shape r sent) (sym (run_of-push shape history (Claim worker interval)))
    (AreSenders-kept shape (run_of shape history) (Claim worker interval) sent refl are)

-- what is known of senders stays where the same is known
pub senders-same : (shape : Shape) (run : Run) (old new : List (RecordId × RowName)) → AreSenders shape run old → KnowsSame old new
    → AreSenders shape run new
senders-same shape run old new are same id row = subst (λ o. (o ≡ Some row) ↔ IsPendingIn shape run id row) (sym (same id)) (are id row)
