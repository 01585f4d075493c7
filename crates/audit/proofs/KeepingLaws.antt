-- What is kept stays what stands after the history, as entries come.
use Rattle.std.proofs.Common.{◌≡◌, ◌∙◌, ◌<◌, ◌≤◌, ◌^◌, ◌+◌, ◌-◌, ℕ, true, false, cond, List, [], ◌∷◌, ◌++◌, length, drop, refl, sym, ap, subst, arith, append-nil}
use Rattle.std.specs.Prelude.{Err, None, Ok, OnOk, Option, Result, Some, filter, unwrap_or}
use Rattle.std.specs.Option.{option_map_or}
use Rattle.std.specs.List.{AllByRecursion}
use Rattle.std.specs.List.Sorted.{IsStrictlySortedBy}
use Rattle.std.specs.BTreeMap.{get, insert_entry}
use Rattle.std.specs.Ordering.{nat_cmp}
use Rattle.std.proofs.lemmas.List.{drop_all, drop-append-le}
use Rattle.std.proofs.lemmas.List.Elements.{recursion_from_All}
use Rattle.std.proofs.lemmas.List.Kept.{IsStrictlySortedBy-filter}
use Rattle.list_lemmas.proofs.Lists.{each-append, each-filter}
use Rattle.list_lemmas.proofs.Places.{each-behind}
use Rattle.mw_types.specs.Orders.{row_cmp}
use Rattle.mw_types.specs.declared.identity.RowName.{RowName}
use Rattle.mw_types.specs.declared.delivery.Delivery.{Delivery}
use Rattle.mw_types.specs.declared.entry.Entry.{Entry}
use Rattle.mw_types.specs.declared.entry.Entry.TheVariants.{Claim, Handle, Ack, Purge}
use Rattle.topology.specs.Shapes.{Shape, injectors_of, parts_of, stream_of}
use Rattle.row_parts.specs.Contents.{Contents, IsId, delivery_cmp, fresh, same_id}
use Rattle.run_history.specs.Cases.{CaseShape, fresh_of}
use Rattle.run_history.specs.Fences.{is_claim}
use Rattle.run_history.specs.Legal.{MayFollow}
use Rattle.run_history.specs.Made.{deliveries_made, deliveries_of, late_cause, productions_of, row_written}
use Rattle.run_history.specs.Printing.{IsOnPart}
use Rattle.run_history.specs.Runs.{Run, cached, changed, followed, row_after, row_in, row_of, run_of, still_unhandled}
use Rattle.run_history.proofs.Claims.{last_claim-push}
use Rattle.run_history.proofs.Fenced.{IsFenced-empty, IsFenced-push}
use Rattle.run_history.specs.Inputs.{IsRunnable}
use Rattle.run_history.proofs.RunLaws.{IsLegal-push, next-length, run_of-push}
use Rattle.run_history.proofs.Making.{consumers_few}
use Rattle.history_laws.specs.Ids.{is_left}
use Rattle.history_laws.proofs.IdLaws.{AreIds-followed, legal-ids}
use Rattle.history_laws.proofs.PrintLaws.{legal-on_parts}
use Rattle.book.proofs.ClaimLaws.{KnowsClaims-row}
use Rattle.book.proofs.SentLaws.{sent-ids}
use Rattle.book.proofs.SenderSteps.{AreSenders-kept, senders-next}
use Rattle.book.specs.Senders.{AreSenders}
use Rattle.book.specs.Sending.{IsAfterEntry}
use Rattle.history_laws.proofs.LowLaws.{rows-in_order}
use Rattle.history_laws.proofs.RowSteps.{row_of-here}
use Rattle.history_laws.proofs.UnfinishedLaws.{unfinished-followed, unfinished-kept}
use Rattle.run_history.specs.Finished.{unfinished, work_in}
use Rattle.book.specs.declared.answers.NamedRow.{NamedRow}
use Rattle.audit.specs.declared.kept.Kept.{Kept}
use Rattle.audit.specs.Choices.{MayCome}
use Rattle.audit.specs.Keeping.{HasChanged, HasClaimed, HasWorkLeft, IsFollowed, IsKept, IsLeftOf, newly_pending, pending_in}
use Rattle.audit.specs.Waits.{AreWaiting}
use Rattle.audit.specs.Works.{AreWorks, HasWorked}
use Rattle.audit.proofs.WaitingLaws.{waiting-changed}
use Rattle.audit.proofs.WorkLaws.{works-next}
use Rattle.std.specs.Map.{keys_of}

-- a row that is kept, there or fresh, is that of the run
pub row-kept : (case : CaseShape) (history : List Entry) (kept : Kept) (name : RowName) → IsKept case history kept
    → row_of case.topology (cached kept.rows.entries) name ≡ row_of case.topology (run_of case.topology history) name
row-kept case history kept name keeps = ap (λ (l : List (RowName × Contents)). row_of case.topology (cached l) name) keeps.rows

-- a row that is there is found among those that are kept
pub there-kept : (case : CaseShape) (history : List Entry) (kept : Kept) (name : RowName) → IsKept case history kept
    → row_in (cached kept.rows.entries) name ≡ row_in (run_of case.topology history) name
there-kept case history kept name keeps = ap (λ (l : List (RowName × Contents)). row_in (cached l) name) keeps.rows

-- a legal history stays legal and fenced with an entry that may come next
pub followed-push : (case : CaseShape) (history : List Entry) (entry : Entry) → IsFollowed case history → MayCome case history entry
    → length history < 2 ^ 32 → IsFollowed case (history ++ entry ∷ [])
followed-push case history entry follows may few =
    let longer = Rattle.std.proofs.Common.length-append history (entry ∷ []) in record {
      runnable = follows.runnable;
      lawful = record {
        legal = IsLegal-push case history entry follows.lawful.legal may.may;
        fenced = IsFenced-push case.topology history entry follows.lawful.fenced may.under;
      };
      few = omega (arith, longer, few);
    }

-- an entry that may come next is on a part that is there
pub part-there : (case : CaseShape) (history : List Entry) (entry : Entry) (name : RowName) → IsFollowed case history
    → MayFollow case (run_of case.topology history) entry → row_written entry ≡ Some name → name.part < parts_of case.topology
part-there case history entry name follows may on =
    let are = legal-on_parts case (history ++ entry ∷ []) (IsLegal-push case history entry follows.lawful.legal may) in
    let here : IsOnPart case.topology entry = (each-behind (IsOnPart case.topology) history (entry ∷ []) are.entries).0 in
    subst (λ (o : Option RowName). Rattle.std.specs.Prelude.IfSome o (λ (row : RowName). row.part < parts_of case.topology)) on here

-- ---- what an entry sent

-- what is behind the first of two lists
drop-first : {X : Type 0} (xs ys : List X) → drop (length xs) (xs ++ ys) ≡ ys
drop-first xs ys =
    drop-append-le (length xs) xs ys (omega arith) ∙ ap (λ l. l ++ ys) (drop_all (length xs) xs (omega arith))

-- no more is left than there was
filter-shorter : {X : Type 0} (p : X → Rattle.std.proofs.Common.Bool) (xs : List X) → length (filter p xs) ≤ length xs
filter-shorter p [] = omega arith
filter-shorter p (x ∷ xs) = let rest = filter-shorter p xs in
    elim (p x) as (λ b. length (cond b (x ∷ filter p xs) (filter p xs)) ≤ length (x ∷ xs)) [
      | true ↦ omega (arith, rest)
      | false ↦ omega (arith, rest)
    ]

-- what an entry leaves pending beyond what was pending is what it made
sent-changed : (shape : Shape) (made : List Delivery) (commit : ℕ) (entry : Entry) (row : Contents)
    → drop (length row.pending) (changed entry (deliveries_of shape made commit entry) row).pending ≡ deliveries_of shape made commit entry
sent-changed shape made commit (Claim worker interval) row = drop_all (length row.pending) row.pending (omega arith)
sent-changed shape made commit (Ack seq name id) row =
    drop_all (length row.pending) _ (filter-shorter (λ (d : Delivery). Rattle.std.specs.Prelude.not (same_id d.id id)) row.pending)
sent-changed shape made commit (Purge seq name floor) row = drop_all (length row.pending) row.pending (omega arith)
sent-changed shape made commit _ row = drop-first row.pending _

-- what is pending in a row, there or not
pub pending-of : (shape : Shape) (rows : List (RowName × Contents)) (name : RowName)
    → pending_in rows name ≡ (row_of shape (cached rows) name).pending
pending-of shape rows name = by_row (row_in (cached rows) name)
  where
    by_row : (o : Option Contents) → option_map_or (λ (row : Contents). row.pending) o []
        ≡ (unwrap_or o (fresh (fresh_of shape name.part))).pending
    by_row None = refl
    by_row (Some row) = refl

-- what is newly pending is what the entry made
pub newly-made : (case : CaseShape) (history : List Entry) (kept : Kept) (entry : Entry) (left : NamedRow) → IsKept case history kept
    → IsLeftOf case history entry (Some left) → let run = run_of case.topology history in
    newly_pending kept.rows.entries left ≡ deliveries_of case.topology run.made run.next entry
newly-made case history kept entry left keeps leaves =
    let run = run_of case.topology history in
    let before : pending_in kept.rows.entries left.name ≡ (row_of case.topology run left.name).pending
    = pending-of case.topology kept.rows.entries left.name ∙ ap (λ (c : Contents). c.pending) (row-kept case history kept left.name keeps) in
    (λ i. drop (length (before i)) (leaves.1 i).pending)
    ∙ sent-changed case.topology run.made run.next entry (row_of case.topology run left.name)

-- ---- what is kept

-- what waits stands in the order of its ids
unhandled-ascends : (case : CaseShape) (history : List Entry) (entry : Entry) → IsFollowed case history
    → MayFollow case (run_of case.topology history) entry → let run = run_of case.topology history in
    IsStrictlySortedBy delivery_cmp (still_unhandled entry run.unhandled ++ deliveries_of case.topology run.made run.next entry)
unhandled-ascends case history entry follows may =
    let ids = AreIds-followed case history (run_of case.topology history) entry (legal-ids case history follows.lawful.legal) may in
    subst (IsStrictlySortedBy delivery_cmp) (sym ids.waiting)
    (IsStrictlySortedBy-filter delivery_cmp (is_left (history ++ entry ∷ [])) _ ids.made.ascending)

-- the ids of what an entry makes are ids
sent-are_ids : (case : CaseShape) (history : List Entry) (entry : Entry) → IsFollowed case history
    → MayFollow case (run_of case.topology history) entry → length history < 2 ^ 32 → let run = run_of case.topology history in
    AllByRecursion (λ (d : Delivery). IsId d.id) (deliveries_of case.topology run.made run.next entry)
sent-are_ids case history entry follows may few = by_row (row_written entry) refl
  where
    shape : Shape
    shape = case.topology

    small : length (productions_of entry) ≤ 8
    small = (each-behind (λ (e : Entry). length (productions_of e) ≤ 8) history (entry ∷ [])
        (legal-on_parts case (history ++ entry ∷ []) (IsLegal-push case history entry follows.lawful.legal may)).productions).0

    by_row : (o : Option RowName) → row_written entry ≡ o → AllByRecursion (λ (d : Delivery). IsId d.id)
        (option_map_or (λ (row : RowName). deliveries_made shape row.part (productions_of entry)
        (late_cause (run_of shape history).made entry) (run_of shape history).next) o [])
    by_row None is = tt
    by_row (Some name) is =
        let next = next-length shape history in
        recursion_from_All (λ (d : Delivery). IsId d.id) _
        (sent-ids shape name.part (productions_of entry) (late_cause (run_of shape history).made entry) (run_of shape history).next
        (omega (arith, consumers_few (stream_of shape name.part) (injectors_of shape) shape.computations, follows.runnable.topology.few_readings))
        small (omega (arith, next, few)))

-- and so are those of what waits then
ids-changed : (entry : Entry) (unhandled sent : List Delivery) → AllByRecursion (λ (d : Delivery). IsId d.id) unhandled
    → AllByRecursion (λ (d : Delivery). IsId d.id) sent
    → AllByRecursion (λ (d : Delivery). IsId d.id) (still_unhandled entry unhandled ++ sent)
ids-changed entry unhandled sent old new = each-append (λ (d : Delivery). IsId d.id) (still_unhandled entry unhandled) sent (still entry) new
  where
    still : (e : Entry) → AllByRecursion (λ (d : Delivery). IsId d.id) (still_unhandled e unhandled)
    still (Handle seq row id effects) = each-filter (λ (d : Delivery). IsId d.id) _ unhandled old
    still _ = old

-- how much work is left once the row that an entry left is put
left-counted : (case : CaseShape) (history : List Entry) (entry : Entry) (left : NamedRow) (old : Kept) → IsKept case history old
    → IsLeftOf case history entry (Some left) → let run = run_of case.topology history in
    (old.work + work_in case left.name left.row) - work_in case left.name (row_of case.topology (cached old.rows.entries) left.name)
    ≡ unfinished case (followed case.topology run entry)
left-counted case history entry left old keeps leaves =
    let shape = case.topology in
    let run = run_of shape history in
    let step = unfinished-followed case run entry left.name (rows-in_order shape history) leaves.0 in
    let before : work_in case left.name (row_of shape (cached old.rows.entries) left.name) ≡ work_in case left.name (row_of shape run left.name)
    = ap (work_in case left.name) (row-kept case history old left.name keeps) in
    let after : work_in case left.name left.row ≡ work_in case left.name (row_of shape (followed shape run entry) left.name)
    = ap (work_in case left.name) (leaves.1 ∙ sym (row_of-here shape run entry left.name leaves.0)) in
    let count = keeps.left in
    omega (arith, step, before, after, count)

-- the work of each part once the row that an entry left is put
works-put : (case : CaseShape) (history : List Entry) (entry : Entry) (left : NamedRow) (old : Kept) (new : List (List ℕ))
    → IsFollowed case history → IsKept case history old → IsLeftOf case history entry (Some left)
    → HasWorked case.topology entry old.waiting.entries old.rows.entries left (newly_pending old.rows.entries left) old.works.items new
    → let after = followed case.topology (run_of case.topology history) entry in AreWorks case.topology after.unhandled after.rows new
works-put case history entry left old new follows keeps leaves worked =
    let shape = case.topology in
    let run = run_of shape history in
    let sent = deliveries_of shape run.made run.next entry in
    let ids = legal-ids case history follows.lawful.legal in
    let sorted : IsStrictlySortedBy delivery_cmp run.unhandled = subst (IsStrictlySortedBy delivery_cmp) (sym ids.waiting)
    (IsStrictlySortedBy-filter delivery_cmp (is_left history) _ ids.made.ascending) in
    let ordered : IsStrictlySortedBy row_cmp (keys_of old.rows.entries) =
    subst (λ (l : List (RowName × Contents)). IsStrictlySortedBy row_cmp (keys_of l)) (sym keeps.rows) (rows-in_order shape history).sorted in
    let works : AreWorks shape run.unhandled old.rows.entries old.works.items =
    subst (λ (l : List (RowName × Contents)). AreWorks shape run.unhandled l old.works.items) (sym keeps.rows) keeps.works in
    let rows : insert_entry row_cmp old.rows.entries left.name left.row ≡ (followed shape run entry).rows =
    (λ i. insert_entry row_cmp (keeps.rows i) left.name (leaves.1 i))
    ∙ sym (ap (λ (o : Option RowName). option_map_or
    (λ (n : RowName). insert_entry row_cmp run.rows n (row_after shape run entry sent n)) o run.rows) leaves.0) in
    subst (λ (l : List (RowName × Contents)). AreWorks shape (still_unhandled entry run.unhandled ++ sent) l new) rows
    (works-next shape entry old.waiting.entries run.unhandled sent old.rows.entries left old.works.items new sorted ordered keeps.waiting works
    (subst (λ (l : List Delivery). HasWorked shape entry old.waiting.entries old.rows.entries left l old.works.items new)
    (newly-made case history old entry left keeps leaves) worked))

-- what is kept once the row that an entry left is put
pub kept-put : (case : CaseShape) (history : List Entry) (entry : Entry) (left : NamedRow) (old new : Kept) → IsFollowed case history
    → MayFollow case (run_of case.topology history) entry → length history < 2 ^ 32
    → IsKept case history old → IsLeftOf case history entry (Some left)
    → new.rows.entries ≡ insert_entry row_cmp old.rows.entries left.name left.row
    → HasChanged entry (newly_pending old.rows.entries left) old.waiting.entries new.waiting.entries
    → IsAfterEntry (length history) entry left.name (length (newly_pending old.rows.entries left)) old.pending.entries new.pending.entries
    → HasWorkLeft case old.rows.entries left old.work new.work
    → HasWorked case.topology entry old.waiting.entries old.rows.entries left (newly_pending old.rows.entries left) old.works.items new.works.items
    → new.claims ≡ old.claims → IsKept case (history ++ entry ∷ []) new
kept-put case history entry left old new follows may few keeps leaves rows changes sends counts worked claims =
    let shape = case.topology in
    let run = run_of shape history in
    let sent = deliveries_of shape run.made run.next entry in
    let pushed = run_of-push shape history entry in record {
      rows = rows
          ∙ (λ i. insert_entry row_cmp (keeps.rows i) left.name (leaves.1 i))
          ∙ sym (ap (λ (o : Option RowName). option_map_or
          (λ (n : RowName). insert_entry row_cmp run.rows n (row_after shape run entry sent n)) o run.rows) leaves.0)
          ∙ sym (ap (λ (r : Run). r.rows) pushed);
      waiting = subst (λ (r : Run). AreWaiting r.unhandled new.waiting.entries) (sym pushed)
          (waiting-changed entry run.unhandled sent (newly_pending old.rows.entries left) old.waiting.entries new.waiting.entries keeps.waiting
          changes (newly-made case history old entry left keeps leaves) (unhandled-ascends case history entry follows may));
      ids = subst (λ (r : Run). AllByRecursion (λ (d : Delivery). IsId d.id) r.unhandled) (sym pushed)
          (ids-changed entry run.unhandled sent keeps.ids (sent-are_ids case history entry follows may few));
      claims = λ interval. ap (λ m. get nat_cmp m interval) claims
          ∙ KnowsClaims-row (get nat_cmp old.claims) history (history ++ entry ∷ []) entry left.name keeps.claims leaves.0 refl interval;
      senders = senders-next shape history entry left.name (length (newly_pending old.rows.entries left)) old.pending.entries new.pending.entries
          leaves.0
          (ap length (newly-made case history old entry left keeps leaves)
          ∙ ap (λ n. length (deliveries_of shape run.made n entry)) (next-length shape history))
          keeps.senders sends;
      works = subst (λ (r : Run). AreWorks shape r.unhandled r.rows new.works.items) (sym pushed)
          (works-put case history entry left old new.works.items follows keeps leaves worked);
      left = counts ∙ left-counted case history entry left old keeps leaves ∙ sym (ap (unfinished case) pushed);
    }

-- the same, where the work of the parts was noted first
pub kept-worked : (case : CaseShape) (history : List Entry) (entry : Entry) (left : NamedRow) (old mid new : Kept)
    → IsFollowed case history → MayFollow case (run_of case.topology history) entry → length history < 2 ^ 32
    → IsKept case history old → IsLeftOf case history entry (Some left)
    → HasWorked case.topology entry old.waiting.entries old.rows.entries left (newly_pending old.rows.entries left) old.works.items
    mid.works.items
    → mid ≡ record old { works = mid.works } → new.works ≡ mid.works → new.claims ≡ mid.claims
    → new.rows.entries ≡ insert_entry row_cmp mid.rows.entries left.name left.row
    → HasChanged entry (newly_pending mid.rows.entries left) mid.waiting.entries new.waiting.entries
    → IsAfterEntry (length history) entry left.name (length (newly_pending mid.rows.entries left)) mid.pending.entries new.pending.entries
    → HasWorkLeft case mid.rows.entries left mid.work new.work → IsKept case (history ++ entry ∷ []) new
kept-worked case history entry left old mid new follows may few keeps leaves worked same works claims rows waiting pending work =
    kept-put case history entry left old new follows may few keeps leaves
    (subst (λ (k : Kept). new.rows.entries ≡ insert_entry row_cmp k.rows.entries left.name left.row) same rows)
    (subst (λ (k : Kept). HasChanged entry (newly_pending k.rows.entries left) k.waiting.entries new.waiting.entries) same waiting)
    (subst (λ (k : Kept). IsAfterEntry (length history) entry left.name (length (newly_pending k.rows.entries left)) k.pending.entries
    new.pending.entries) same pending)
    (subst (λ (k : Kept). HasWorkLeft case k.rows.entries left k.work new.work) same work)
    (subst (λ w. HasWorked case.topology entry old.waiting.entries old.rows.entries left (newly_pending old.rows.entries left)
    old.works.items w.items) (sym works) worked)
    (claims ∙ ap (λ (k : Kept). k.claims) same)

-- the rows and what waits stay where an entry is on no row
run-claimed : (shape : Shape) (run : Run) (entry : Entry) → row_written entry ≡ None
    → ((followed shape run entry).rows ≡ run.rows) × ((followed shape run entry).unhandled ≡ run.unhandled)
run-claimed shape run (Claim worker interval) none = (refl, append-nil run.unhandled)
run-claimed shape run _ none = absurd cc

-- what is kept once a claim has come
pub kept-claimed : (case : CaseShape) (history : List Entry) (entry : Entry) (old new : Kept) → IsKept case history old
    → row_written entry ≡ None → new.rows ≡ old.rows → new.waiting ≡ old.waiting → new.pending ≡ old.pending → new.works ≡ old.works
    → new.work ≡ old.work
    → HasClaimed entry (length history) (get nat_cmp old.claims) (get nat_cmp new.claims)
    → IsKept case (history ++ entry ∷ []) new
kept-claimed case history entry old new keeps none rows waiting pending works work claims =
    let shape = case.topology in
    let run = run_of shape history in
    let pushed = run_of-push shape history entry in
    let same = run-claimed shape run entry none in record {
      rows = ap (λ m. m.entries) rows ∙ keeps.rows ∙ sym same.0 ∙ sym (ap (λ (r : Run). r.rows) pushed);
      waiting = subst (λ (r : Run). AreWaiting r.unhandled new.waiting.entries) (sym pushed)
          (subst (λ (l : List Delivery). AreWaiting l new.waiting.entries) (sym same.1)
          (subst (λ m. AreWaiting run.unhandled m.entries) (sym waiting) keeps.waiting));
      ids = subst (λ (r : Run). AllByRecursion (λ (d : Delivery). IsId d.id) r.unhandled) (sym pushed)
          (subst (AllByRecursion (λ (d : Delivery). IsId d.id)) (sym same.1) keeps.ids);
      claims = λ interval. claims interval
          ∙ ap (cond (is_claim interval entry) (Some (length history))) (keeps.claims interval)
          ∙ sym (last_claim-push interval history entry);
      senders = subst (λ (r : Run). AreSenders shape r new.pending.entries) (sym pushed)
          (AreSenders-kept shape run entry new.pending.entries none
          (subst (λ m. AreSenders shape run m.entries) (sym pending) keeps.senders));
      works = subst (λ (r : Run). AreWorks shape r.unhandled r.rows new.works.items) (sym pushed)
          (subst (λ (l : List Delivery). AreWorks shape l (followed shape run entry).rows new.works.items) (sym same.1)
          (subst (λ (l : List (RowName × Contents)). AreWorks shape run.unhandled l new.works.items) (sym same.0)
          (subst (λ m. AreWorks shape run.unhandled run.rows m.items) (sym works) keeps.works)));
      left = work ∙ keeps.left ∙ sym (unfinished-kept case run entry none) ∙ sym (ap (unfinished case) pushed);
    }

-- what four facts of an answer lead to
pub on_ok-four : {T E P Q R S U : Type 0} (result : Result T E) → (P → Q → R → S → U)
    → OnOk result P → OnOk result Q → OnOk result R → OnOk result S → OnOk result U
on_ok-four (Ok answer) lead one two three four = lead one two three four
on_ok-four (Err why) lead one two three four = tt

-- the history in which nothing has happened is followed
pub followed-empty : (case : CaseShape) (history : List Entry) → history ≡ [] → IsRunnable case → IsFollowed case history
followed-empty case history none runs = subst (IsFollowed case) (sym none) (record {
  runnable = runs;
  lawful = record { legal = tt; fenced = IsFenced-empty case.topology };
  few = omega arith;
})
