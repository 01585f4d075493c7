-- What an entry takes of the oldest work of a part is held, and the parts to which it sends are there.
use Rattle.std.proofs.Common.{◌≡◌, ◌≢◌, ◌∙◌, ◌<◌, ◌≤◌, ◌+◌, ◌&&◌, ℕ, zero, suc, Bool, true, false, cond, List, [], ◌∷◌, ◌++◌, length, get_or, refl, sym, ap, subst, arith, sum_by}
use Rattle.std.specs.Prelude.{All, Contains, IfSome, None, Option, Some, nat_le, nat_lt, ◌==◌}
use Rattle.std.specs.Option.{option_map_or}
use Rattle.std.specs.List.Sorted.{IsStrictlySortedBy}
use Rattle.std.specs.Map.{lookup}
use Rattle.std.specs.BTreeMap.{is_at}
use Rattle.std.specs.Ordering.{is_eq}
use Rattle.std.specs.declared.cmp.Ordering.TheVariants.{Less, Equal, Greater}
use Rattle.std.proofs.lemmas.Bool.{eq-eqb, eqb-true, ltb-true, ne_eqb}
use Rattle.std.proofs.lemmas.List.Elements.{All-drop, All-from_recursion, Contains-append_right}
use Rattle.std.proofs.lemmas.List.Kept.{IsStrictlySortedBy-filter}
use Rattle.std.proofs.lemmas.List.Sums.{sum_by-cons}
use Rattle.list_lemmas.proofs.Lists.{each-weaker}
use Rattle.list_lemmas.proofs.Places.{each-passes}
use Rattle.list_lemmas.proofs.Tests.{both_true}
use Rattle.mw_types.specs.declared.TheConstants.{END}
use Rattle.mw_types.specs.Orders.{row_cmp}
use Rattle.mw_types.specs.declared.identity.RecordId.{RecordId}
use Rattle.mw_types.specs.declared.identity.RowName.{RowName}
use Rattle.mw_types.specs.declared.delivery.Delivery.{Delivery}
use Rattle.mw_types.specs.declared.entry.Entry.{Entry}
use Rattle.mw_types.specs.declared.entry.Entry.TheVariants.{Handle}
use Rattle.topology.specs.Shapes.{Shape, injectors_of, parts_of}
use Rattle.row_parts.specs.Contents.{Contents, delivery_cmp, found_delivery}
use Rattle.run_history.specs.Cases.{CaseShape}
use Rattle.run_history.specs.Fits.{is_sent_before}
use Rattle.run_history.specs.Runs.{Run, cached, row_in, row_of, run_of}
use Rattle.run_history.specs.Watermarks.{least, times_set}
use Rattle.run_history.proofs.Fitting.{fits-parts}
use Rattle.run_history.proofs.RunLaws.{IsLegal-push, run_of-push}
use Rattle.history_laws.specs.Ids.{is_left}
use Rattle.history_laws.proofs.FitLaws.{legal-fits}
use Rattle.history_laws.proofs.IdLaws.{legal-ids}
use Rattle.history_laws.proofs.RowSteps.{row_of-here, same_row}
use Rattle.book.specs.declared.answers.NamedRow.{NamedRow}
use Rattle.audit.specs.declared.kept.Kept.{Kept}
use Rattle.audit.specs.Choices.{MayCome}
use Rattle.audit.specs.Keeping.{IsFollowed, IsKept, IsLeftOf, newly_pending, pending_in}
use Rattle.audit.specs.Waits.{AreWaiting, waiting_in}
use Rattle.audit.specs.Works.{AreWorks, HasTakenWork, mark_of, taken_by, time_of, wait_of}
use Rattle.audit.proofs.FoundLaws.{reader-there, waits-kept}
use Rattle.audit.proofs.KeepingLaws.{part-there}
use Rattle.audit.proofs.WorkLaws.{sum-still, sum-taken, weight-before}

-- ---- what is counted is held

-- one for the stamp, and nothing for another
abbrev counted : ℕ → ℕ → ℕ
counted stamp x = cond (x == stamp) 1 0

-- a stamp that is counted is held
contains-counted : (stamp : ℕ) (xs : List ℕ) → 1 ≤ sum_by (counted stamp) xs → Contains xs stamp
contains-counted stamp [] some = absurd (omega (arith, some))
contains-counted stamp (x ∷ xs) some = by_test (x == stamp) refl (contains-counted stamp xs)
  where
    by_test : (b : Bool) → (x == stamp) ≡ b → (1 ≤ sum_by (counted stamp) xs → Contains xs stamp) → Contains (x ∷ xs) stamp
    by_test true is again = (0, omega arith, eqb-true x stamp is)
    by_test false is again =
        let whole = sum_by-cons (counted stamp) x xs in
        let here : counted stamp x ≡ 0 = ap (λ b. cond b 1 0) is in
        Contains-append_right (x ∷ []) xs stamp (again (omega (arith, some, whole, here)))

-- another stamp than the end does not count the end
end-uncounted : (stamp : ℕ) → stamp ≢ END → counted stamp END ≡ 0
end-uncounted stamp apart = ap (λ b. cond b 1 0) (ne_eqb END stamp (λ e. apart (sym e)))

-- a stamp counts itself
own-counted : (stamp : ℕ) → counted stamp stamp ≡ 1
own-counted stamp = ap (λ b. cond b 1 0) (eq-eqb stamp stamp refl)

-- the stamp of what waits for a part is one of the part's
held-waiting : (shape : Shape) (unhandled : List Delivery) (rows : List (RowName × Contents)) (works : List (List ℕ)) (id : RecordId)
    (d : Delivery) → IsStrictlySortedBy delivery_cmp unhandled → AreWorks shape unhandled rows works
    → found_delivery id unhandled ≡ Some d → d.to.part < parts_of shape → mark_of d ≢ END
    → Contains (get_or works d.to.part []) (mark_of d)
held-waiting shape unhandled rows works id d sorted are found there apart =
    let part = d.to.part in
    let stamp = mark_of d in
    let all = are.sums part (counted stamp) there (end-uncounted stamp apart) in
    let taken = sum-taken (λ (e : Delivery). counted stamp (wait_of part e)) id unhandled d sorted found in
    let own : counted stamp (wait_of part d) ≡ 1 =
    ap (λ b. counted stamp (cond b stamp END)) (eq-eqb part part refl) ∙ own-counted stamp in
    contains-counted stamp (get_or works part []) (omega (arith, all, taken, own))

-- what is added up of a row that is there is at most the sum over all rows
sum-row : (f : RowName × Contents → ℕ) (name : RowName) (rows : List (RowName × Contents))
    → option_map_or (λ (c : Contents). f (name, c)) (row_in (cached rows) name) 0 ≤ sum_by f rows
sum-row f name [] = omega arith
sum-row f name (e ∷ es) =
    let again = sum-row f name es in
    let whole = sum_by-cons f e es in
    elim (row_cmp name e.0) as (λ r. row_cmp name e.0 ≡ r
    → option_map_or (λ (c : Contents). f (name, c)) (cond (is_eq r) (Some e.1) (lookup (is_at (row_cmp name)) es)) 0
    ≤ sum_by f (e ∷ es)) [
      | Less ↦ λ _. omega (arith, again, whole)
      | Equal ↦ λ tie.
          let same : f (name, e.1) ≡ f e = ap (λ (n : RowName). f (n, e.1)) (same_row name e.0 (ap is_eq tie)) in
          omega (arith, same, whole)
      | Greater ↦ λ _. omega (arith, again, whole)
    ] refl

-- the first time of a row is one of its part's stamps, also once an entry has taken what it handles
held-row : (shape : Shape) (entry : Entry) (waiting : List (RecordId × Delivery)) (unhandled : List Delivery)
    (rows : List (RowName × Contents)) (old without : List (List ℕ)) (name : RowName) → IsStrictlySortedBy delivery_cmp unhandled
    → AreWaiting unhandled waiting → AreWorks shape unhandled rows old → HasTakenWork (taken_by entry waiting) old without
    → name.part < parts_of shape → let stamp = least (times_set (row_of shape (cached rows) name)) in
    stamp ≢ END → Contains (get_or without name.part []) stamp
held-row shape entry waiting unhandled rows old without name sorted are works taken there apart =
    let part = name.part in
    let stamp = least (times_set (row_of shape (cached rows) name)) in
    let weigh = counted stamp in
    let end = end-uncounted stamp apart in
    let all = works.sums part weigh there end in
    let less = taken part weigh end in
    let still = sum-still (λ (d : Delivery). weigh (wait_of part d)) entry waiting unhandled sorted are in
    let row = sum-row (λ (r : RowName × Contents). weigh (time_of part r)) name rows in
    let before = weight-before shape weigh end part name (row_in (cached rows) name) in
    let own : cond (part == part) (weigh stamp) 0 ≡ 1 =
    ap (λ b. cond b (weigh stamp) 0) (eq-eqb part part refl) ∙ own-counted stamp in
    contains-counted stamp (get_or without part []) (omega (arith, all, less, still, row, before, own))

-- ---- of a history that is followed

-- what waits ascends
pub waits-ascend : (case : CaseShape) (history : List Entry) → IsFollowed case history
    → IsStrictlySortedBy delivery_cmp (run_of case.topology history).unhandled
waits-ascend case history follows =
    let ids = legal-ids case history follows.lawful.legal in
    subst (IsStrictlySortedBy delivery_cmp) (sym ids.waiting)
    (IsStrictlySortedBy-filter delivery_cmp (is_left history) _ ids.made.ascending)

-- the work of each part, over the rows that are kept
pub works-kept : (case : CaseShape) (history : List Entry) (kept : Kept) → IsKept case history kept
    → AreWorks case.topology (run_of case.topology history).unhandled kept.rows.entries kept.works.items
works-kept case history kept keeps =
    subst (λ (l : List (RowName × Contents)). AreWorks case.topology (run_of case.topology history).unhandled l kept.works.items)
    (sym keeps.rows) keeps.works

pub taken-held : (case : CaseShape) (history : List Entry) (kept : Kept) (entry : Entry) → IsFollowed case history
    → IsKept case history kept → IfSome (taken_by entry kept.waiting.entries)
    (λ d. mark_of d ≢ END → Contains (get_or kept.works.items d.to.part []) (mark_of d))
taken-held case history kept (Handle seq row id effects) follows keeps = by_found (waiting_in kept.waiting.entries id) refl
  where
    by_found : (o : Option Delivery) → waiting_in kept.waiting.entries id ≡ o
        → IfSome o (λ d. mark_of d ≢ END → Contains (get_or kept.works.items d.to.part []) (mark_of d))
    by_found None is = tt
    by_found (Some d) is =
        let waits = (waits-kept case history kept id d keeps is).0 in
        held-waiting case.topology (run_of case.topology history).unhandled kept.rows.entries kept.works.items id d
        (waits-ascend case history follows) (works-kept case history kept keeps) waits (reader-there case history id d follows waits).1
taken-held case history kept _ follows keeps = tt

-- so is the first time of the row that an entry leaves
pub timed-held : (case : CaseShape) (history : List Entry) (kept : Kept) (entry : Entry) (left : NamedRow) (without : List (List ℕ))
    → IsFollowed case history → IsKept case history kept → MayCome case history entry → IsLeftOf case history entry (Some left)
    → HasTakenWork (taken_by entry kept.waiting.entries) kept.works.items without
    → let stamp = least (times_set (row_of case.topology (cached kept.rows.entries) left.name)) in
    stamp ≢ END → Contains (get_or without left.name.part []) stamp
timed-held case history kept entry left without follows keeps may leaves taken =
    held-row case.topology entry kept.waiting.entries (run_of case.topology history).unhandled kept.rows.entries kept.works.items without
    left.name (waits-ascend case history follows) keeps.waiting (works-kept case history kept keeps) taken
    (part-there case history entry left.name follows may.may leaves.0)

-- the part of that row is there
pub left-there : (case : CaseShape) (history : List Entry) (kept : Kept) (entry : Entry) (left : NamedRow) → IsFollowed case history
    → IsKept case history kept → MayCome case history entry → IsLeftOf case history entry (Some left)
    → left.name.part < length kept.works.items
left-there case history kept entry left follows keeps may leaves =
    let there = part-there case history entry left.name follows may.may leaves.0 in
    let many = keeps.works.many in omega (arith, there, many)

-- and so are those to which it sends
goes-there : (shape : Shape) (n : ℕ) (d : Delivery) → is_sent_before shape n d ≡ true → d.to.part < parts_of shape
goes-there shape n d sent =
    ltb-true d.to.part (parts_of shape)
    (both_true (nat_lt d.id.commit n && nat_le (injectors_of shape) d.to.part) (nat_lt d.to.part (parts_of shape)) sent).1

pub sent-there : (case : CaseShape) (history : List Entry) (kept : Kept) (entry : Entry) (left : NamedRow) → IsFollowed case history
    → MayCome case history entry → IsLeftOf case history entry (Some left)
    → All (λ (d : Delivery). d.to.part < parts_of case.topology) (newly_pending kept.rows.entries left)
sent-there case history kept entry left follows may leaves =
    let shape = case.topology in
    let run = run_of shape history in
    let part = part-there case history entry left.name follows may.may leaves.0 in
    let longer = history ++ entry ∷ [] in
    let row : row_of shape (run_of shape longer) left.name ≡ left.row =
    ap (λ (r : Run). row_of shape r left.name) (run_of-push shape history entry)
    ∙ row_of-here shape run entry left.name leaves.0 ∙ sym leaves.1 in
    let fit = fits-parts case (length longer) left.name (row_of shape (run_of shape longer) left.name)
    (legal-fits case longer left.name (IsLegal-push case history entry follows.lawful.legal may.may) part) in
    let each = each-weaker (λ (d : Delivery). is_sent_before shape (length longer) d ≡ true) (λ (d : Delivery). d.to.part < parts_of shape)
    (goes-there shape (length longer)) (row_of shape (run_of shape longer) left.name).pending
    (each-passes (is_sent_before shape (length longer)) (row_of shape (run_of shape longer) left.name).pending fit.1) in
    All-drop (λ (d : Delivery). d.to.part < parts_of shape) (length (pending_in kept.rows.entries left.name)) left.row.pending
    (subst (λ (c : Contents). All (λ (d : Delivery). d.to.part < parts_of shape) c.pending) row
    (All-from_recursion (λ (d : Delivery). d.to.part < parts_of shape) (row_of shape (run_of shape longer) left.name).pending each))

-- ---- parts without work

-- one more part without work
pub none_more : (xs : List (List ℕ)) (x : List ℕ) → ((p : ℕ) → get_or xs p [] ≡ []) → x ≡ [] → (p : ℕ) → get_or (xs ++ x ∷ []) p [] ≡ []
none_more [] x none is zero = is
none_more [] x none is (suc p) = refl
none_more (y ∷ ys) x none is zero = none 0
none_more (y ∷ ys) x none is (suc p) = none_more ys x (λ q. none (suc q)) is p
