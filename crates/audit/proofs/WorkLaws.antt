-- The oldest work of each part stays what stands after the history, as entries come.
use Rattle.std.proofs.Common.{◌≡◌, ◌∙◌, ◌<◌, ◌+◌, ◌-◌, ◌&&◌, ℕ, zero, suc, Bool, true, false, cond, List, [], ◌∷◌, ◌++◌, length, map, get_or, min, refl, sym, ap, arith, sum_by}
use Rattle.std.specs.Prelude.{None, Option, Some, filter, not, slice_set, unwrap_or, ◌==◌}
use Rattle.std.specs.Option.{option_map_or}
use Rattle.std.specs.List.{AllByRecursion, flat_map}
use Rattle.std.specs.List.Sorted.{IsPermutation, IsStrictlySortedBy}
use Rattle.std.specs.Map.{keys_of, lookup}
use Rattle.std.specs.BTreeMap.{insert_entry, is_at}
use Rattle.std.specs.Ordering.{is_eq, match_ordering}
use Rattle.std.specs.declared.cmp.Ordering.TheVariants.{Less, Equal, Greater}
use Rattle.std.proofs.lemmas.Bool.{both_ways, eq-eqb, eqb-true}
use Rattle.std.proofs.lemmas.List.{get_or-set_same, get_or-set_other}
use Rattle.std.proofs.lemmas.List.Sorted.{sum_by-IsPermutation}
use Rattle.std.proofs.lemmas.List.Sums.{sum_by-append, sum_by-cons}
use Rattle.std.proofs.lemmas.Map.{lookup-none}
use Rattle.std.proofs.lemmas.Map.Entries.{none_below_head}
use Rattle.std.proofs.lemmas.Map.Keys.{sorted_tail}
use Rattle.list_lemmas.proofs.Lists.{each-weaker, filter-all, find-none_each, none_some, some_same}
use Rattle.mw_types.specs.declared.TheConstants.{END}
use Rattle.mw_types.specs.Orders.{row_cmp}
use Rattle.mw_types.proofs.OrderLaws.{row_cmp-total}
use Rattle.mw_types.specs.declared.identity.RecordId.{RecordId}
use Rattle.mw_types.specs.declared.identity.RowName.{RowName}
use Rattle.mw_types.specs.declared.delivery.Delivery.{Delivery}
use Rattle.row_parts.specs.Contents.{Contents, delivery_cmp, found_delivery, fresh, same_id, without_delivery}
use Rattle.mw_types.specs.declared.entry.Entry.{Entry}
use Rattle.mw_types.specs.declared.entry.Entry.TheVariants.{Handle}
use Rattle.topology.specs.Shapes.{Shape, parts_of}
use Rattle.book.specs.declared.answers.NamedRow.{NamedRow}
use Rattle.run_history.specs.Cases.{fresh_of}
use Rattle.run_history.specs.Runs.{Run, cached, row_in, still_unhandled}
use Rattle.run_history.specs.Watermarks.{least, oldest_work, times_set, waiting_stamps, timer_times}
use Rattle.history_laws.proofs.IdLaws.{passes_once}
use Rattle.history_laws.proofs.LowLaws.{least-end}
use Rattle.history_laws.proofs.RowSteps.{same_row}
use Rattle.holdings.proofs.WorkLaws.{least-append, least-flat_map}
use Rattle.holdings.proofs.StampLaws.{least-sums}
use Rattle.audit.specs.Works.{AreWorks, HasStampLess, HasStampMore, HasWorked, sum_at, taken_by, time_of, wait_of}
use Rattle.audit.specs.Waits.{AreWaiting, waiting_in}

-- ---- what is added up of rows and of what waits

-- a sum over rows once one is put, by its name
pub sum-put : (f : RowName × Contents → ℕ) (rows : List (RowName × Contents)) (name : RowName) (row : Contents)
    → IsStrictlySortedBy row_cmp (keys_of rows)
    → sum_by f (insert_entry row_cmp rows name row) + option_map_or (λ (c : Contents). f (name, c)) (row_in (cached rows) name) 0
    ≡ sum_by f rows + f (name, row)
sum-put f [] name row sorted = omega (arith, sum_by-cons f (name, row) [])
sum-put f (e ∷ es) name row sorted =
    let again = sum-put f es name row (sorted_tail row_cmp e.0 (keys_of es) sorted) in
    let first = sum_by-cons f e es in
    elim (row_cmp name e.0) as (λ r. row_cmp name e.0 ≡ r → sum_by f (match_ordering r ((name, row) ∷ e ∷ es) ((e.0, row) ∷ es)
    (e ∷ insert_entry row_cmp es name row))
    + option_map_or (λ (c : Contents). f (name, c)) (cond (is_eq r) (Some e.1) (lookup (is_at (row_cmp name)) es)) 0
    ≡ sum_by f (e ∷ es) + f (name, row)) [
      | Less ↦ λ below.
          let none : option_map_or (λ (c : Contents). f (name, c)) (lookup (is_at (row_cmp name)) es) 0 ≡ 0 =
          ap (λ (o : Option Contents). option_map_or (λ (c : Contents). f (name, c)) o 0)
          (lookup-none (is_at (row_cmp name)) es (none_below_head row_cmp-total name e es sorted below).1) in
          let whole = sum_by-cons f (name, row) (e ∷ es) in omega (arith, none, whole)
      | Equal ↦ λ tie.
          let same : name ≡ e.0 = same_row name e.0 (ap is_eq tie) in
          let new : f (e.0, row) ≡ f (name, row) = ap (λ (n : RowName). f (n, row)) (sym same) in
          let old : f (name, e.1) ≡ f e = ap (λ (n : RowName). f (n, e.1)) same in
          let whole = sum_by-cons f (e.0, row) es in omega (arith, new, old, whole, first)
      | Greater ↦ λ above.
          let whole = sum_by-cons f e (insert_entry row_cmp es name row) in omega (arith, again, whole, first)
    ] refl

-- a sum over what waits, without one that is found
pub sum-taken : (f : Delivery → ℕ) (id : RecordId) (ds : List Delivery) (d : Delivery) → IsStrictlySortedBy delivery_cmp ds
    → found_delivery id ds ≡ Some d → sum_by f ds ≡ sum_by f (without_delivery id ds) + f d
unfolding IsStrictlySortedBy
sum-taken f id [] d sorted found = absurd (none_some d found)
sum-taken f id (x ∷ xs) d sorted found =
    by_test (same_id x.id id) refl (λ f'. sum-taken f id xs d sorted.1 f')
  where
    others : same_id x.id id ≡ true → (ys : List Delivery) → AllByRecursion (λ (y : Delivery). delivery_cmp x y ≡ Less) ys
        → AllByRecursion (λ (y : Delivery). not (same_id y.id id) ≡ true) ys
    others same [] below = tt
    others same (y ∷ ys) below = (ap not (passes_once id x y below.0 same), others same ys below.1)

    by_test : (b : Bool) → same_id x.id id ≡ b
        → (found_delivery id xs ≡ Some d → sum_by f xs ≡ sum_by f (without_delivery id xs) + f d)
        → sum_by f (x ∷ xs) ≡ sum_by f (cond (not b) (x ∷ without_delivery id xs) (without_delivery id xs)) + f d
    by_test true same again =
        let is : x ≡ d = some_same x d (sym (ap (λ t. cond t (Some x) (found_delivery id xs)) same) ∙ found) in
        let one : f x ≡ f d = ap f is in
        let rest : sum_by f (without_delivery id xs) ≡ sum_by f xs =
        ap (sum_by f) (filter-all (λ (e : Delivery). not (same_id e.id id)) xs (others same xs sorted.0)) in
        let whole = sum_by-cons f x xs in omega (arith, one, rest, whole)
    by_test false other again =
        let later = again (sym (ap (λ t. cond t (Some x) (found_delivery id xs)) other) ∙ found) in
        let one = sum_by-cons f x xs in
        let two = sum_by-cons f x (without_delivery id xs) in omega (arith, later, one, two)

-- ---- the oldest work

-- a sum over a list that was mapped
sum-map : {X : Type 0} (f : X → ℕ) (weigh : ℕ → ℕ) (xs : List X) → sum_by weigh (map f xs) ≡ sum_by (λ x. weigh (f x)) xs
sum-map f weigh [] = refl
sum-map f weigh (x ∷ xs) =
    sum_by-cons weigh (f x) (map f xs) ∙ ap (λ n. weigh (f x) + n) (sum-map f weigh xs) ∙ sym (sum_by-cons (λ y. weigh (f y)) x xs)

-- the least of what waits for a part
least-waiting : (part : ℕ) (ds : List Delivery) → least (map (wait_of part) ds) ≡ least (map (λ (d : Delivery). d.item.stamp)
    (filter (λ (d : Delivery). (d.to.part == part) && not d.item.late) ds))
least-waiting part [] = refl
least-waiting part (d ∷ ds) = by_tests (d.to.part == part) d.item.late (least-waiting part ds)
  where
    rest : List Delivery
    rest = filter (λ (e : Delivery). (e.to.part == part) && not e.item.late) ds

    by_tests : (here late : Bool) → least (map (wait_of part) ds) ≡ least (map (λ (e : Delivery). e.item.stamp) rest)
        → min (cond here (cond late END d.item.stamp) END) (least (map (wait_of part) ds))
        ≡ least (map (λ (e : Delivery). e.item.stamp) (cond (here && not late) (d ∷ rest) rest))
    by_tests true true again = let end = least-end (map (wait_of part) ds) in omega (arith, again, end)
    by_tests true false again = ap (min d.item.stamp) again
    by_tests false late again = let end = least-end (map (wait_of part) ds) in omega (arith, again, end)

-- the least of the timers of a part
least-timers : (part : ℕ) (rows : List (RowName × Contents)) → least (map (time_of part) rows)
    ≡ least (flat_map (λ (r : RowName × Contents). cond (r.0.part == part) (times_set r.1) []) rows)
least-timers part rows = each rows ∙ sym (least-flat_map (λ (r : RowName × Contents). cond (r.0.part == part) (times_set r.1) []) rows)
  where
    one : (b : Bool) (ts : List ℕ) → cond b (least ts) END ≡ least (cond b ts [])
    one true ts = refl
    one false ts = refl

    each : (rs : List (RowName × Contents)) → least (map (time_of part) rs)
        ≡ least (map (λ (r : RowName × Contents). least (cond (r.0.part == part) (times_set r.1) [])) rs)
    each [] = refl
    each (r ∷ rs) = λ i. min (one (r.0.part == part) (times_set r.1) i) (each rs i)

-- the least of the stamps of a part is its oldest work
pub work-oldest : (shape : Shape) (run : Run) (works : List (List ℕ)) (part : ℕ) → AreWorks shape run.unhandled run.rows works
    → part < parts_of shape → least (get_or works part []) ≡ oldest_work run part
work-oldest shape run works part are there =
    least-sums (get_or works part []) (map (wait_of part) run.unhandled ++ map (time_of part) run.rows)
    (λ weigh end. are.sums part weigh there end
    ∙ (λ i. sym (sum-map (wait_of part) weigh run.unhandled) i + sym (sum-map (time_of part) weigh run.rows) i)
    ∙ sym (sum_by-append weigh (map (wait_of part) run.unhandled) (map (time_of part) run.rows)))
    ∙ least-append (map (wait_of part) run.unhandled) (map (time_of part) run.rows)
    ∙ (λ i. min (least-waiting part run.unhandled i) (least-timers part run.rows i))
    ∙ sym (least-append (waiting_stamps run part) (timer_times run part))

-- ---- one more entry

-- a weight of what is the end where a test fails
pub weight-if : (weigh : ℕ → ℕ) → weigh END ≡ 0 → (b : Bool) (stamp : ℕ) → cond b (weigh stamp) 0 ≡ weigh (cond b stamp END)
weight-if weigh end true stamp = refl
weight-if weigh end false stamp = sym end

-- a weight of the row that was there before, if it was
pub weight-before : (shape : Shape) (weigh : ℕ → ℕ) → weigh END ≡ 0 → (part : ℕ) (name : RowName) (o : Option Contents)
    → cond (name.part == part) (weigh (least (times_set (unwrap_or o (fresh (fresh_of shape name.part)))))) 0
    ≡ option_map_or (λ (c : Contents). weigh (time_of part (name, c))) o 0
weight-before shape weigh end part name None = weight-if weigh end (name.part == part) END ∙ both (name.part == part) ∙ end
  where
    both : (b : Bool) → weigh (cond b END END) ≡ weigh END
    both true = refl
    both false = refl
weight-before shape weigh end part name (Some row) = weight-if weigh end (name.part == part) (least (times_set row))

-- what waits, with what an entry took
pub sum-still : (f : Delivery → ℕ) (entry : Entry) (waiting : List (RecordId × Delivery)) (unhandled : List Delivery)
    → IsStrictlySortedBy delivery_cmp unhandled → AreWaiting unhandled waiting
    → sum_by f unhandled ≡ sum_by f (still_unhandled entry unhandled) + option_map_or f (taken_by entry waiting) 0
sum-still f (Handle seq row id effects) waiting unhandled sorted are = by_found (found_delivery id unhandled) refl
  where
    none-taken : found_delivery id unhandled ≡ None → sum_by f unhandled ≡ sum_by f (without_delivery id unhandled)
    none-taken none = ap (sum_by f) (sym (filter-all (λ (e : Delivery). not (same_id e.id id)) unhandled
        (each-weaker (λ (e : Delivery). same_id e.id id ≡ false) (λ (e : Delivery). not (same_id e.id id) ≡ true)
        (λ e apart. ap not apart) unhandled (find-none_each (λ (e : Delivery). same_id e.id id) unhandled none))))

    by_found : (o : Option Delivery) → found_delivery id unhandled ≡ o
        → sum_by f unhandled ≡ sum_by f (without_delivery id unhandled) + option_map_or f (waiting_in waiting id) 0
    by_found None is =
        let taken : option_map_or f (waiting_in waiting id) 0 ≡ 0 = ap (λ o. option_map_or f o 0) (are id ∙ is) in
        let same = none-taken is in omega (arith, taken, same)
    by_found (Some d) is =
        let taken : option_map_or f (waiting_in waiting id) 0 ≡ f d = ap (λ o. option_map_or f o 0) (are id ∙ is) in
        let same = sum-taken f id unhandled d sorted is in omega (arith, taken, same)
sum-still f _ waiting unhandled sorted are = omega arith

-- the work of each part once an entry has come
pub works-next : (shape : Shape) (entry : Entry) (waiting : List (RecordId × Delivery)) (unhandled sent : List Delivery)
    (rows : List (RowName × Contents)) (left : NamedRow) (old new : List (List ℕ))
    → IsStrictlySortedBy delivery_cmp unhandled → IsStrictlySortedBy row_cmp (keys_of rows) → AreWaiting unhandled waiting
    → AreWorks shape unhandled rows old → HasWorked shape entry waiting rows left sent old new
    → AreWorks shape (still_unhandled entry unhandled ++ sent) (insert_entry row_cmp rows left.name left.row) new
works-next shape entry waiting unhandled sent rows left old new sorted ordered are works worked = record {
  many = worked.many ∙ works.many;
  sums = λ part weigh there end.
      let f : Delivery → ℕ = λ d. weigh (wait_of part d) in
      let g : RowName × Contents → ℕ = λ r. weigh (time_of part r) in
      let all = works.sums part weigh there end in
      let taken = worked.taken part weigh end in
      let changed = worked.changed part weigh end in
      let more = worked.sends part weigh end in
      let still = sum-still f entry waiting unhandled sorted are in
      let put = sum-put g rows left.name left.row ordered in
      let before = weight-before shape weigh end part left.name (row_in (cached rows) left.name) in
      let after = weight-if weigh end (left.name.part == part) (least (times_set left.row)) in
      let whole = sum_by-append f (still_unhandled entry unhandled) sent in
      omega (arith, all, taken, changed, more, still, put, before, after, whole);
}

-- ---- one stamp

-- what stands within a list, whatever stands for what is not there
pub any-default : {X : Type 0} (xs : List X) (i : ℕ) (d e : X) → i < length xs → get_or xs i d ≡ get_or xs i e
any-default [] i d e within = absurd (omega (arith, within))
any-default (x ∷ xs) zero d e within = refl
any-default (x ∷ xs) (suc i) d e within = any-default xs i d e (omega (arith, within))

-- a sum over the stamps of a part, once those of one are others
sum-set : (works : List (List ℕ)) (at : ℕ) (new : List ℕ) (part : ℕ) (weigh : ℕ → ℕ) → at < length works
    → sum_at weigh part (slice_set works at new) ≡ cond (at == part) (sum_by weigh new) (sum_at weigh part works)
sum-set works at new part weigh within = by_test (at == part) refl
  where
    by_test : (b : Bool) → (at == part) ≡ b
        → sum_at weigh part (slice_set works at new) ≡ cond b (sum_by weigh new) (sum_at weigh part works)
    by_test true is =
        ap (λ p. sum_at weigh p (slice_set works at new)) (sym (eqb-true at part is))
        ∙ ap (sum_by weigh) (get_or-set_same works at new [] within)
    by_test false is =
        ap (sum_by weigh) (get_or-set_other works at part new []
        (λ e. both_ways (at == part) is (eq-eqb at part (sym e))))

-- one stamp more
pub stamp-set_more : (works : List (List ℕ)) (at stamp : ℕ) (old new : List ℕ) → at < length works → old ≡ get_or works at old
    → IsPermutation (stamp ∷ old) new → HasStampMore at stamp works (slice_set works at new)
stamp-set_more works at stamp old new within was added part weigh end =
    sum-set works at new part weigh within ∙ by_test (at == part) refl
  where
    by_test : (b : Bool) → (at == part) ≡ b
        → cond b (sum_by weigh new) (sum_at weigh part works) ≡ sum_at weigh part works + cond b (weigh stamp) 0
    by_test true is =
        let of_old : sum_at weigh part works ≡ sum_by weigh old =
        ap (λ p. sum_at weigh p works) (sym (eqb-true at part is))
        ∙ ap (sum_by weigh) (any-default works at [] old within ∙ sym was) in
        let more = sum_by-IsPermutation weigh (stamp ∷ old) new added in
        let first = sum_by-cons weigh stamp old in omega (arith, of_old, more, first)
    by_test false is = omega arith

-- one stamp less
pub stamp-set_less : (works : List (List ℕ)) (at stamp : ℕ) (old new : List ℕ) → at < length works → old ≡ get_or works at old
    → IsPermutation old (stamp ∷ new) → HasStampLess at stamp works (slice_set works at new)
stamp-set_less works at stamp old new within was removed part weigh end =
    by_test (at == part) refl (sum-set works at new part weigh within)
  where
    by_test : (b : Bool) → (at == part) ≡ b
        → sum_at weigh part (slice_set works at new) ≡ cond b (sum_by weigh new) (sum_at weigh part works)
        → sum_at weigh part works ≡ sum_at weigh part (slice_set works at new) + cond b (weigh stamp) 0
    by_test true is set =
        let of_old : sum_at weigh part works ≡ sum_by weigh old =
        ap (λ p. sum_at weigh p works) (sym (eqb-true at part is))
        ∙ ap (sum_by weigh) (any-default works at [] old within ∙ sym was) in
        let less = sum_by-IsPermutation weigh old (stamp ∷ new) removed in
        let first = sum_by-cons weigh stamp new in omega (arith, set, of_old, less, first)
    by_test false is set = omega (arith, set)
