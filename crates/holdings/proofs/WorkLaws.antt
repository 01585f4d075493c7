-- The own work of an interval, by the rows that are cached.
use Rattle.std.proofs.Common.{◌≡◌, ◌<◌, ◌≤◌, ◌+◌, ℕ, Bool, true, false, cond, List, [], ◌∷◌, ◌++◌, length, map, drop, get_or, refl, sym, ◌∙◌, ap, subst, arith, drop-cons, add-one}
use Rattle.std.specs.Prelude.{filter, not, min, Some, None, IsSome}
use Rattle.std.specs.Option.{is_some}
use Rattle.std.specs.List.{AllByRecursion, flat_map}
use Rattle.std.specs.List.Sorted.{IsStrictlySortedBy}
use Rattle.std.specs.Map.{keys_of, lookup}
use Rattle.std.specs.BTreeMap.{is_at}
use Rattle.std.specs.Ordering.{is_eq}
use Rattle.std.specs.declared.cmp.Ordering.TheVariants.{Less}
use Rattle.std.proofs.lemmas.List.{drop_all}
use Rattle.mw_types.specs.declared.TheConstants.{END}
use Rattle.mw_types.specs.declared.identity.RowName.{RowName}
use Rattle.mw_types.specs.Orders.{row_cmp}
use Rattle.mw_types.proofs.OrderLaws.{row_cmp-total}
use Rattle.key_intervals.specs.declared.bounds.Bounds.{Bounds}
use Rattle.key_intervals.specs.Intervals.{covers, rows_covered}
use Rattle.injector.specs.Sources.{stated_at}
use Rattle.row_parts.specs.Contents.{Contents, cursor_in}
use Rattle.run_history.specs.Cases.{CaseShape, is_injector, source_of}
use Rattle.run_history.specs.Marks.{own_work}
use Rattle.run_history.specs.Runs.{Run, cached, row_in, row_of}
use Rattle.run_history.specs.Watermarks.{least}
use Rattle.list_lemmas.proofs.Lists.{each-weaker, filter-all}
use Rattle.run_history.proofs.Lookups.{each_found}
use Rattle.history_laws.proofs.LowLaws.{AreRowsInOrder, least-end}
use Rattle.history_laws.proofs.MarkLaws.{OfBounds, from-own, own-end, own-from}
use Rattle.history_laws.proofs.OwnLaws.{IsOwnFrom, IsRowFrom}
use Rattle.book.specs.Claims.{named}
use Rattle.book.specs.declared.answers.NamedRow.{NamedRow}

-- ---- the least of a list, gone through from the front

-- the least of two lists one behind the other
pub least-append : (xs ys : List ℕ) → least (xs ++ ys) ≡ min (least xs) (least ys)
least-append [] ys = let end = least-end ys in omega (arith, end)
least-append (x ∷ xs) ys = let again = least-append xs ys in omega (arith, again)

-- the lesser of a mark and of nothing that is left
pub least-past_all : {X : Type 0} (time : X → ℕ) (late : X → Bool) (xs : List X) (i old all : ℕ) → length xs ≤ i → old ≤ END
    → min old (least (map time (filter (λ y. not (late y)) (drop i xs)))) ≡ all → old ≡ all
least-past_all time late xs i old all past end is =
    let none : min old END ≡ all = ap (λ l. min old (least (map time (filter (λ y. not (late y)) l)))) (sym (drop_all i xs past)) ∙ is in
    omega (arith, none, end)

-- the lesser of a mark and what is left, once an element is past
pub least-past : {X : Type 0} (time : X → ℕ) (late : X → Bool) (xs : List X) (i : ℕ) (x d : X) (old new : ℕ) → i < length xs
    → x ≡ get_or xs i d → new ≡ cond (late x) old (min old (time x))
    → min new (least (map time (filter (λ y. not (late y)) (drop (i + 1) xs))))
    ≡ min old (least (map time (filter (λ y. not (late y)) (drop i xs))))
least-past time late xs i x d old new within at is =
    sym (ap (λ l. min old (least (map time (filter (λ y. not (late y)) l))))
    (drop-cons xs i d within ∙ (λ j. sym at j ∷ drop (sym (add-one i) j) xs)) ∙ by_late (late x) is)
  where
    rest : ℕ
    rest = least (map time (filter (λ y. not (late y)) (drop (i + 1) xs)))

    by_late : (b : Bool) → new ≡ cond b old (min old (time x))
        → min old (least (map time (cond (not b) (x ∷ filter (λ y. not (late y)) (drop (i + 1) xs)) (filter (λ y. not (late y)) (drop (i + 1) xs)))))
        ≡ min new rest
    by_late true e = ap (λ n. min n rest) (sym e)
    by_late false e = omega (arith, e)

-- ---- the least of all rows

-- the least of many lists is that of their leasts
pub least-flat_map : {X : Type 0} (f : X → List ℕ) (xs : List X) → least (flat_map f xs) ≡ least (map (λ x. least (f x)) xs)
least-flat_map f [] = refl
least-flat_map f (x ∷ xs) = least-append (f x) (flat_map f xs) ∙ ap (min (least (f x))) (least-flat_map f xs)

-- a name before all of a list is not found there
pub before-none : (name : RowName) (rows : List NamedRow) → AllByRecursion (λ (n : RowName). row_cmp name n ≡ Less) (map (λ (r : NamedRow). r.name) rows)
    → lookup (is_at (row_cmp name)) (map named rows) ≡ None
before-none name [] each = refl
before-none name (r ∷ rows) each =
    ap (λ o. cond (is_eq o) (Some r.row) (lookup (is_at (row_cmp name)) (map named rows))) each.0 ∙ before-none name rows each.1

-- ---- the rows of an interval

-- where each row that is found lies in an interval, the interval has all rows
pub covered-all : (b : Bounds) (rows : List (RowName × Contents)) → IsStrictlySortedBy row_cmp (keys_of rows)
    → ((name : RowName) → IsSome (row_in (cached rows) name) → covers b name ≡ true) → rows_covered b rows ≡ rows
covered-all b rows ordered each = filter-all (λ (r : RowName × Contents). covers b r.0) rows
    (each-weaker (λ (e : RowName × Contents). lookup (is_at (row_cmp e.0)) rows ≡ Some e.1) (λ (r : RowName × Contents). covers b r.0 ≡ true)
    (λ r found. each r.0 (ap is_some found)) rows (each_found row_cmp-total rows ordered))

-- ---- the own work by the history

-- work by the rows of one run is work by those of another, where an interval has the same rows in both
same-from : (case : CaseShape) (one other : Run) (x : ℕ) (b : Bounds)
    → ((name : RowName) → covers b name ≡ true → row_of case.topology one name ≡ row_of case.topology other name)
    → (is_injector case.topology b.part ≡ true → covers b (record { part = b.part; key = [] }) ≡ true)
    → IsOwnFrom case one x b.part (OfBounds b) → IsOwnFrom case other x b.part (OfBounds b)
same-from case one other x b same own_row from = record {
  rows = λ name has. subst (IsRowFrom x) (same name has) (from.rows name has);
  mark = λ is. subst (λ (r : Contents). x ≤ stated_at (source_of case b.part) (cursor_in r.state))
      (same (record { part = b.part; key = [] }) (own_row is)) (from.mark is);
}

-- the own work of an interval by the rows that are cached is that by the rows of the run
pub own_work-cached : (case : CaseShape) (rows : List (RowName × Contents)) (run : Run) (b : Bounds) → AreRowsInOrder (cached rows)
    → AreRowsInOrder run
    → ((name : RowName) → covers b name ≡ true → row_of case.topology (cached rows) name ≡ row_of case.topology run name)
    → (is_injector case.topology b.part ≡ true → covers b (record { part = b.part; key = [] }) ≡ true)
    → own_work case (cached rows) b ≡ own_work case run b
own_work-cached case rows run b order sorted same own_row =
    let one = own_work case (cached rows) b in
    let two = own_work case run b in
    let below = from-own case run one b sorted (own-end case (cached rows) b)
    (same-from case (cached rows) run one b same own_row (own-from case (cached rows) one b (omega arith))) in
    let above = from-own case (cached rows) two b order (own-end case run b)
    (same-from case run (cached rows) two b (λ name has. sym (same name has)) own_row (own-from case run two b (omega arith))) in
    omega (arith, below, above)
