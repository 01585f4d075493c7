-- What a keeper has to hold after one more entry, and what a count over all rows becomes.
use Rattle.std.proofs.Common.{◌≡◌, ◌+◌, Bool, true, false, cond, List, [], ◌∷◌, ◌++◌, length, map, refl, sym, ◌∙◌, ap, subst, arith, length-append}
use Rattle.std.specs.Prelude.{Option, Some, None, filter, unwrap_or}
use Rattle.std.specs.Option.{option_map, option_map_or}
use Rattle.std.specs.List.{AllByRecursion, flat_map}
use Rattle.std.specs.List.Sorted.{IsStrictlySortedBy}
use Rattle.std.specs.declared.cmp.Ordering.{Ordering}
use Rattle.std.specs.declared.cmp.Ordering.TheVariants.{Less, Equal, Greater}
use Rattle.std.specs.Ordering.{match_ordering, is_eq}
use Rattle.std.specs.Cmp.{IsTotalOrder}
use Rattle.std.specs.BTreeMap.{insert_entry, is_at}
use Rattle.std.specs.Map.{lookup, keys_of}
use Rattle.mw_types.specs.declared.identity.RowName.{RowName}
use Rattle.mw_types.specs.declared.entry.Entry.{Entry}
use Rattle.mw_types.specs.Orders.{row_cmp}
use Rattle.mw_types.proofs.OrderLaws.{row_cmp-total}
use Rattle.key_intervals.specs.declared.bounds.Bounds.{Bounds}
use Rattle.key_intervals.specs.Intervals.{covers, rows_covered}
use Rattle.topology.specs.Shapes.{Shape}
use Rattle.row_parts.specs.Contents.{Contents, fresh}
use Rattle.row_parts.specs.Spelling.{spelling_of}
use Rattle.row_keeper.specs.Rows.{AreInOrder, with_row}
use Rattle.run_history.specs.Cases.{fresh_of}
use Rattle.run_history.specs.Made.{row_written}
use Rattle.run_history.specs.Runs.{Run, row_in, row_of, followed}
use Rattle.run_history.specs.Stored.{stored_rows}
use Rattle.history_laws.proofs.LowLaws.{AreRowsInOrder}
use Rattle.history_laws.proofs.RowSteps.{made_row, row_of-here}

-- ---- what is stored

module _ {K X Y : Type 0} (R : K → K → Ordering) (f : X → Y) where
  -- the values of entries, changed, with one entry among them
  map-insert_entry : (es : List (K × X)) (k : K) (v : X)
      → map (λ (e : K × X). (e.0, f e.1)) (insert_entry R es k v) ≡ insert_entry R (map (λ (e : K × X). (e.0, f e.1)) es) k (f v)
  map-insert_entry [] k v = refl
  map-insert_entry (e ∷ es) k v =
      elim (R k e.0) as (λ r. map (λ (e : K × X). (e.0, f e.1))
      (match_ordering r ((k, v) ∷ e ∷ es) ((e.0, v) ∷ es) (e ∷ insert_entry R es k v))
      ≡ match_ordering r ((k, f v) ∷ (e.0, f e.1) ∷ map (λ (e : K × X). (e.0, f e.1)) es)
      ((e.0, f v) ∷ map (λ (e : K × X). (e.0, f e.1)) es)
      ((e.0, f e.1) ∷ insert_entry R (map (λ (e : K × X). (e.0, f e.1)) es) k (f v))) [
        | Less ↦ refl
        | Equal ↦ refl
        | Greater ↦ ap (λ l. (e.0, f e.1) ∷ l) (map-insert_entry es k v)
      ]

  -- a look-up among changed values finds the changed value
  lookup-map : (es : List (K × X)) (test : K → Bool) → lookup test (map (λ (e : K × X). (e.0, f e.1)) es) ≡ option_map f (lookup test es)
  lookup-map [] test = refl
  lookup-map (e ∷ es) test = elim (test e.0) as (λ b. cond b (Some (f e.1))
      (lookup test (map (λ (e : K × X). (e.0, f e.1)) es)) ≡ option_map f (cond b (Some e.1) (lookup test es))) [
        | true ↦ refl
        | false ↦ lookup-map es test
      ]

  -- the keys stay
  keys_of-map : (es : List (K × X)) → keys_of (map (λ (e : K × X). (e.0, f e.1)) es) ≡ keys_of es
  keys_of-map [] = refl
  keys_of-map (e ∷ es) = ap (λ l. e.0 ∷ l) (keys_of-map es)

  -- the entries that pass a test of their keys, changed
  filter-map : (es : List (K × X)) (test : K → Bool)
      → filter (λ (e : K × Y). test e.0) (map (λ (e : K × X). (e.0, f e.1)) es) ≡ map (λ (e : K × X). (e.0, f e.1))
      (filter (λ (e : K × X). test e.0) es)
  filter-map [] test = refl
  filter-map (e ∷ es) test = elim (test e.0) as (λ b. cond b
      ((e.0, f e.1) ∷ filter (λ (e : K × Y). test e.0) (map (λ (e : K × X). (e.0, f e.1)) es))
      (filter (λ (e : K × Y). test e.0) (map (λ (e : K × X). (e.0, f e.1)) es))
      ≡ map (λ (e : K × X). (e.0, f e.1)) (cond b (e ∷ filter (λ (e : K × X). test e.0) es) (filter (λ (e : K × X). test e.0) es))) [
        | true ↦ ap (λ l. (e.0, f e.1) ∷ l) (filter-map es test)
        | false ↦ filter-map es test
      ]

-- after an entry on a row the row is stored as it is then, and each other as it was
pub stored_rows-followed : (shape : Shape) (run : Run) (entry : Entry) (name : RowName) → row_written entry ≡ Some name
    → stored_rows (followed shape run entry) ≡ with_row name (spelling_of (row_of shape (followed shape run entry) name)) (stored_rows run)
stored_rows-followed shape run entry name written =
    ap (λ w. map (λ (r : RowName × Contents). (r.0, spelling_of r.1))
    (option_map_or (λ (n : RowName). insert_entry row_cmp run.rows n (made_row shape run entry n)) w run.rows)) written
    ∙ map-insert_entry row_cmp spelling_of run.rows name (made_row shape run entry name)
    ∙ ap (λ (c : Contents). insert_entry row_cmp (stored_rows run) name (spelling_of c)) (sym (row_of-here shape run entry name written))

-- after an entry on no row what is stored stays
pub stored_rows-kept : (shape : Shape) (run : Run) (entry : Entry) → row_written entry ≡ None
    → stored_rows (followed shape run entry) ≡ stored_rows run
stored_rows-kept shape run entry none =
    ap (λ w. map (λ (r : RowName × Contents). (r.0, spelling_of r.1))
    (option_map_or (λ (n : RowName). insert_entry row_cmp run.rows n (made_row shape run entry n)) w run.rows)) none

-- what is stored of a row is its spelling
pub stored_rows-at : (run : Run) (name : RowName) → lookup (is_at (row_cmp name)) (stored_rows run) ≡ option_map spelling_of
    (row_in run name)
stored_rows-at run name = lookup-map row_cmp spelling_of run.rows (is_at (row_cmp name))

-- what is stored stands in the order of the names
pub stored_rows-in_order : (run : Run) → AreRowsInOrder run → AreInOrder (stored_rows run)
stored_rows-in_order run order = subst (IsStrictlySortedBy row_cmp) (sym (keys_of-map row_cmp spelling_of run.rows)) order.sorted

-- what is stored of an interval is the spelling of each of its rows
pub rows_covered-stored : (run : Run) (bounds : Bounds)
    → rows_covered bounds (stored_rows run) ≡ map (λ (r : RowName × Contents). (r.0, spelling_of r.1))
    (filter (λ (r : RowName × Contents). covers bounds r.0) run.rows)
rows_covered-stored run bounds = filter-map row_cmp spelling_of run.rows (covers bounds)

-- ---- what is counted over all rows

-- nothing is found of a key that is before all others
lookup-before : {K X : Type 0} (R : K → K → Ordering) (k : K) (es : List (K × X)) → AllByRecursion (λ (q : K). R k q ≡ Less) (keys_of es)
    → lookup (is_at (R k)) es ≡ None
lookup-before R k [] before = refl
lookup-before R k (e ∷ es) before = ap (λ o. cond (is_eq o) (Some e.1) (lookup (is_at (R k)) es)) before.0 ∙ lookup-before R k es before.1

-- how much more is counted, once a value is put among others
count-insert_entry : {K X Y : Type 0} (R : K → K → Ordering) → IsTotalOrder R → (f : X → List Y) (es : List (K × X)) (k : K) (v : X)
    → IsStrictlySortedBy R (keys_of es)
    → length (flat_map (λ (e : K × X). f e.1) (insert_entry R es k v)) + length (option_map_or f (lookup (is_at (R k)) es) [])
    ≡ length (flat_map (λ (e : K × X). f e.1) es) + length (f v)
unfolding IsStrictlySortedBy
count-insert_entry R o f [] k v sorted = omega (arith, length-append (f v) [])
count-insert_entry {K} {X} {Y} R o f (e ∷ es) k v sorted =
    elim (R k e.0) as (λ r. R k e.0 ≡ r → length (flat_map (λ (e : K × X). f e.1)
    (match_ordering r ((k, v) ∷ e ∷ es) ((e.0, v) ∷ es) (e ∷ insert_entry R es k v)))
    + length (option_map_or f (cond (is_eq r) (Some e.1) (lookup (is_at (R k)) es)) []) ≡ length
    (flat_map (λ (e : K × X). f e.1) (e ∷ es)) + length (f v)) [
      | Less ↦ λ p.
          let none : lookup (is_at (R k)) es ≡ None = lookup-before R k es (later p (keys_of es) sorted.0) in
          ap (λ q. length (f v ++ (f e.1 ++ flat_map (λ (e : K × X). f e.1) es)) + length (option_map_or f q [])) none
          ∙ omega (arith, length-append (f v) (f e.1 ++ flat_map (λ (e : K × X). f e.1) es))
      | Equal ↦ λ p. omega (
        arith,
        length-append (f v) (flat_map (λ (e : K × X). f e.1) es),
        length-append (f e.1)
            (flat_map (λ (e : K × X). f e.1) es),
      )
      | Greater ↦ λ p. omega (
        arith,
        count-insert_entry R o f es k v sorted.1,
        length-append (f e.1)
            (flat_map (λ (e : K × X). f e.1) (insert_entry R es k v)),
        length-append (f e.1) (flat_map (λ (e : K × X). f e.1) es),
      )
    ] refl
  where
    later : R k e.0 ≡ Less → (ks : List K) → AllByRecursion (λ (q : K). R e.0 q ≡ Less) ks → AllByRecursion (λ (q : K). R k q ≡ Less) ks
    later p [] above = tt
    later p (q ∷ qs) above = (o.trans k e.0 q p above.0, later p qs above.1)

-- how much more is counted over all rows after an entry on a row: as much more as in the row
pub count-followed : {Y : Type 0} (shape : Shape) (run : Run) (entry : Entry) (name : RowName) (f : Contents → List Y)
    → AreRowsInOrder run → row_written entry ≡ Some name
    → f (fresh (fresh_of shape name.part)) ≡ []
    → length (flat_map (λ (r : RowName × Contents). f r.1) (followed shape run entry).rows) + length (f (row_of shape run name))
    ≡ length (flat_map (λ (r : RowName × Contents). f r.1) run.rows) + length (f (row_of shape (followed shape run entry) name))
count-followed {Y} shape run entry name f order written none =
    ap (λ w. length (flat_map (λ (r : RowName × Contents). f r.1)
    (option_map_or (λ (n : RowName). insert_entry row_cmp run.rows n (made_row shape run entry n)) w run.rows)) + length
    (f (row_of shape run name))) written
    ∙ ap (λ n. length (flat_map (λ (r : RowName × Contents). f r.1)
    (insert_entry row_cmp run.rows name (made_row shape run entry name))) + n) (sym (old (row_in run name)))
    ∙ count-insert_entry row_cmp row_cmp-total f run.rows name (made_row shape run entry name) order.sorted
    ∙ ap (λ (c : Contents). length (flat_map (λ (r : RowName × Contents). f r.1) run.rows) + length (f c))
    (sym (row_of-here shape run entry name written))
  where
    old : (o : Option Contents) → length (option_map_or f o []) ≡ length (f (unwrap_or o (fresh (fresh_of shape name.part))))
    old None = sym (ap length none)
    old (Some c) = refl
