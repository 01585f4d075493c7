-- Which rows a worker knows, by what its node holds.
use Rattle.std.proofs.Common.{◌≡◌, ◌∙◌, ℕ, List, [], length, refl, sym, ap, subst, arith}
use Rattle.std.specs.Prelude.{None, Option, Some, slice_get, unwrap_or}
use Rattle.std.specs.BTreeMap.{is_at}
use Rattle.std.specs.List.{range_with_len}
use Rattle.std.specs.List.Sorted.{IsStrictlySortedBy}
use Rattle.std.specs.Map.{keys_of, lookup}
use Rattle.std.specs.Option.{option_and_then, option_map, option_map_or}
use Rattle.std.proofs.lemmas.Map.Views.{Contains-from_lookup}
use Rattle.std.proofs.lemmas.Option.{slice_get_within}
use Rattle.mw_types.specs.Orders.{row_cmp}
use Rattle.mw_types.specs.declared.identity.RowName.{RowName}
use Rattle.mw_types.proofs.OrderLaws.{row_cmp-total}
use Rattle.key_intervals.specs.Intervals.{covers, rows_covered}
use Rattle.key_intervals.specs.declared.bounds.Bounds.{Bounds}
use Rattle.topology.specs.Rules.{IsTopology}
use Rattle.topology.specs.Shapes.{Shape}
use Rattle.row_parts.specs.Contents.{Contents, fresh}
use Rattle.run_history.specs.Cases.{CaseShape, fresh_of, intervals_of}
use Rattle.run_history.specs.Fences.{interval_of, known}
use Rattle.run_history.specs.Runs.{row_in}
use Rattle.run_history.proofs.IntervalLaws.{are-intervals, has-interval_of, interval_of-has}
use Rattle.run_history.proofs.Lookups.{each_found}
use Rattle.list_lemmas.proofs.Lists.{some_same}
use Rattle.history_laws.proofs.LowLaws.{rows-in_order}
use Rattle.history_laws.proofs.RowSteps.{same_row}
use Rattle.book.specs.Books.{BookView, LeaseView}
use Rattle.holdings.specs.Holding.{HeldView, held_at, held_on, row_held}
use Rattle.node.specs.Workers.{NodeView}
use Rattle.world.specs.scripts.Worlds.{World, lease_of, rows_known, rows_of_worker, run_known, worker_of}
use Rattle.world.proofs.scripts.deeds.Acting.{IsActing}
use Rattle.world.proofs.scripts.deeds.Ascending.{sorted-passing}
use Rattle.world.proofs.scripts.deeds.Held.{held-lies, lease_held, lease_of-held, row-held}
use Rattle.world.proofs.scripts.deeds.Members.{IsIn, each-in, filter-in, flat-in, in-contained, in-filter, in-flat, in-range}

-- ---- rows in order of their names

-- what a look-up finds is one of the rows
found-in : (name : RowName) (row : Contents) (rows : List (RowName × Contents)) → lookup (is_at (row_cmp name)) rows ≡ Some row
    → IsIn (name, row) rows
found-in name row rows is =
    in-contained (name, row) rows (Contains-from_lookup {eq = λ a. is_at (row_cmp a)} same_row name row rows is)

-- one of the rows is what a look-up finds
in-found : (r : RowName × Contents) (rows : List (RowName × Contents)) → IsStrictlySortedBy row_cmp (keys_of rows) → IsIn r rows
    → lookup (is_at (row_cmp r.0)) rows ≡ Some r.1
in-found r rows sorted here = each-in (λ (e : RowName × Contents). lookup (is_at (row_cmp e.0)) rows ≡ Some e.1) r rows
    (each_found row_cmp-total rows sorted) here

-- ---- the rows of one lease

-- a row that is known under a lease lies in the lease's interval, and is one of what is known
known-lies : (shape : Shape) (world : World) (lease : LeaseView) (r : RowName × Contents) → IsTopology shape
    → IsIn r (rows_known shape world lease)
    → (interval_of shape r.0 ≡ Some lease.interval) × (row_in (run_known shape world lease) r.0 ≡ Some r.1)
known-lies shape world lease r rules here = by_bounds (slice_get (intervals_of shape) lease.interval) refl here
  where
    by_bounds : (o : Option Bounds) → slice_get (intervals_of shape) lease.interval ≡ o
        → IsIn r (option_map_or (λ (b : Bounds). rows_covered b (run_known shape world lease).rows) o [])
        → (interval_of shape r.0 ≡ Some lease.interval) × (row_in (run_known shape world lease) r.0 ≡ Some r.1)
    by_bounds None at place = absurd place
    by_bounds (Some b) at place =
        let passes = filter-in (λ (row : RowName × Contents). covers b row.0) r (run_known shape world lease).rows place in (
          has-interval_of shape lease.interval r.0 (are-intervals shape rules) (b, at, passes.0),
          in-found r (run_known shape world lease).rows
              (rows-in_order shape (known lease.interval lease.seq world.history)).sorted passes.1,
        )

-- and the other way
lies-known : (shape : Shape) (world : World) (lease : LeaseView) (name : RowName) (row : Contents)
    → interval_of shape name ≡ Some lease.interval → row_in (run_known shape world lease) name ≡ Some row
    → IsIn (name, row) (rows_known shape world lease)
lies-known shape world lease name row lies there =
    let has = interval_of-has shape lease.interval name lies in
    subst (λ o. IsIn (name, row) (option_map_or (λ (b : Bounds). rows_covered b (run_known shape world lease).rows) o []))
    (sym has.1) (in-filter (λ (r : RowName × Contents). covers has.0 r.0) (name, row) (run_known shape world lease).rows
    (found-in name row (run_known shape world lease).rows there) has.2)

-- the rows of a lease stand in the order of their names
pub known-sorted : (shape : Shape) (world : World) (lease : LeaseView)
    → IsStrictlySortedBy row_cmp (keys_of (rows_known shape world lease))
unfolding IsStrictlySortedBy
known-sorted shape world lease = by_bounds (slice_get (intervals_of shape) lease.interval)
  where
    by_bounds : (o : Option Bounds) → IsStrictlySortedBy row_cmp
        (keys_of (option_map_or (λ (b : Bounds). rows_covered b (run_known shape world lease).rows) o []))
    by_bounds None = tt
    by_bounds (Some b) = sorted-passing row_cmp (λ (r : RowName × Contents). covers b r.0) (run_known shape world lease).rows
        (rows-in_order shape (known lease.interval lease.seq world.history)).sorted

-- ---- the rows that a worker holds

-- an entry is on a row that a worker holds, as it is known
pub record IsRowThere (shape : Shape) (world : World) (was : NodeView) (name : RowName) (row : Contents) : Type 0 where
  pub held : HeldView
  pub on : held_on shape was.held name ≡ Some held
  pub there : row_in (run_known shape world held.lease) name ≡ Some row

-- such a row is the row as it is held
pub row-there : (case : CaseShape) (old : BookView) (world : World) (number : ℕ) (was : NodeView) (name : RowName) (row : Contents)
    → IsActing case old world number was → (is : IsRowThere case.topology world was name row)
    → row_held case.topology is.held name ≡ row
row-there case old world number was name row acting is = sym (row-held case old world number was is.held name acting is.on)
    ∙ ap (λ o. unwrap_or o (fresh (fresh_of case.topology name.part))) is.there

-- a row that is held and is not fresh is such a row
pub there-unless-fresh : (case : CaseShape) (old : BookView) (world : World) (number : ℕ) (was : NodeView) (name : RowName)
    (held : HeldView) (P : Contents → Type 0) → IsActing case old world number was → held_on case.topology was.held name ≡ Some held
    → P (row_held case.topology held name) → (P (fresh (fresh_of case.topology name.part)) → ⊥)
    → IsRowThere case.topology world was name (row_held case.topology held name)
there-unless-fresh case old world number was name held P acting on holds never =
    by_row (row_in (run_known case.topology world held.lease) name) refl
  where
    by_row : (o : Option Contents) → row_in (run_known case.topology world held.lease) name ≡ o
        → IsRowThere case.topology world was name (row_held case.topology held name)
    by_row None at = absurd (never (subst P (sym (row-held case old world number was held name acting on)
        ∙ ap (λ o. unwrap_or o (fresh (fresh_of case.topology name.part))) at) holds))
    by_row (Some row) at = record {
      held = held;
      on = on;
      there = at ∙ ap Some (sym (ap (λ o. unwrap_or o (fresh (fresh_of case.topology name.part))) at)
          ∙ row-held case old world number was held name acting on);
    }

-- ---- of one interval that is held

-- what is known under the lease of an interval is there
pub in-known : (case : CaseShape) (old : BookView) (world : World) (number : ℕ) (was : NodeView) (interval : ℕ) (held : HeldView)
    (name : RowName) (row : Contents) → IsActing case old world number was → held_at was.held interval ≡ Some held
    → IsIn (name, row) (rows_known case.topology world held.lease)
    → (interval_of case.topology name ≡ Some interval) × IsRowThere case.topology world was name row
in-known case old world number was interval held name row acting at here =
    let shape = case.topology in
    let is = known-lies shape world held.lease (name, row) acting.lawful.runnable.topology here in
    let lies = is.0 ∙ ap Some (acting.fits.held.each interval held at).of_interval in
    (lies, record { held = held; on = ap (λ o. option_and_then (held_at was.held) o) lies ∙ at; there = is.1 })

-- and the other way
pub known-in : (case : CaseShape) (old : BookView) (world : World) (number : ℕ) (was : NodeView) (interval : ℕ) (held : HeldView)
    (name : RowName) (row : Contents) → IsActing case old world number was → held_at was.held interval ≡ Some held
    → interval_of case.topology name ≡ Some interval → (is : IsRowThere case.topology world was name row)
    → IsIn (name, row) (rows_known case.topology world held.lease)
known-in case old world number was interval held name row acting at lies is =
    let shape = case.topology in
    let same : is.held ≡ held = some_same is.held held (sym is.on ∙ ap (option_and_then (held_at was.held)) lies ∙ at) in
    lies-known shape world held.lease name row (lies ∙ ap Some (sym (acting.fits.held.each interval held at).of_interval))
    (subst (λ (h : HeldView). row_in (run_known shape world h.lease) name ≡ Some row) same is.there)

-- ---- of all intervals

-- what a worker knows is there
pub worker-knows : (case : CaseShape) (old : BookView) (world : World) (number : ℕ) (was : NodeView) (name : RowName)
    (row : Contents) → IsActing case old world number was
    → IsIn (name, row) (rows_of_worker case.topology world (worker_of world number))
    → IsRowThere case.topology world was name row
worker-knows case old world number was name row acting here =
    let shape = case.topology in
    let one = flat-in (λ (i : ℕ). option_map_or (rows_known shape world) (lease_of (worker_of world number) i) [])
    (range_with_len 0 (length (intervals_of shape))) (name, row) here in
    by_held one.0 (held_at was.held one.0) refl
    (subst (λ o. IsIn (name, row) (option_map_or (rows_known shape world) o []))
    (lease_of-held case old world number was one.0 acting) one.2)
  where
    by_held : (i : ℕ) (o : Option HeldView) → held_at was.held i ≡ o
        → IsIn (name, row) (option_map_or (rows_known case.topology world) (option_map lease_held o) [])
        → IsRowThere case.topology world was name row
    by_held i None at place = absurd place
    by_held i (Some held) at place = (in-known case old world number was i held name row acting at place).1

-- and the other way
pub knows-worker : (case : CaseShape) (old : BookView) (world : World) (number : ℕ) (was : NodeView) (name : RowName)
    (row : Contents) → IsActing case old world number was → IsRowThere case.topology world was name row
    → IsIn (name, row) (rows_of_worker case.topology world (worker_of world number))
knows-worker case old world number was name row acting is =
    let shape = case.topology in
    let lies = held-lies shape was.held name is.held is.on in
    let has = interval_of-has shape lies.0 name lies.1 in
    in-flat (λ (i : ℕ). option_map_or (rows_known shape world) (lease_of (worker_of world number) i) []) lies.0
    (range_with_len 0 (length (intervals_of shape))) (name, row)
    (in-range 0 (length (intervals_of shape)) lies.0 (omega arith)
    (let w = slice_get_within (intervals_of shape) lies.0 has.0 has.1 in omega (arith, w)))
    (subst (λ o. IsIn (name, row) (option_map_or (rows_known shape world) o []))
    (sym (lease_of-held case old world number was lies.0 acting ∙ ap (option_map lease_held) lies.2))
    (known-in case old world number was lies.0 is.held name row acting lies.2 lies.1 is))
