-- Which timers a worker knows, by what its node holds.
use Rattle.std.proofs.Common.{◌≡◌, ◌∙◌, ℕ, false, List, [], ◌∷◌, refl, sym, ap, subst, inl, inr, is_gt}
use Rattle.std.specs.Prelude.{◌==◌, Some, filter, slice_get, unwrap_or}
use Rattle.std.specs.Cmp.{IsTotalOrder, tied_itself}
use Rattle.std.specs.List.Sorted.{IsStrictlySortedBy}
use Rattle.std.specs.Ordering.{is_eq, ordering_reverse, ordering_then}
use Rattle.std.specs.declared.cmp.Ordering.{Ordering}
use Rattle.std.specs.declared.cmp.Ordering.TheVariants.{Less, Equal, Greater}
use Rattle.std.proofs.lemmas.Bool.{eq-eqb, eqb-true}
use Rattle.mw_types.specs.Orders.{row_cmp, timer_cmp}
use Rattle.mw_types.specs.declared.identity.RowName.{RowName}
use Rattle.mw_types.specs.declared.timer.Timer.{Timer}
use Rattle.mw_types.proofs.OrderLaws.{row_cmp-total}
use Rattle.topology.specs.Shapes.{Shape}
use Rattle.row_parts.specs.Contents.{Contents, fresh}
use Rattle.row_parts.specs.Orders.{timer_cmp-total}
use Rattle.run_history.specs.Cases.{CaseShape, fresh_of}
use Rattle.run_history.specs.Fences.{known}
use Rattle.run_history.specs.Runs.{row_in}
use Rattle.list_lemmas.proofs.Lists.{none_some, some_same}
use Rattle.history_laws.proofs.RowSteps.{both_Equal, same_row}
use Rattle.book.specs.Books.{BookView}
use Rattle.holdings.specs.Holding.{HeldView, held_on, row_held}
use Rattle.holdings.specs.Timers.{due_cmp}
use Rattle.node.specs.Asking.{IsTimerHeld}
use Rattle.node.specs.Workers.{NodeView}
use Rattle.world.specs.scripts.Acts.{timers_in, timers_known}
use Rattle.world.specs.scripts.Worlds.{World, rows_of_worker, run_known, worker_of}
use Rattle.world.proofs.scripts.deeds.Acting.{IsActing}
use Rattle.world.proofs.scripts.deeds.KnownRows.{IsRowThere, knows-worker, row-there, there-unless-fresh, worker-knows}
use Rattle.world.proofs.scripts.deeds.Members.{IsIn, each-in, filter-in, flat-in, in-filter, in-flat, in-map, map-in}
use Rattle.world.proofs.scripts.deeds.TimerOrder.{timers-ordered}

-- ---- lists in order

-- the first of a list is one of it
first-in : {A : Type 0} (x : A) (xs : List A) → slice_get xs 0 ≡ Some x → IsIn x xs
first-in x [] is = absurd (none_some x is)
first-in x (y ∷ ys) is = inl (sym (some_same y x is))

-- a list that has something has a first
in-first : {A : Type 0} (x : A) (xs : List A) → IsIn x xs → (y : A) × (slice_get xs 0 ≡ Some y)
in-first x [] here = absurd here
in-first x (y ∷ ys) here = (y, refl)

module _ {A : Type 0} {R : A → A → Ordering} (o : IsTotalOrder R) where
  -- the first of a list in order is not above any of it
  first-least : (x y : A) (xs : List A) → IsStrictlySortedBy R xs → slice_get xs 0 ≡ Some x → IsIn y xs → is_gt (R x y) ≡ false
  unfolding IsStrictlySortedBy
  first-least x y [] sorted is here = absurd here
  first-least x y (z ∷ zs) sorted is (inl same) =
      ap (λ w. is_gt (R w y)) (sym (some_same z x is)) ∙ ap (λ w. is_gt (R z w)) same ∙ ap is_gt (tied_itself o z)
  first-least x y (z ∷ zs) sorted is (inr later) =
      ap (λ w. is_gt (R w y)) (sym (some_same z x is)) ∙ ap is_gt (each-in (λ w. R z w ≡ Less) y zs sorted.0 later)

  -- two of a list in strict order that tie are one
  tied-one : (x y : A) (xs : List A) → IsStrictlySortedBy R xs → IsIn x xs → IsIn y xs → R x y ≡ Equal → x ≡ y
  unfolding IsStrictlySortedBy
  tied-one x y [] sorted here there tie = absurd here
  tied-one x y (z ∷ zs) sorted (inl one) (inl other) tie = one ∙ sym other
  tied-one x y (z ∷ zs) sorted (inl one) (inr later) tie =
      let less = each-in (λ w. R z w ≡ Less) y zs sorted.0 later in
      absurd (let e : Equal ≡ Less = sym tie ∙ ap (λ w. R w y) one ∙ less in cc)
  tied-one x y (z ∷ zs) sorted (inr later) (inl other) tie =
      let less = each-in (λ w. R z w ≡ Less) x zs sorted.0 later in
      absurd (let e : Greater ≡ Equal = sym (o.antisymm x z ∙ ap ordering_reverse less) ∙ ap (R x) (sym other) ∙ tie in cc)
  tied-one x y (z ∷ zs) sorted (inr one) (inr other) tie = tied-one x y zs sorted.1 one other tie

-- ---- timers that are set

-- a timer of a part is set in a row that a worker holds, as it is known
pub record IsTimerThere (shape : Shape) (world : World) (was : NodeView) (part : ℕ) (due : RowName × Timer) : Type 0 where
  pub of_part : due.0.part ≡ part
  pub row : Contents
  pub is : IsRowThere shape world was due.0 row
  pub set : IsIn due.1 row.timers

-- the timers of such a row stand in their order
row-ordered : (shape : Shape) (world : World) (was : NodeView) (name : RowName) (row : Contents) → IsRowThere shape world was name row
    → IsStrictlySortedBy timer_cmp row.timers
row-ordered shape world was name row is = subst (λ (r : Contents). IsStrictlySortedBy timer_cmp r.timers)
    (ap (λ o. unwrap_or o (fresh (fresh_of shape name.part))) is.there)
    (timers-ordered shape (known is.held.lease.interval is.held.lease.seq world.history) name)

-- a timer that a worker knows is set
pub known-set : (case : CaseShape) (old : BookView) (world : World) (number : ℕ) (was : NodeView) (part : ℕ) (due : RowName × Timer)
    → IsActing case old world number was → IsIn due (timers_known case.topology world (worker_of world number) part)
    → IsTimerThere case.topology world was part due
known-set case old world number was part due acting here =
    let shape = case.topology in
    let rows = rows_of_worker shape world (worker_of world number) in
    let one = flat-in timers_in (filter (λ (r : RowName × Contents). r.0.part == part) rows) due here in
    let passes = filter-in (λ (r : RowName × Contents). r.0.part == part) one.0 rows one.1 in
    let timer = map-in (λ (t : Timer). (one.0.0, t)) one.0.1.timers due one.2 in
    subst (IsTimerThere shape world was part) (sym timer.2) (record {
      of_part = eqb-true one.0.0.part part passes.0;
      row = one.0.1;
      is = worker-knows case old world number was one.0.0 one.0.1 acting passes.1;
      set = timer.1;
    })

-- and the other way
pub set-known : (case : CaseShape) (old : BookView) (world : World) (number : ℕ) (was : NodeView) (part : ℕ) (due : RowName × Timer)
    → IsActing case old world number was → IsTimerThere case.topology world was part due
    → IsIn due (timers_known case.topology world (worker_of world number) part)
set-known case old world number was part due acting is =
    let shape = case.topology in
    let rows = rows_of_worker shape world (worker_of world number) in
    in-flat timers_in (due.0, is.row) (filter (λ (r : RowName × Contents). r.0.part == part) rows) due
    (in-filter (λ (r : RowName × Contents). r.0.part == part) (due.0, is.row) rows
    (knows-worker case old world number was due.0 is.row acting is.is) (eq-eqb due.0.part part is.of_part))
    (in-map (λ (t : Timer). (due.0, t)) due.1 is.row.timers is.set)

-- two timers that are set and tie are one
pub tied-timers : (shape : Shape) (world : World) (was : NodeView) (part : ℕ) (a b : RowName × Timer)
    → IsTimerThere shape world was part a → IsTimerThere shape world was part b → due_cmp a b ≡ Equal → a ≡ b
tied-timers shape world was part a b one other tie =
    let two = both_Equal (timer_cmp a.1 b.1) (row_cmp a.0 b.0) tie in
    let names : a.0 ≡ b.0 = same_row a.0 b.0 (ap is_eq two.1) in
    let held : one.is.held ≡ other.is.held =
    some_same one.is.held other.is.held (sym one.is.on ∙ ap (held_on shape was.held) names ∙ other.is.on) in
    let row : one.row ≡ other.row = some_same one.row other.row (sym one.is.there
    ∙ ap (row_in (run_known shape world one.is.held.lease)) names
    ∙ ap (λ (h : HeldView). row_in (run_known shape world h.lease) b.0) held ∙ other.is.there) in
    let timers : a.1 ≡ b.1 = tied-one timer_cmp-total a.1 b.1 other.row.timers
    (row-ordered shape world was b.0 other.row other.is) (subst (λ (r : Contents). IsIn a.1 r.timers) row one.set) other.set two.0 in
    λ i. (names i, timers i)

-- ---- timers that are held

-- the first timer of a row that is held is set
pub held-set : (case : CaseShape) (old : BookView) (world : World) (number : ℕ) (was : NodeView) (part : ℕ) (name : RowName)
    (timer : Timer) → IsActing case old world number was → IsTimerHeld case.topology was part name timer
    → IsTimerThere case.topology world was part (name, timer)
held-set case old world number was part name timer acting is = record {
  of_part = is.of_part;
  row = row_held case.topology is.held name;
  is = there-unless-fresh case old world number was name is.held (λ (r : Contents). slice_get r.timers 0 ≡ Some timer) acting is.there
      is.first (none_some timer);
  set = first-in timer (row_held case.topology is.held name).timers is.first;
}

-- the first timer of the row of one that is set is held
pub set-held : (case : CaseShape) (old : BookView) (world : World) (number : ℕ) (was : NodeView) (part : ℕ) (due : RowName × Timer)
    → IsActing case old world number was → IsTimerThere case.topology world was part due
    → (timer : Timer) × IsTimerHeld case.topology was part due.0 timer × (is_gt (due_cmp (due.0, timer) due) ≡ false)
set-held case old world number was part due acting is =
    let shape = case.topology in
    let first = in-first due.1 is.row.timers is.set in (
      first.0,
      record {
        of_part = is.of_part;
        held = is.is.held;
        there = is.is.on;
        first = ap (λ (r : Contents). slice_get r.timers 0) (row-there case old world number was due.0 is.row acting is.is) ∙ first.1;
      },
      ap (λ r. is_gt (ordering_then (timer_cmp first.0 due.1) r)) (tied_itself row_cmp-total due.0)
          ∙ then-equal (timer_cmp first.0 due.1)
          ∙ first-least timer_cmp-total first.0 due.1 is.row.timers (row-ordered shape world was due.0 is.row is.is) first.1 is.set,
    )
  where
    then-equal : (o : Ordering) → is_gt (ordering_then o Equal) ≡ is_gt o
    then-equal Less = refl
    then-equal Equal = refl
    then-equal Greater = refl
