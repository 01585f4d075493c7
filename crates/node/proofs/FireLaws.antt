-- Which timer of a part fires first.
use Rattle.std.proofs.Common.{◌≡◌, ◌∙◌, ◌<◌, ◌+◌, ◌&&◌, ℕ, Bool, true, false, List, [], ◌∷◌, length, refl, sym, ap, subst, arith, inl, inr, zero, suc}
use Rattle.std.specs.Prelude.{IfSome, IsSome, Option, Some, None, ◌⊎◌, ◌==◌, if◌then◌else◌, nat_le, slice_get, unwrap_or}
use Rattle.std.specs.Cmp.{nat_cmp_is}
use Rattle.std.specs.Ordering.{is_le, is_lt, nat_cmp, ordering_reverse, ordering_then}
use Rattle.std.specs.declared.cmp.Ordering.{Ordering}
use Rattle.std.specs.declared.cmp.Ordering.TheVariants.{Less, Equal, Greater}
use Rattle.std.proofs.lemmas.Bool.{cases_eq, eq-eqb, eqb-true, leb-false, leb-true}
use Rattle.list_lemmas.proofs.Tests.{less_from_test, both_true}
use Rattle.mw_types.specs.Orders.{key_cmp, row_cmp}
use Rattle.mw_types.specs.declared.identity.RowName.{RowName}
use Rattle.mw_types.specs.declared.timer.Timer.{Timer}
use Rattle.key_intervals.specs.Intervals.{ends_after}
use Rattle.key_intervals.specs.declared.bounds.Bounds.{Bounds}
use Rattle.topology.specs.Shapes.{Shape}
use Rattle.row_parts.specs.Contents.{Contents, fresh}
use Rattle.run_history.specs.Cases.{fresh_of, intervals_of}
use Rattle.run_history.specs.Fences.{interval_of}
use Rattle.run_history.specs.Runs.{cached, row_in}
use Rattle.run_history.proofs.IntervalLaws.{interval_of-has}
use Rattle.list_lemmas.proofs.Lists.{some_same}
use Rattle.holdings.specs.Firsts.{HasPicked}
use Rattle.holdings.specs.Holding.{HeldView, held_at}
use Rattle.holdings.specs.Timers.{IsFirstTimer, due_cmp, pair_of, timer_of}
use Rattle.holdings.specs.declared.first_timer.RowTimer.{RowTimer}
use Rattle.holdings.proofs.TimerLaws.{due_cmp-total}
use Rattle.node.specs.Asking.{IsTimerHeld}
use Rattle.node.specs.FireSteps.{AreAllWithin, IsFirstIn, IsLeastTimerBelow, IsLeastTimer, IsTimerIn, IsTimerOf, IsTimerToFire, due_under, earlier_timer}
use Rattle.node.specs.PurgeSteps.{AreRowsWithin}
use Rattle.node.specs.Workers.{NodeView}
use Rattle.node.proofs.FirstLaws.{not_less, there-some}
use Rattle.node.proofs.FitLaws.{held-interval}
use Rattle.node.proofs.PurgeLaws.{held-on-at}

-- ---- the order of timers

-- what is not before a timer is not before one that is before it
past-before : (a b t : RowName × Timer) → is_lt (due_cmp b a) ≡ true → is_lt (due_cmp t a) ≡ false → is_lt (due_cmp t b) ≡ false
past-before a b t before past = not_less (due_cmp t b) (λ first.
    let whole : due_cmp t a ≡ Less = due_cmp-total.trans t b a first (less_from_test (due_cmp b a) before) in
    absurd (let e : true ≡ false = sym (ap is_lt whole) ∙ past in cc))

-- what is not before a timer is not before one that it is not before
past-behind : (a b t : RowName × Timer) → is_lt (due_cmp b a) ≡ false → is_lt (due_cmp t b) ≡ false → is_lt (due_cmp t a) ≡ false
past-behind a b t behind past = not_less (due_cmp t a) (λ first. by_order (due_cmp b a) refl first)
  where
    never : due_cmp t b ≡ Less → ⊥
    never is = let e : true ≡ false = sym (ap is_lt is) ∙ past in cc

    by_order : (o : Ordering) → due_cmp b a ≡ o → due_cmp t a ≡ Less → ⊥
    by_order Less is first = let e : true ≡ false = sym (ap is_lt is) ∙ behind in cc
    by_order Equal is first = never (due_cmp-total.antisymm t b ∙ ap ordering_reverse (due_cmp-total.congr b a t is)
        ∙ sym (due_cmp-total.antisymm t a) ∙ first)
    by_order Greater is first = never (due_cmp-total.trans t a b first (due_cmp-total.antisymm a b ∙ ap ordering_reverse is))

-- ---- the least of some timers

-- of two least timers the one that is before is the least of both_true
pub least-earlier : (One Other Both : RowName × Timer → Type 0) (one other : Option RowTimer)
    → ((t : RowName × Timer) → One t → Both t) → ((t : RowName × Timer) → Other t → Both t)
    → ((t : RowName × Timer) → Both t → One t ⊎ Other t)
    → IsLeastTimer One one → IsLeastTimer Other other → IsLeastTimer Both (earlier_timer one other)
least-earlier One Other Both None None left right split is more = λ t both_true. elim (split t both_true) [
  | inl x ↦ is t x
  | inr y ↦ more t y
]
least-earlier One Other Both (Some a) None left right split is more = (
  left (pair_of a) is.0,
  λ t both_true. elim (split t both_true) [
    | inl x ↦ is.1 t x
    | inr y ↦ absurd (more t y)
  ],
)
least-earlier One Other Both None (Some b) left right split is more = (
  right (pair_of b) more.0,
  λ t both_true. elim (split t both_true) [
    | inl x ↦ absurd (is t x)
    | inr y ↦ more.1 t y
  ],
)
least-earlier One Other Both (Some a) (Some b) left right split is more = by_test (is_lt (due_cmp (pair_of b) (pair_of a))) refl
  where
    by_test : (c : Bool) → is_lt (due_cmp (pair_of b) (pair_of a)) ≡ c → IsLeastTimer Both (Some (if c then b else a))
    by_test true before = (
      right (pair_of b) more.0,
      λ t both_true. elim (split t both_true) [
        | inl x ↦ past-before (pair_of a) (pair_of b) t before (is.1 t x)
        | inr y ↦ more.1 t y
      ],
    )
    by_test false behind = (
      left (pair_of a) is.0,
      λ t both_true. elim (split t both_true) [
        | inl x ↦ is.1 t x
        | inr y ↦ past-behind (pair_of a) (pair_of b) t behind (more.1 t y)
      ],
    )

-- ---- the timers of an interval

-- the first timer of what is held of an interval
first-of : (all : List (Option HeldView)) (interval : ℕ) (held : HeldView) (found : Option RowTimer) → held_at all interval ≡ Some held
    → IsFirstTimer held.rows found → IsFirstIn true all interval found
first-of all interval held None at first = λ t is.
    first t (subst (λ (h : HeldView). HasPicked timer_of h.rows t) (some_same is.held held (sym is.there ∙ at)) is.picked)
first-of all interval held (Some b) at first = (
  record { counted = refl; held = held; there = at; picked = first.has },
  λ t is. not_less (due_cmp t (pair_of b)) (first.least t
      (subst (λ (h : HeldView). HasPicked timer_of h.rows t) (some_same is.held held (sym is.there ∙ at)) is.picked)),
)

-- the same of an interval that counts and is held
pub first-held : (all : List (Option HeldView)) (interval : ℕ) (counts : Bool) (found : Option RowTimer) → counts ≡ true
    → IsSome (held_at all interval) → IfSome (held_at all interval) (λ (held : HeldView). IsFirstTimer held.rows found)
    → IsFirstIn counts all interval found
first-held all interval counts found is there first = subst (λ b. IsFirstIn b all interval found) (sym is)
    (by_held (held_at all interval) refl there first)
  where
    by_held : (o : Option HeldView) → held_at all interval ≡ o → IsSome o → IfSome o (λ (held : HeldView). IsFirstTimer held.rows found)
        → IsFirstIn true all interval found
    by_held None at there first = absurd cc
    by_held (Some held) at there first = first-of all interval held found at first

-- ---- the timers of a part

-- the least timer of one interval more
pub first-more : (intervals : List Bounds) (all : List (Option HeldView)) (part count : ℕ) (b : Bounds) (one other : Option RowTimer)
    → slice_get intervals count ≡ Some b → IsLeastTimerBelow intervals all part count one → IsFirstIn (b.part == part) all count other
    → IsLeastTimerBelow intervals all part (count + 1) (earlier_timer one other)
first-more intervals all part count b one other at so_far here =
    least-earlier (IsTimerOf intervals all part count) (IsTimerIn (b.part == part) all count) (IsTimerOf intervals all part (count + 1))
    one other
    (λ t is. record {
      interval = is.interval;
      early = let early = is.early in omega (arith, early);
      bounds = is.bounds;
      numbered = is.numbered;
      of_part = is.of_part;
      set = is.set;
    })
    (λ t is. record {
      interval = count;
      early = omega arith;
      bounds = b;
      numbered = at;
      of_part = eqb-true b.part part is.counted;
      set = record { counted = refl; held = is.held; there = is.there; picked = is.picked };
    })
    split so_far here
  where
    split : (t : RowName × Timer) → IsTimerOf intervals all part (count + 1) t
        → IsTimerOf intervals all part count t ⊎ IsTimerIn (b.part == part) all count t
    split t is = elim (cases_eq is.interval count) [
      | inl same ↦ inr (record {
        counted = eq-eqb b.part part (ap (λ (c : Bounds). c.part) (some_same b is.bounds (sym at
            ∙ ap (slice_get intervals) (sym same) ∙ is.numbered)) ∙ is.of_part);
        held = is.set.held;
        there = ap (held_at all) (sym same) ∙ is.set.there;
        picked = is.set.picked;
      })
      | inr other ↦ inl (record {
        interval = is.interval;
        early = let early = is.early in omega (arith, early, other);
        bounds = is.bounds;
        numbered = is.numbered;
        of_part = is.of_part;
        set = is.set;
      })
    ]

-- the part of a row that lies in an interval
pub lies-part : (shape : Shape) (i : ℕ) (name : RowName) (b : Bounds) → interval_of shape name ≡ Some i
    → slice_get (intervals_of shape) i ≡ Some b → b.part ≡ name.part
lies-part shape i name b lies at =
    let has = interval_of-has shape i name lies in
    let h = has.0 in
    let first = both_true ((h.part == name.part) && is_le (key_cmp h.from name.key)) (ends_after h.to name.key) has.2 in
    ap (λ (c : Bounds). c.part) (some_same b h (sym at ∙ has.1))
    ∙ eqb-true h.part name.part (both_true (h.part == name.part) (is_le (key_cmp h.from name.key)) first.0).0

-- a place that is there
below : (all : List Bounds) (k : ℕ) (b : Bounds) → slice_get all k ≡ Some b → k < length all
below [] k b at = absurd cc
below (c ∷ cs) zero b at = omega arith
below (c ∷ cs) (suc k) b at = let less_from_test = below cs k b at in omega (arith, less_from_test)

-- a timer of one of the part's intervals is held
timer-held : (shape : Shape) (node : NodeView) (part count : ℕ) (name : RowName) (timer : Timer) → AreAllWithin shape node.held
    → IsTimerOf (intervals_of shape) node.held part count (name, timer) → IsTimerHeld shape node part name timer
timer-held shape node part count name timer within is =
    let here = is.set in
    let picked = here.picked in
    let lies = subst (AreRowsWithin shape is.interval) here.there (within is.interval) name
    (there-some (row_in (cached here.held.rows) name) picked.row picked.there) in record {
      of_part = sym (lies-part shape is.interval name is.bounds lies is.numbered) ∙ is.of_part;
      held = here.held;
      there = held-on-at shape node.held name is.interval here.held lies here.there;
      first = subst (λ (o : Option Contents). slice_get (unwrap_or o (fresh (fresh_of shape name.part))).timers 0 ≡ Some timer)
          (sym picked.there) picked.picked;
    }

-- a timer that is held is one of the part's intervals
timer-of : (shape : Shape) (node : NodeView) (part : ℕ) (name : RowName) (timer : Timer) → IsTimerHeld shape node part name timer
    → IsTimerOf (intervals_of shape) node.held part (length (intervals_of shape)) (name, timer)
timer-of shape node part name timer is =
    let on = held-interval shape node.held name is.held is.there in
    let has = interval_of-has shape on.0 name on.1 in record {
      interval = on.0;
      early = below (intervals_of shape) on.0 has.0 has.1;
      bounds = has.0;
      numbered = has.1;
      of_part = lies-part shape on.0 name has.0 on.1 has.1 ∙ is.of_part;
      set = record {
        counted = refl;
        held = is.held;
        there = on.2;
        picked = by_row (row_in (cached is.held.rows) name) refl is.first;
      };
    }
  where
    by_row : (o : Option Contents) → row_in (cached is.held.rows) name ≡ o
        → slice_get (unwrap_or o (fresh (fresh_of shape name.part))).timers 0 ≡ Some timer → HasPicked timer_of is.held.rows (name, timer)
    by_row None at first = absurd cc
    by_row (Some row) at first = record { row = row; there = at; picked = first }

-- an earlier time is before
time-before : (a b : RowName × Timer) → a.1.time < b.1.time → due_cmp a b ≡ Less
time-before a b early = ap (λ o. ordering_then (ordering_then o (nat_cmp a.1.tag b.1.tag)) (row_cmp a.0 b.0))
    (sym (nat_cmp_is a.1.time b.1.time Less early))

-- the least timer of a part is the next, where it is due
pub next-timer : (shape : Shape) (node : NodeView) (part mark : ℕ) (found : Option RowTimer) → node.prepared ≡ None
    → AreAllWithin shape node.held → IsLeastTimerBelow (intervals_of shape) node.held part (length (intervals_of shape)) found
    → IsTimerToFire shape node part mark (due_under mark found)
next-timer shape node part mark None free within first = λ name timer next.
    first (name, timer) (timer-of shape node part name timer next.set)
next-timer shape node part mark (Some f) free within first = by_time (nat_le f.timer.time mark) refl
  where
    by_time : (b : Bool) → nat_le f.timer.time mark ≡ b → IsTimerToFire shape node part mark (if b then Some f else None)
    by_time true is = record {
      free = free;
      set = timer-held shape node part (length (intervals_of shape)) f.name f.timer within first.0;
      least = λ other later set. first.1 (other, later) (timer-of shape node part other later set);
      due = leb-true f.timer.time mark is;
    }
    by_time false is = λ name timer next.
        let over = leb-false f.timer.time mark is in
        let due = next.due in
        let before = time-before (name, timer) (pair_of f) (omega (arith, over, due)) in
        let past = first.1 (name, timer) (timer-of shape node part name timer next.set) in
        let e : true ≡ false = sym (ap is_lt before) ∙ past in cc
