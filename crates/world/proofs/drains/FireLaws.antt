-- The timer that a turn fires is what comes next in a drain.
use Rattle.std.proofs.Common.{◌≡◌, ◌<◌, ◌≤◌, ◌-◌, ◌⊎◌, ℕ, Bool, false, cond, zero, suc, List, [], ◌∷◌, refl, sym, ◌∙◌, ap, subst, arith, inl, inr}
use Rattle.std.specs.Prelude.{Option, Some, None, IsSome, IfSome, Contains, nat_lt, slice_get}
use Rattle.std.specs.List.Sorted.{IsStrictlySortedBy}
use Rattle.std.specs.Cmp.{IsTotalOrder, nat_cmp_is, on_total, then_total, tied_itself}
use Rattle.std.specs.Option.{is_some, option_map}
use Rattle.std.specs.Ordering.{is_gt, nat_cmp, ordering_then}
use Rattle.std.specs.declared.cmp.Ordering.{Ordering}
use Rattle.std.specs.declared.cmp.Ordering.TheVariants.{Less, Equal, Greater}
use Rattle.std.proofs.lemmas.Bool.{cases_lt}
use Rattle.std.proofs.lemmas.Cmp.{upto}
use Rattle.std.proofs.lemmas.Map.Keys.{le_from_not_gt}
use Rattle.std.proofs.lemmas.List.Elements.{All-contains, All-from_recursion}
use Rattle.mw_types.specs.Orders.{key_cmp, row_cmp, timer_cmp}
use Rattle.mw_types.specs.declared.entry.Entry.TheVariants as entries
use Rattle.mw_types.specs.declared.identity.RowName.{RowName}
use Rattle.mw_types.specs.declared.kind.Kind.{Kind}
use Rattle.mw_types.specs.declared.timer.Timer.{Timer}
use Rattle.mw_types.proofs.OrderLaws.{key_cmp-total, row_cmp-total}
use Rattle.computations.specs.Handlers.{effects_of, OfTimer}
use Rattle.topology.specs.Shapes.{ComputationShape, Shape, injectors_of, kind_of}
use Rattle.row_parts.specs.Contents.{Contents}
use Rattle.row_parts.specs.Orders.{timer_cmp-total}
use Rattle.run_history.specs.Legal.{IsLegal}
use Rattle.run_history.specs.Runs.{Run, row_of, run_of}
use Rattle.run_history.specs.Watermarks.{least, low_watermark}
use Rattle.list_lemmas.proofs.Lists.{none_some, some_same}
use Rattle.history_laws.proofs.LowLaws.{AreRowsInOrder, rows-in_order}
use Rattle.watermark.specs.Marks.{marks_of}
use Rattle.book.specs.Books.{BookView, core_of}
use Rattle.book.specs.Lawful.{IsLawful}
use Rattle.holdings.specs.Holding.{row_held}
use Rattle.holdings.specs.Timers.{due_cmp}
use Rattle.node.specs.Asking.{IsNextTimer, IsTimerHeld, MayAskFire, Request}
use Rattle.outbox.specs.Messages.{IsComputation}
use Rattle.node.specs.Workers.{NodeView}
use Rattle.world.specs.drains.Drains.{HasClaimedAll, IsDue, IsNextEntry}
use Rattle.world.specs.drains.Turns.{AreExact, HasAsked, HasAskedOne, HasTurned, IsAtWork, IsQuietAt, IsSettled}
use Rattle.world.proofs.Firsts.{tied_both_ways}
use Rattle.world.proofs.drains.InjectLaws.{slice_get-some}
use Rattle.world.proofs.drains.KnownLaws.{held-there, row-known}
use Rattle.world.proofs.drains.NextLaws.{IsLeastDue, none_or_due, not_after-first}
use Rattle.world.proofs.drains.LawfulRows.{lawful-rows}
use Rattle.world.proofs.drains.PurgeLaws.{lt-flip, rows-ordered}
use Rattle.world.proofs.drains.LeastWorkLaws.{turned-asked}
use Rattle.world.proofs.drains.ThereLaws.{timer-part}

-- ---- the first timer of a row

-- the first element of a list is one of it
first-has : {X : Type 0} (xs : List X) (x : X) → slice_get xs 0 ≡ Some x → Contains xs x
first-has [] x is = absurd (none_some x is)
first-has (y ∷ ys) x is = (0, omega arith, some_same y x is)

-- a list that has an element has a first
has-first : {X : Type 0} (xs : List X) (y : X) → Contains xs y → (x : X) × (slice_get xs 0 ≡ Some x)
has-first [] y has = let within = has.1 in absurd (omega (arith, within))
has-first (x ∷ xs) y has = (x, refl)

-- an element of a list is its first, or among the others
head-or : {X : Type 0} (x : X) (xs : List X) (y : X) → Contains (x ∷ xs) y → (x ≡ y) ⊎ Contains xs y
head-or x xs y (zero, within, at) = inl at
head-or x xs y (suc i, within, at) = inr (i, omega (arith, within), at)

-- the first of a list in order is below the others
first-or : {X : Type 0} (R : X → X → Ordering) (xs : List X) (x y : X) → IsStrictlySortedBy R xs → slice_get xs 0 ≡ Some x → Contains xs y
    → (x ≡ y) ⊎ (R x y ≡ Less)
unfolding IsStrictlySortedBy
first-or R [] x y sorted is has = absurd (none_some x is)
first-or R (z ∷ zs) x y sorted is has =
    let same : z ≡ x = some_same z x is in
    elim (head-or z zs y has) [
      | inl one ↦ inl (sym same ∙ one)
      | inr later ↦ inr (subst (λ w. R w y ≡ Less) same
          (All-contains (λ w. R z w ≡ Less) zs y (All-from_recursion (λ w. R z w ≡ Less) zs sorted.0) later))
    ]

-- the first of a list in order is after none of it
first-least : {X : Type 0} (R : X → X → Ordering) → IsTotalOrder R → (xs : List X) (x y : X) → IsStrictlySortedBy R xs
    → slice_get xs 0 ≡ Some x → Contains xs y → is_gt (R x y) ≡ false
first-least R total xs x y sorted is has = elim (first-or R xs x y sorted is has) [
  | inl same ↦ subst (λ z. is_gt (R x z) ≡ false) same (ap is_gt (tied_itself total x))
  | inr less ↦ ap is_gt less
]

-- an element that is not after the first of a list in order is the first
first-is : {X : Type 0} (R : X → X → Ordering) → IsTotalOrder R → (xs : List X) (x y : X) → IsStrictlySortedBy R xs
    → slice_get xs 0 ≡ Some x → Contains xs y → is_gt (R y x) ≡ false → slice_get xs 0 ≡ Some y
first-is R total xs x y sorted is has le = elim (first-or R xs x y sorted is has) [
  | inl same ↦ is ∙ ap Some same
  | inr less ↦ absurd (wrong (sym less ∙ tied_both_ways total x y (ap is_gt less) le))
]
  where
    wrong : Less ≡ Equal → ⊥
    wrong e = cc

-- ---- timers by time, tag and key

-- timers stand by time, by tag and by key
abbrev keyed : RowName × Timer → RowName × Timer → Ordering
keyed a b = ordering_then (timer_cmp a.1 b.1) (key_cmp a.0.key b.0.key)

-- in a total order
keyed-total : IsTotalOrder keyed
keyed-total = then_total (on_total (λ (a : RowName × Timer). a.1) timer_cmp-total) (on_total (λ (a : RowName × Timer). a.0.key) key_cmp-total)

-- which is that of what is held, where the parts are one
due-keyed : (x y : RowName) (t u : Timer) → x.part ≡ y.part → due_cmp (x, t) (y, u) ≡ keyed (x, t) (y, u)
due-keyed x y t u same = ap (λ o. ordering_then (timer_cmp t u) (ordering_then o (key_cmp x.key y.key)))
    (sym (nat_cmp_is x.part y.part Equal same))

-- in a total order
due-total : IsTotalOrder due_cmp
due-total = then_total (on_total (λ (a : RowName × Timer). a.1) timer_cmp-total) (on_total (λ (a : RowName × Timer). a.0) row_cmp-total)

-- of one key timers stand as they do alone
same-keyed : (x : RowName) (t u : Timer) → is_gt (keyed (x, t) (x, u)) ≡ is_gt (timer_cmp t u)
same-keyed x t u = ap (λ o. is_gt (ordering_then (timer_cmp t u) o)) (tied_itself key_cmp-total x.key) ∙ then-equal (timer_cmp t u)
  where
    then-equal : (o : Ordering) → is_gt (ordering_then o Equal) ≡ is_gt o
    then-equal Less = refl
    then-equal Equal = refl
    then-equal Greater = refl

-- a timer that is not after another has no later time
time-least : (t u : Timer) → is_gt (timer_cmp t u) ≡ false → t.time ≤ u.time
time-least t u le = le_from_not_gt t.time u.time (not_after-first (nat_cmp t.time u.time) (nat_cmp t.tag u.tag) le)

-- ---- the next entry

-- a computation is of a kind
kind-found : (shape : Shape) (part : ℕ) → IsComputation shape part → (kind : Kind) × (kind_of shape part ≡ Some kind)
kind-found shape part is = by_kind (kind_of shape part) refl
  where
    there : IsSome (slice_get shape.computations (part - injectors_of shape))
    there = let from = is.no_injector in let to = is.there in
        slice_get-some shape.computations (part - injectors_of shape) (omega (arith, from, to))

    some-mapped : {X Y : Type 0} (f : X → Y) (o : Option X) → IsSome o → option_map f o ≡ None → ⊥
    some-mapped f None some e = cc
    some-mapped f (Some x) some e = cc

    by_kind : (o : Option Kind) → kind_of shape part ≡ o → (kind : Kind) × (kind_of shape part ≡ Some kind)
    by_kind (Some kind) is_kind = (kind, is_kind)
    by_kind None is_kind =
        let from = is.no_injector in
        let test : nat_lt part (injectors_of shape) ≡ false = grind (arith, from) in
        absurd (some-mapped (λ (c : ComputationShape). c.kind) (slice_get shape.computations (part - injectors_of shape)) there
        (sym (ap (λ b. option_map (λ (c : ComputationShape). c.kind)
        (cond b None (slice_get shape.computations (part - injectors_of shape)))) test) ∙ is_kind))

module _ (book : BookView) (node : NodeView) (at : IsAtWork book node) (told : IsSome book.rows) (lawful : IsLawful book.case (core_of book))
    (part : ℕ) (is : IsComputation book.case.topology part) (exact : AreExact book)
    (quiet : (earlier : ℕ) → earlier < part → IsQuietAt book.case book.history earlier) where
  -- what stands after the history
  abbrev run : Run
  run = run_of book.case.topology book.history

  -- the least mark of the part's intervals
  abbrev mark : ℕ
  mark = least (marks_of book.case.topology part book.marks)

  -- the history is legal
  legal : IsLegal book.case book.history
  legal = (lawful-rows book.case book.history book.rows told lawful.held).0

  -- its rows are in order
  abbrev order : AreRowsInOrder run
  order = rows-in_order book.case.topology book.history

  -- the timers of a row are in order
  ordered : (name : RowName) → IsStrictlySortedBy timer_cmp (row_of book.case.topology run name).timers
  ordered name = (rows-ordered book name lawful told).timers.ascending

  -- the mark is the part's low watermark
  low : mark ≡ low_watermark book.case run part
  low = exact part is.no_injector is.there

  -- a timer that is due is of a row that is held, whose first timer is held too
  first-held : (row : RowName) (timer : Timer) → IsDue book.case run row timer
      → (first : Timer) × IsTimerHeld book.case.topology node row.part row first
      × (slice_get (row_of book.case.topology run row).timers 0 ≡ Some first)
  first-held row timer due =
      let first = has-first (row_of book.case.topology run row).timers timer due.set in
      let held = held-there book node row at (timer-part book.case book.history row timer legal due.set) in (
        first.0,
        record {
          of_part = refl;
          held = held.0;
          there = held.1;
          first = ap (λ (c : Contents). slice_get c.timers 0) (row-known book node row held.0 at told held.1) ∙ first.1;
        },
        first.1,
      )

  -- a timer that may fire is due
  next-due : (name : RowName) (timer : Timer) → IsNextTimer book.case.topology node part mark name timer → IsDue book.case run name timer
  next-due name timer next =
      let same = row-known book node name next.set.held at told next.set.there in
      let time = next.due in
      let watermark = low in record {
        set = first-has (row_of book.case.topology run name).timers timer
            (subst (λ (c : Contents). slice_get c.timers 0 ≡ Some timer) same next.set.first);
        due = subst (λ p. timer.time ≤ low_watermark book.case run p) (sym next.set.of_part) (omega (arith, time, watermark));
      }

  -- no due timer is of an earlier part
  next-part : (name : RowName) → name.part ≡ part → (other : RowName) (another : Timer) → IsDue book.case run other another
      → name.part ≤ other.part
  next-part name of other another due = elim (cases_lt other.part part) [
    | inl less ↦ absurd (quiet other.part less other another due refl)
    | inr le ↦ omega (arith, le, of)
  ]

  -- no due timer of the part is before it
  next-least : (name : RowName) (timer : Timer) → IsNextTimer book.case.topology node part mark name timer
      → (other : RowName) (another : Timer) → IsDue book.case run other another → other.part ≡ name.part
      → is_gt (keyed (name, timer) (other, another)) ≡ false
  next-least name timer next other another due of =
      let first = first-held other another due in
      let same : other.part ≡ part = of ∙ next.set.of_part in
      let least = next.least other first.0 (subst (λ p. IsTimerHeld book.case.topology node p other first.0) same first.1) in
      let not_after : is_gt (due_cmp (name, timer) (other, first.0)) ≡ false =
      sym (lt-flip due_cmp due-total (name, timer) (other, first.0)) ∙ least in
      upto keyed-total (name, timer) (other, first.0) (other, another)
      (sym (ap is_gt (due-keyed name other timer first.0 (sym of))) ∙ not_after)
      (same-keyed other first.0 another
      ∙ first-least timer_cmp timer_cmp-total (row_of book.case.topology run other).timers first.0 another (ordered other) first.2 due.set)

  -- the first due timer of all may be asked for, where it is of the part
  least-asked : (row : RowName) (timer : Timer) → IsLeastDue book.case run order row timer → row.part ≡ part
      → (asked : Request) × MayAskFire book.case node part mark asked
  least-asked row timer is_least of =
      let due = is_least.due in
      let first = first-held row timer due in
      let kind = kind-found book.case.topology row.part (subst (IsComputation book.case.topology) (sym of) is) in
      let held = first.1.held in
      let contents = row_held book.case.topology held row in
      let effects = effects_of kind.0 row.key contents.state (OfTimer timer) in
      let early = first-least timer_cmp timer_cmp-total (row_of book.case.topology run row).timers first.0 timer (ordered row) first.2 due.set in
      let first_due : IsDue book.case run row first.0 = record {
        set = first-has (row_of book.case.topology run row).timers first.0 first.2;
        due = let t = due.due in let e = time-least first.0 timer early in omega (arith, t, e);
      } in
      let is_first = first-is timer_cmp timer_cmp-total (row_of book.case.topology run row).timers first.0 timer (ordered row) first.2 due.set
      (sym (same-keyed row timer first.0) ∙ is_least.least row first.0 first_due refl) in
      let one : first.0 ≡ timer = some_same first.0 timer (sym first.2 ∙ is_first) in
      let under = due.due in
      let watermark = low in
      let in_part : low_watermark book.case run row.part ≡ low_watermark book.case run part = ap (low_watermark book.case run) of in (
        record {
          lease = held.lease;
          name = row;
          entry = entries.Fire held.lease.seq row timer mark effects;
          late = timer.late;
        },
        record {
          name = row;
          timer = timer;
          next = record {
            free = at.free;
            set = record {
              of_part = of;
              held = held;
              there = first.1.there;
              first = first.1.first ∙ ap Some one;
            };
            least = λ other later set.
                sym (sym (lt-flip due_cmp due-total (row, timer) (other, later)))
                ∙ by_due other later set (cases_lt (low_watermark book.case run other.part) later.time);
            due = omega (arith, under, watermark, in_part);
          };
          effects = effects;
          does = ap (option_map (λ (k : Kind). effects_of k row.key contents.state (OfTimer timer))) kind.1;
          request = refl;
        },
      )
    where
      by_due : (other : RowName) (later : Timer) → IsTimerHeld book.case.topology node part other later
          → (low_watermark book.case run other.part < later.time) ⊎ (later.time ≤ low_watermark book.case run other.part)
          → is_gt (due_cmp (row, timer) (other, later)) ≡ false
      by_due other later set (inl after) =
          let under = is_least.due.due in
          let in_part : low_watermark book.case run row.part ≡ low_watermark book.case run other.part =
          ap (low_watermark book.case run) (of ∙ sym set.of_part) in
          let less : timer.time < later.time = omega (arith, under, after, in_part) in
          ap (λ o. is_gt (ordering_then (ordering_then o (nat_cmp timer.tag later.tag)) (row_cmp row other)))
          (sym (nat_cmp_is timer.time later.time Less less))
      by_due other later set (inr before) =
          ap is_gt (due-keyed row other timer later (of ∙ sym set.of_part))
          ∙ is_least.least other later (record {
            set = first-has (row_of book.case.topology run other).timers later
                (subst (λ (c : Contents). slice_get c.timers 0 ≡ Some later) (row-known book node other set.held at told set.there) set.first);
            due = before;
          }) (set.of_part ∙ sym of)

  -- no timer of the part is due where none may be asked for
  pub quiet-here : ((asked : Request) → MayAskFire book.case node part mark asked → ⊥) → IsQuietAt book.case book.history part
  quiet-here none row timer due of = by_case (none_or_due book.case run order)
    where
      by_case : ((row : RowName) (timer : Timer) → IsDue book.case run row timer → ⊥)
          ⊎ ((row : RowName) × (timer : Timer) × IsLeastDue book.case run order row timer) → ⊥
      by_case (inl all) = all row timer due
      by_case (inr (first, least, is_least)) =
          let le = is_least.first row timer due in
          elim (cases_lt first.part part) [
            | inl less ↦ quiet first.part less first least is_least.due refl
            | inr ge ↦ let asked = least-asked first least is_least (omega (arith, le, ge, of)) in none asked.0 asked.1
          ]

  -- what may be asked for comes next
  pub asked-next : IsSettled book.case book.history → (asked : Request) → MayAskFire book.case node part mark asked
      → (from : ℕ) → HasClaimedAll book.case from book.history → IsNextEntry book.case from book.history asked.entry
  asked-next settled asked may from claimed =
      subst (λ (a : Request). IsNextEntry book.case from book.history a.entry) (sym may.request) (record {
        earlier = record { claimed = claimed; none_pending = settled };
        due = next-due may.name may.timer may.next;
        first = next-part may.name may.next.set.of_part;
        least = next-least may.name may.timer may.next;
        exact = low ∙ ap (low_watermark book.case run) (sym may.next.set.of_part);
      })

-- a timer that fires is a turn
pub fire-turned : (old new : BookView) (node : NodeView) (part : ℕ) (more : Bool) → IsAtWork old node → IsLawful old.case (core_of old)
    → IsSettled old.case old.history → IsComputation old.case.topology part → (IsSome old.rows → AreExact old)
    → (IsSome old.rows → (earlier : ℕ) → earlier < part → IsQuietAt old.case old.history earlier)
    → HasAskedOne old new (MayAskFire old.case node part (least (marks_of old.case.topology part old.marks))) more
    → HasTurned old new more
fire-turned old new node part more at lawful settled is exact quiet done = by_asked done.asked done.done done.may
  where
    by_asked : (asked : Option Request) → HasAsked old new asked more
        → IfSome asked (MayAskFire old.case node part (least (marks_of old.case.topology part old.marks))) → HasTurned old new more
    by_asked None done may = turned-asked old new None more done (λ told. tt)
    by_asked (Some asked) done may = turned-asked old new (Some asked) more done (λ told.
        asked-next old node at told lawful part is (exact told) (quiet told) settled asked may)

-- and where none does, no timer of the part is due
pub fire-quiet : (old new : BookView) (node : NodeView) (part : ℕ) (more : Bool) → IsAtWork old node → IsLawful old.case (core_of old)
    → IsSome old.rows → IsComputation old.case.topology part → AreExact old
    → ((earlier : ℕ) → earlier < part → IsQuietAt old.case old.history earlier)
    → HasAskedOne old new (MayAskFire old.case node part (least (marks_of old.case.topology part old.marks))) more → more ≡ false
    → IsQuietAt old.case old.history part
fire-quiet old new node part more at lawful told is exact quiet done none_more =
    quiet-here old node at told lawful part is exact quiet (done.none (by_none done.asked (done.done.is_more ∙ none_more)))
  where
    by_none : (asked : Option Request) → is_some asked ≡ false → asked ≡ None
    by_none None e = refl
    by_none (Some a) e = absurd (cc)
