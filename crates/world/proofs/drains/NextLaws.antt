-- A drain that has not ended has a next entry.
use Rattle.std.proofs.Common.{◌≡◌, ◌≢◌, ◌⊎◌, ℕ, ◌+◌, ◌≤◌, ◌-◌, Bool, true, false, cond, List, [], ◌∷◌, length, refl, sym, subst, arith, inl, inr, suc}
use Rattle.std.specs.Prelude.{Option, Some, None, IsSome, Contains, find, nat_le, pos}
use Rattle.std.specs.List.{AllByRecursion}
use Rattle.std.specs.Cmp.{IsTotalOrder, then_total, on_total, nat_cmp_total, tied_itself}
use Rattle.std.specs.Ordering.{is_gt, nat_cmp, ordering_then}
use Rattle.std.specs.declared.cmp.Ordering.{Ordering}
use Rattle.std.specs.declared.cmp.Ordering.TheVariants.{Less, Equal, Greater}
use Rattle.std.proofs.lemmas.Bool.{cases_lt, leb-true, le-leb}
use Rattle.std.proofs.lemmas.Map.Keys.{le_from_not_gt}
use Rattle.std.proofs.lemmas.List.Elements.{All-contains, All-from_recursion, All-contains_itself, recursion_from_All}
use Rattle.mw_types.specs.Orders.{id_cmp, row_cmp, timer_cmp, key_cmp}
use Rattle.mw_types.proofs.OrderLaws.{id_cmp-total, row_cmp-total, key_cmp-total}
use Rattle.mw_types.specs.declared.identity.RecordId.{RecordId}
use Rattle.mw_types.specs.declared.identity.RowName.{RowName}
use Rattle.mw_types.specs.declared.delivery.Delivery.{Delivery}
use Rattle.mw_types.specs.declared.timer.Timer.{Timer}
use Rattle.mw_types.specs.declared.state.State.TheVariants as states
use Rattle.mw_types.specs.declared.entry.Entry.{Entry}
use Rattle.mw_types.specs.declared.entry.Entry.TheVariants.{Claim, Inject, Handle, Fire, Ack, Purge}
use Rattle.mw_types.specs.Outcomes.{EffectsView}
use Rattle.topology.specs.Rules.{interval_count}
use Rattle.row_parts.specs.Orders.{timer_cmp-total}
use Rattle.row_parts.specs.Contents.{Contents, same_id, found_delivery}
use Rattle.run_history.specs.Cases.{CaseShape}
use Rattle.run_history.specs.Runs.{Run, run_of, row_of}
use Rattle.run_history.specs.Watermarks.{cursor_of, low_watermark}
use Rattle.run_history.specs.Legal.{floor_of}
use Rattle.run_history.specs.Finished.{all_pending, is_handled, injectors_left}
use Rattle.list_lemmas.proofs.Lists.{none_some, some_same, each-weaker, find-passes}
use Rattle.history_laws.proofs.IdLaws.{same_id-itself, same_id-true}
use Rattle.history_laws.proofs.LowLaws.{AreRowsInOrder, rows-in_order}
use Rattle.book.specs.Senders.{IsLeastSent}
use Rattle.world.specs.drains.Drains.{is_full, IsDue, HasClaimedAll, HasAcknowledged, HasFired, HasInjected, HasEnded, IsToHandle, IsNextEntry}
use Rattle.world.proofs.Firsts.{nil-rows}
use Rattle.world.proofs.drains.FirstItems.{first_of, Holds, IsFirst, none_or_first}

-- a list has no element, or begins with one
empty_or_not : {X : Type 0} (xs : List X) → (xs ≡ []) ⊎ ((x : X) × Contains xs x)
empty_or_not [] = inl refl
empty_or_not (x ∷ xs) = inr (x, (0, omega arith, refl))

-- what a search finds is an element that passes
pub find-has : {X : Type 0} (test : X → Bool) (xs : List X) (d : X) → find test xs ≡ Some d → Contains xs d
find-has test [] d found = absurd (none_some d found)
find-has test (x ∷ xs) d found =
    elim (test x) as (λ b. cond b (Some x) (find test xs) ≡ Some d → Contains (x ∷ xs) d) [
      | true ↦ λ f. (0, omega arith, some_same x d f)
      | false ↦ λ f. let later = find-has test xs d f in (suc later.0, omega (arith, later.1), later.2)
    ] found

-- where each element that a search passes over would pass, it finds one
find-some : {X : Type 0} (test : X → Bool) (xs : List X) → AllByRecursion (λ x. test x ≡ true → IsSome (find test xs)) xs
find-some test [] = tt
find-some test (x ∷ xs) =
    elim (test x) as (λ b. test x ≡ b
    → AllByRecursion (λ y. test y ≡ true → IsSome (cond b (Some x) (find test xs))) (x ∷ xs)) [
      | true ↦ λ e. (
        (λ _. refl),
        each-weaker (λ y. test y ≡ true → IsSome (find test xs)) (λ y. test y ≡ true → IsSome (Some x))
            (λ y some passes. refl) xs (find-some test xs),
      )
      | false ↦ λ e. ((λ passes. absurd (cc)), find-some test xs)
    ] refl

-- an element that passes is found, or another
has-found : {X : Type 0} (test : X → Bool) (xs : List X) (d : X) → Contains xs d → test d ≡ true → IsSome (find test xs)
has-found test xs d has = All-contains (λ x. test x ≡ true → IsSome (find test xs)) xs d
    (All-from_recursion (λ x. test x ≡ true → IsSome (find test xs)) xs (find-some test xs)) has

-- ---- the least of each kind

-- what is not after another in two orders together is not in the first
pub not_after-first : (o p : Ordering) → is_gt (ordering_then o p) ≡ false → is_gt o ≡ false
not_after-first Less p e = refl
not_after-first Equal p e = refl
not_after-first Greater p e = e

-- nor in the second, where the two tie in the first
pub not_after-second : (o p : Ordering) → o ≡ Equal → is_gt (ordering_then o p) ≡ false → is_gt p ≡ false
not_after-second o p tie e = subst (λ q. is_gt (ordering_then q p) ≡ false) tie e

-- due timers stand by part, time, tag and key
abbrev due_cmp : RowName × Timer → RowName × Timer → Ordering
due_cmp a b = ordering_then (nat_cmp a.0.part b.0.part) (ordering_then (timer_cmp a.1 b.1) (key_cmp a.0.key b.0.key))

-- in a total order
due_cmp-total : IsTotalOrder due_cmp
due_cmp-total = then_total (on_total (λ (a : RowName × Timer). a.0.part) nat_cmp_total)
    (then_total (on_total (λ (a : RowName × Timer). a.1) timer_cmp-total) (on_total (λ (a : RowName × Timer). a.0.key) key_cmp-total))

module _ (case : CaseShape) (run : Run) (order : AreRowsInOrder run) where
  -- ---- ids

  -- a delivery is pending in a row
  abbrev Pends : RowName → Delivery → Type 0
  Pends = Holds (λ (c : Contents). c.pending) (λ name d. true) case.topology run

  -- a delivery is pending, and of the least id
  abbrev IsFirstPending : RowName → Delivery → Type 0
  IsFirstPending = IsFirst (λ (c : Contents). c.pending) (λ name d. true) case.topology run
      (λ (a b : RowName × Delivery). id_cmp a.1.id b.1.id)

  -- nothing is pending where no row has anything pending
  none-pending : ((name : RowName) (d : Delivery) → Pends name d → ⊥) → all_pending run ≡ []
  none-pending none = nil-rows (λ (c : Contents). c.pending) case.topology run order
      (λ name. by_row name (empty_or_not (row_of case.topology run name).pending))
    where
      by_row : (name : RowName) → ((row_of case.topology run name).pending ≡ [])
          ⊎ ((d : Delivery) × Contains (row_of case.topology run name).pending d) → (row_of case.topology run name).pending ≡ []
      by_row name (inl is) = is
      by_row name (inr (d, has)) = absurd (none name d (record { has = has; kept = refl }))

  -- the least id that is pending is the least that was sent
  first-sent : (name : RowName) (d : Delivery) → IsFirstPending name d → IsLeastSent case.topology run d.id name
  first-sent name d first = record {
    pending = has-found (λ (e : Delivery). same_id e.id d.id) (row_of case.topology run name).pending d first.holds.has
        (same_id-itself d.id);
    least = λ other sender pending. by_found other sender (found_delivery other (row_of case.topology run sender).pending) refl pending;
  }
    where
      by_found : (other : RecordId) (sender : RowName) (o : Option Delivery)
          → found_delivery other (row_of case.topology run sender).pending ≡ o → IsSome o → is_gt (id_cmp d.id other) ≡ false
      by_found other sender None is some = absurd (cc)
      by_found other sender (Some e) is some =
          subst (λ id. is_gt (id_cmp d.id id) ≡ false)
          (same_id-true e.id other
          (find-passes (λ (f : Delivery). same_id f.id other) (row_of case.topology run sender).pending e is))
          (first.first sender e (record {
            has = find-has (λ (f : Delivery). same_id f.id other) (row_of case.topology run sender).pending e is;
            kept = refl;
          }))

  -- nothing is pending, or there is a least id
  none_or_sent : (all_pending run ≡ []) ⊎ ((id : RecordId) × (sender : RowName) × IsLeastSent case.topology run id sender)
  none_or_sent = by_case (none_or_first (λ (c : Contents). c.pending) (λ name d. true) case.topology run
      (λ (a b : RowName × Delivery). id_cmp a.1.id b.1.id) (on_total (λ (a : RowName × Delivery). a.1.id) id_cmp-total) order (λ s. refl))
    where
      by_case : ((name : RowName) (d : Delivery) → Pends name d → ⊥) ⊎ ((name : RowName) × (d : Delivery) × IsFirstPending name d)
          → (all_pending run ≡ []) ⊎ ((id : RecordId) × (sender : RowName) × IsLeastSent case.topology run id sender)
      by_case (inl none) = inl (none-pending none)
      by_case (inr (name, d, first)) = inr (d.id, name, first-sent name d first)

  -- ---- timers

  -- a set timer is due
  abbrev HasDue : RowName → Timer → Type 0
  HasDue = Holds (λ (c : Contents). c.timers) (λ name t. nat_le t.time (low_watermark case run name.part)) case.topology run

  -- a due timer is the first by part, time, tag and key
  abbrev IsFirstDue : RowName → Timer → Type 0
  IsFirstDue = IsFirst (λ (c : Contents). c.timers) (λ name t. nat_le t.time (low_watermark case run name.part)) case.topology run due_cmp

  -- the two words for a due timer say the same
  is-due : (name : RowName) (t : Timer) → HasDue name t → IsDue case run name t
  is-due name t has = record { set = has.has; due = leb-true t.time (low_watermark case run name.part) has.kept }

  -- and so the other way round
  has-due : (name : RowName) (t : Timer) → IsDue case run name t → HasDue name t
  has-due name t is = record { has = is.set; kept = le-leb t.time (low_watermark case run name.part) is.due }

  -- a due timer is of the first part that has one, and the least there
  pub record IsLeastDue (row : RowName) (timer : Timer) : Type 0 where
    pub due : IsDue case run row timer
    pub first : (other : RowName) (another : Timer) → IsDue case run other another → row.part ≤ other.part
    pub least : (other : RowName) (another : Timer) → IsDue case run other another → other.part ≡ row.part
        → is_gt (ordering_then (timer_cmp timer another) (key_cmp row.key other.key)) ≡ false

  -- a due timer that is the first is so by its part, and in its part
  first-due : (name : RowName) (t : Timer) → IsFirstDue name t → IsLeastDue name t
  first-due name t first = record {
    due = is-due name t first.holds;
    first = λ other u due. le_from_not_gt name.part other.part (not_after-first (nat_cmp name.part other.part)
        (ordering_then (timer_cmp t u) (key_cmp name.key other.key)) (first.first other u (has-due other u due)));
    least = λ other u due of. not_after-second (nat_cmp name.part other.part)
        (ordering_then (timer_cmp t u) (key_cmp name.key other.key))
        (subst (λ p. nat_cmp name.part p ≡ Equal) (sym of) (tied_itself nat_cmp_total name.part))
        (first.first other u (has-due other u due));
  }

  -- no timer is due, or there is a first
  pub none_or_due : ((row : RowName) (timer : Timer) → IsDue case run row timer → ⊥)
      ⊎ ((row : RowName) × (timer : Timer) × IsLeastDue row timer)
  none_or_due = by_case (none_or_first (λ (c : Contents). c.timers) (λ name t. nat_le t.time (low_watermark case run name.part))
      case.topology run due_cmp due_cmp-total order (λ s. refl))
    where
      by_case : ((name : RowName) (t : Timer) → HasDue name t → ⊥) ⊎ ((name : RowName) × (t : Timer) × IsFirstDue name t)
          → ((row : RowName) (timer : Timer) → IsDue case run row timer → ⊥)
          ⊎ ((row : RowName) × (timer : Timer) × IsLeastDue row timer)
      by_case (inl none) = inl (λ row timer due. none row timer (has-due row timer due))
      by_case (inr (name, t, first)) = inr (name, t, first-due name t first)

  -- ---- lines

  -- injectors stand by how many lines they have injected, and then by number
  abbrev pub lines_cmp : ℕ → ℕ → Ordering
  lines_cmp a b = ordering_then (nat_cmp (cursor_of case run a) (cursor_of case run b)) (nat_cmp a b)

  -- an injector that has a line left is the first
  abbrev pub IsFirstLeft : ℕ → Type 0
  IsFirstLeft part = Contains (injectors_left case run) part
      × ((other : ℕ) → Contains (injectors_left case run) other → is_gt (lines_cmp part other) ≡ false)

  -- no injector has a line left, or there is a first
  pub none_or_left : (injectors_left case run ≡ []) ⊎ ((part : ℕ) × IsFirstLeft part)
  none_or_left = by_list (injectors_left case run) refl
    where
      left : List ℕ
      left = injectors_left case run

      by_list : (xs : List ℕ) → left ≡ xs → (left ≡ []) ⊎ ((part : ℕ) × IsFirstLeft part)
      by_list [] is = inl is
      by_list (p ∷ ps) is =
          let each = subst (AllByRecursion (Contains left)) is (recursion_from_All (Contains left) left (All-contains_itself left)) in
          let first = first_of lines_cmp (then_total (on_total (cursor_of case run) nat_cmp_total) nat_cmp_total) (Contains left) p ps
          each.0 each.1 in
          inr (
            first.0,
            (
              first.1,
              λ other has. All-contains (λ y. is_gt (lines_cmp first.0 y) ≡ false) left other
                  (All-from_recursion (λ y. is_gt (lines_cmp first.0 y) ≡ false) left
                  (subst (AllByRecursion (λ y. is_gt (lines_cmp first.0 y) ≡ false)) (sym is) first.2)) has,
            ),
          )

  -- ---- seen ids

  -- a row has seen an id
  abbrev HasSeenId : RowName → RecordId → Type 0
  HasSeenId = Holds (λ (c : Contents). c.seen) (λ name id. true) case.topology run

  -- a row that has seen an id is the first by name
  abbrev IsFirstSeen : RowName → RecordId → Type 0
  IsFirstSeen = IsFirst (λ (c : Contents). c.seen) (λ name id. true) case.topology run (λ (a b : RowName × RecordId). row_cmp a.0 b.0)

  -- a row that has seen ids is the first by name, whatever the ids
  abbrev pub IsFirstRow : RowName → Type 0
  IsFirstRow row = ((row_of case.topology run row).seen ≢ [])
      × ((other : RowName) → (row_of case.topology run other).seen ≢ [] → is_gt (row_cmp row other) ≡ false)

  -- no row has seen an id, or there is a first
  pub none_or_seen : ((row : RowName) → (row_of case.topology run row).seen ≡ []) ⊎ ((row : RowName) × IsFirstRow row)
  none_or_seen = by_case (none_or_first (λ (c : Contents). c.seen) (λ name id. true) case.topology run
      (λ (a b : RowName × RecordId). row_cmp a.0 b.0) (on_total (λ (a : RowName × RecordId). a.0) row_cmp-total) order (λ s. refl))
    where
      by_row : (row : RowName) → ((id : RecordId) → HasSeenId row id → ⊥) → ((row_of case.topology run row).seen ≡ [])
          ⊎ ((id : RecordId) × Contains (row_of case.topology run row).seen id) → (row_of case.topology run row).seen ≡ []
      by_row row none (inl is) = is
      by_row row none (inr (id, has)) = absurd (none id (record { has = has; kept = refl }))

      by_other : (row other : RowName) (id : RecordId) → IsFirstSeen row id → (row_of case.topology run other).seen ≢ []
          → ((row_of case.topology run other).seen ≡ []) ⊎ ((x : RecordId) × Contains (row_of case.topology run other).seen x)
          → is_gt (row_cmp row other) ≡ false
      by_other row other id first some (inl is) = absurd (some is)
      by_other row other id first some (inr (x, has)) = first.first other x (record { has = has; kept = refl })

      by_case : ((name : RowName) (id : RecordId) → HasSeenId name id → ⊥) ⊎ ((name : RowName) × (id : RecordId) × IsFirstSeen name id)
          → ((row : RowName) → (row_of case.topology run row).seen ≡ []) ⊎ ((row : RowName) × IsFirstRow row)
      by_case (inl none) = inl (λ row. by_row row (none row) (empty_or_not (row_of case.topology run row).seen))
      by_case (inr (row, id, first)) = inr (
        row,
        (
          (λ is. let has = subst (λ l. Contains l id) is first.holds.has in let within = has.1 in omega (arith, within)),
          (λ other some. by_other row other id first some (empty_or_not (row_of case.topology run other).seen)),
        ),
      )

-- ---- the next entry

module _ (case : CaseShape) (from : ℕ) (history : List Entry) where
  -- what stands after the history
  abbrev run : Run
  run = run_of case.topology history

  -- its rows are in order
  order : AreRowsInOrder run
  order = rows-in_order case.topology history

  -- some entry comes next
  abbrev HasNext : Type 0
  HasNext = (entry : Entry) × IsNextEntry case from history entry

  -- some effects
  abbrev some_effects : EffectsView
  some_effects = record { state = states.Pass 0; timers = []; productions = [] }

  -- a record that is to be handled, by whether its row is full
  next-handle : (row : RowName) (id : RecordId) → IsToHandle case from history row id → (b : Bool)
      → is_full run (row_of case.topology run row) ≡ b → HasNext
  next-handle row id waits true is =
      (Purge 0 row (floor_of run), inl (record { id = id; waits = waits; full = is; to_floor = refl }))
  next-handle row id waits false is = (Handle 0 row id some_effects, record { waits = waits; room = is })

  -- the least id that is unacknowledged, by whether its record is handled
  next-sent : HasClaimedAll case from history → (id : RecordId) (sender : RowName) → IsLeastSent case.topology run id sender → HasNext
  next-sent claimed id sender least = by_handled (is_handled id history) refl
    where
      by_found : is_handled id history ≡ false → (o : Option Delivery)
          → found_delivery id (row_of case.topology run sender).pending ≡ o → IsSome o → HasNext
      by_found left None is some = absurd (cc)
      by_found left (Some d) is some = next-handle d.to id (record {
        earlier = claimed;
        sender = sender;
        least = least;
        delivery = d;
        sent = is;
        to_row = refl;
        unhandled = left;
      }) (is_full run (row_of case.topology run d.to)) refl

      by_handled : (b : Bool) → is_handled id history ≡ b → HasNext
      by_handled true is = (Ack 0 sender id, record { earlier = claimed; least = least; handled = is })
      by_handled false is = by_found is (found_delivery id (row_of case.topology run sender).pending) refl least.pending

  -- the last purges, or the end
  next-seen : HasInjected case from history → HasEnded case from history ⊎ HasNext
  next-seen done = by_case (none_or_seen case run order)
    where
      by_case : ((row : RowName) → (row_of case.topology run row).seen ≡ []) ⊎ ((row : RowName) × IsFirstRow case run order row)
          → HasEnded case from history ⊎ HasNext
      by_case (inl none) = inl (record { earlier = done; none_seen = none })
      by_case (inr (row, first)) = inr (
        Purge 0 row (floor_of run),
        inr (record {
          earlier = done;
          has = first.0;
          least = first.1;
          to_floor = refl;
        }),
      )

  -- a line, or what comes after the last
  next-line : HasFired case from history → HasEnded case from history ⊎ HasNext
  next-line done = by_case (none_or_left case run order)
    where
      by_case : (injectors_left case run ≡ []) ⊎ ((part : ℕ) × IsFirstLeft case run order part) → HasEnded case from history ⊎ HasNext
      by_case (inl none) = next-seen (record { earlier = done; none_left = none })
      by_case (inr (part, first)) = inr (
        Inject 0 part 0 (record { key = []; stamp = 0; value = pos 0; late = false }),
        record { earlier = done; left = first.0; least = first.1 },
      )

  -- a timer, or what comes after the last that is due
  next-timer : HasAcknowledged case from history → HasEnded case from history ⊎ HasNext
  next-timer done = by_case (none_or_due case run order)
    where
      by_case : ((row : RowName) (timer : Timer) → IsDue case run row timer → ⊥)
          ⊎ ((row : RowName) × (timer : Timer) × IsLeastDue case run order row timer) → HasEnded case from history ⊎ HasNext
      by_case (inl none) = next-line (record { earlier = done; none_due = none })
      by_case (inr (row, timer, is)) = inr (
        Fire 0 row timer (low_watermark case run row.part) some_effects,
        record {
          earlier = done;
          due = is.due;
          first = is.first;
          least = is.least;
          exact = refl;
        },
      )

  -- a record, or what comes after the last
  next-claimed : HasClaimedAll case from history → HasEnded case from history ⊎ HasNext
  next-claimed claimed = by_case (none_or_sent case run order)
    where
      by_case : (all_pending run ≡ []) ⊎ ((id : RecordId) × (sender : RowName) × IsLeastSent case.topology run id sender)
          → HasEnded case from history ⊎ HasNext
      by_case (inl none) = next-timer (record { claimed = claimed; none_pending = none })
      by_case (inr (id, sender, least)) = inr (next-sent claimed id sender least)

  -- a drain has ended, or some entry comes next
  pub ended_or_next : from ≤ length history → HasEnded case from history ⊎ HasNext
  ended_or_next after = elim (cases_lt (length history) (from + interval_count case.topology)) [
    | inl less ↦ inr (
      Claim 0 (length history - from),
      record {
        first_worker = refl;
        there = omega (arith, less, after);
        next = omega (arith, after);
      },
    )
    | inr claimed ↦ next-claimed claimed
  ]
