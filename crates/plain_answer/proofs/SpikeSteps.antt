-- What the handlers of a spike leave of a row, and the places that its records bring.
use Rattle.std.proofs.Common.{◌≡◌, ℕ, ◌+◌, ◌<◌, ◌==◌, ◌&&◌, not, Bool, true, false, cond, List, [], ◌∷◌, ◌++◌, length, map, filter, find, fold, ℤ, Option, Some, None, refl, sym, ◌∙◌, ap, subst, arith}
use Rattle.std.specs.Prelude.{nat_le, pos, int_lt, ◌*ℤ◌}
use Rattle.std.specs.List.{AllByRecursion}
use Rattle.std.specs.BTreeMap.{is_at}
use Rattle.std.proofs.lemmas.Bool.{eq-eqb}
use Rattle.std.proofs.lemmas.List.Sums.{fold-append}
use Rattle.mw_types.specs.declared.TheConstants.{MAX_STAMP}
use Rattle.mw_types.specs.declared.identity.RowName.{RowName}
use Rattle.mw_types.specs.declared.kind.Kind.TheVariants as kinds
use Rattle.mw_types.specs.declared.state.State.{State}
use Rattle.mw_types.specs.declared.state.State.TheVariants as states
use Rattle.mw_types.specs.declared.state.HeldTotal.{HeldTotal}
use Rattle.mw_types.specs.declared.record.Record.{Record}
use Rattle.mw_types.specs.declared.record.Production.{Production}
use Rattle.mw_types.specs.declared.timer.Timer.{Timer}
use Rattle.mw_types.specs.declared.delivery.Delivery.{Delivery}
use Rattle.mw_types.specs.Orders.{row_cmp}
use Rattle.mw_types.specs.Outcomes.{EffectsView}
use Rattle.computations.specs.Handlers.{one_more, due_time, held_with, spike_record, spike_timer, total_due, is_spike, known_with, unchanged, outcome_with_timer, outcome_with_record, effects_of, OfRecord, OfTimer}
use Rattle.run_history.specs.Made.{produced}
use Rattle.plain_answer.specs.Plain.{sum_of_last, spike_at}
use Rattle.plain_answer.specs.Places.{with_place}
use Rattle.plain_answer.proofs.Places.{held_timer, Climb, AreLow, first-total, lastly, lastly-push, enough-known}

-- ---- handlers

-- a spike produces nothing of a record
pub spike-nothing : (last times : ℕ) (key : List ℕ) (state : State) (item : Record)
    → (effects_of (kinds.Spike last times) key state (OfRecord item)).productions ≡ []
spike-nothing last times key (states.Spike late held known) item =
    elim item.late as (λ b. (cond b (unchanged (states.Spike (one_more late) held known))
    (outcome_with_timer (states.Spike late (held_with held item.stamp item.value) known) (due_time item.stamp) item)).productions ≡ []) [
      | true ↦ refl
      | false ↦ refl
    ]
spike-nothing last times key state item = refl

-- and of a timer only under its row's key
pub spike-key : (last times : ℕ) (key : List ℕ) (state : State) (timer : Timer)
    → AllByRecursion (λ (p : Production). p.key ≡ key)
    (effects_of (kinds.Spike last times) key state (OfTimer timer)).productions
spike-key last times key (states.Spike late held known) timer = by_due (total_due held timer)
  where
    by_due : (due : Option HeldTotal) → AllByRecursion (λ (p : Production). p.key ≡ key)
        (spike_timer last times key late held known due).productions
    by_due None = tt
    by_due (Some due) =
        elim (is_spike last times known due.value) as (λ b. AllByRecursion (λ (p : Production). p.key ≡ key)
        (cond b (outcome_with_record (states.Spike late (filter (λ (h : HeldTotal). not (h.stamp == due.stamp)) held)
        (known_with last known due.value)) key (due_time due.stamp) due.value)
        (unchanged (states.Spike late (filter (λ (h : HeldTotal). not (h.stamp == due.stamp)) held)
        (known_with last known due.value)))).productions) [
          | true ↦ (refl, tt)
          | false ↦ tt
        ]
spike-key last times key state timer = tt

-- the first total is the one that is due at its time
due-first : (h : HeldTotal) (hs : List HeldTotal) → total_due (h ∷ hs) (held_timer h) ≡ Some h
due-first h hs = ap (λ b. cond b (Some h) (find (λ (g : HeldTotal). due_time g.stamp == due_time h.stamp) hs))
    (eq-eqb (due_time h.stamp) (due_time h.stamp) refl)

-- one spike, and one timer
abbrev pub spike_record_at : List ℕ → ℕ → ℤ → List Record
spike_record_at key stamp value = record { key = key; stamp = stamp; value = value; late = false } ∷ []

-- one timer
abbrev pub timer_at : ℕ → Bool → List Timer
timer_at time late = record { tag = 0; time = time; late = late } ∷ []

-- what the timer of the first total leaves
pub record FiresFirst (last times : ℕ) (key : List ℕ) (late : ℕ) (hs : List HeldTotal) (values : List ℤ) (h : HeldTotal)
    (o : EffectsView) : Type 0 where
  pub state : o.state ≡ states.Spike late hs (lastly last (values ++ h.value ∷ []))
  pub productions : map (produced false) o.productions ≡ spike_at last times key values h.stamp h.value

-- that is what the handler does
pub fires-first : (last times : ℕ) (key : List ℕ) (late : ℕ) (h : HeldTotal) (hs : List HeldTotal) (values : List ℤ) → Climb (h ∷ hs)
    → AreLow (h ∷ hs)
    → FiresFirst last times key late hs values h (effects_of (kinds.Spike last times) key
    (states.Spike late (h ∷ hs) (lastly last values)) (OfTimer (held_timer h)))
fires-first last times key late h hs values up lows =
    subst (λ o. FiresFirst last times key late hs values h (spike_timer last times key late (h ∷ hs) (lastly last values) o))
    (sym (due-first h hs))
    (by_test (is_spike last times (lastly last values) h.value) (enough-known last times values h.value))
  where
    rest : State
    rest = states.Spike late (filter (λ (g : HeldTotal). not (g.stamp == h.stamp)) (h ∷ hs)) (known_with last (lastly last values) h.value)

    is_rest : rest ≡ states.Spike late hs (lastly last (values ++ h.value ∷ []))
    is_rest = λ i. states.Spike late (first-total h hs up i) (lastly-push last values h.value i)

    due : due_time h.stamp ≡ h.stamp + 1
    due = let low : h.stamp < MAX_STAMP = lows.0 in omega (arith, low)

    by_test : (b : Bool) → b ≡ (nat_le last (length values) && int_lt
        (pos times *ℤ Rattle.plain_answer.specs.Plain.sum_of_last last values) (h.value *ℤ pos last))
        → FiresFirst last times key late hs values h (cond b (outcome_with_record rest key (due_time h.stamp) h.value) (unchanged rest))
    by_test true e = record {
      state = is_rest;
      productions = ap (λ (n : ℕ). spike_record_at key n h.value) due
          ∙ ap (λ b. cond b (spike_record_at key (h.stamp + 1) h.value) []) e;
    }
    by_test false e = record {
      state = is_rest;
      productions = ap (λ b. cond b (spike_record_at key (h.stamp + 1) h.value) []) e;
    }

-- what a record in time leaves
pub record HoldsMore (late : ℕ) (held : List HeldTotal) (known : List ℤ) (item : Record) (o : EffectsView) : Type 0 where
  pub state : o.state ≡ states.Spike late (held_with held item.stamp item.value) known
  pub timers : o.timers ≡ record { tag = 0; time = due_time item.stamp; late = false } ∷ []

-- that is what the handler does
pub holds-more : (late : ℕ) (held : List HeldTotal) (known : List ℤ) (item : Record) → item.late ≡ false
    → HoldsMore late held known item (spike_record late held known item)
holds-more late held known item in_time =
    subst (λ b. HoldsMore late held known item (cond b (unchanged (states.Spike (one_more late) held known))
    (outcome_with_timer (states.Spike late (held_with held item.stamp item.value) known) (due_time item.stamp) item))) (sym in_time)
    (record { state = refl; timers = ap (λ (b : Bool). timer_at (due_time item.stamp) b) in_time })

-- what a late record leaves
pub holds-late : (late : ℕ) (held : List HeldTotal) (known : List ℤ) (item : Record) → item.late ≡ true
    → spike_record late held known item ≡ unchanged (states.Spike (one_more late) held known)
holds-late late held known item is_late =
    ap (λ b. cond b (unchanged (states.Spike (one_more late) held known))
    (outcome_with_timer (states.Spike late (held_with held item.stamp item.value) known) (due_time item.stamp) item)) is_late

-- ---- the records of a row

-- whether a row handles a delivery in time
abbrev pub is_mine : RowName → Delivery → Bool
is_mine name d = is_at (row_cmp name) d.to && not d.item.late

-- the place of a delivery
abbrev pub pair_of : Delivery → ℕ × ℤ
pair_of d = (d.item.stamp, d.item.value)

-- the places that it brings
abbrev pub pairs_of : RowName → List Delivery → List (ℕ × ℤ)
pairs_of name ds = map pair_of (filter (is_mine name) ds)

-- the places of two lists
pairs-append : (name : RowName) (one other : List Delivery) → pairs_of name (one ++ other) ≡ pairs_of name one ++ pairs_of name other
pairs-append name [] other = refl
pairs-append name (d ∷ ds) other = elim (is_mine name d) as
    (λ b. map pair_of (cond b (d ∷ filter (is_mine name) (ds ++ other)) (filter (is_mine name) (ds ++ other)))
    ≡ map pair_of (cond b (d ∷ filter (is_mine name) ds) (filter (is_mine name) ds)) ++ pairs_of name other) [
      | true ↦ ap (λ l. (d.item.stamp, d.item.value) ∷ l) (pairs-append name ds other)
      | false ↦ pairs-append name ds other
    ]

-- the places of a row so far
abbrev pub placed : RowName → List Delivery → List (ℕ × ℤ)
placed name ds = fold with_place [] (pairs_of name ds)

-- with what an entry handles
pub placed-push : (name : RowName) (ds new : List Delivery) → placed name (ds ++ new) ≡ fold with_place (placed name ds) (pairs_of name new)
placed-push name ds new = ap (fold with_place []) (pairs-append name ds new)
    ∙ fold-append with_place [] (pairs_of name ds) (pairs_of name new)
