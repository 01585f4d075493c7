-- What a handler of each kind leaves keeps to what all keep to: lemmas, of which a reader needs none.
use Rattle.std.proofs.Common.{◌≡◌, ◌==◌, ◌≤◌, ◌+◌, ◌-◌, ◌^◌, not, ℕ, ℤ, pos, Bool, true, false, cond}
use Rattle.std.proofs.Common.{Option, Some, None, List, [], ◌∷◌, ◌++◌, length, find, filter, IfSome, refl, arith}
use Rattle.std.specs.Int.{int_max}
use Rattle.std.specs.Prelude.{int_lt}
use Rattle.std.specs.List.{AllByRecursion}
use Rattle.std.proofs.lemmas.Bool.Decides.{nat_tests}
use Rattle.std.proofs.lemmas.List.Elements.{All-from_recursion, recursion_from_All, All-append, All-drop, All-filter}
use Rattle.mw_types.specs.declared.TheConstants.{MAX_STAMP}
use Rattle.mw_types.specs.declared.kind.Kind.{Kind}
use Rattle.mw_types.specs.declared.kind.Kind.TheVariants as kinds
use Rattle.mw_types.specs.declared.state.State.{State}
use Rattle.mw_types.specs.declared.state.State.TheVariants as states
use Rattle.mw_types.specs.declared.state.Window.{Window}
use Rattle.mw_types.specs.declared.state.HeldTotal.{HeldTotal}
use Rattle.mw_types.specs.declared.record.Record.{Record}
use Rattle.mw_types.specs.declared.record.Production.{Production}
use Rattle.mw_types.specs.declared.timer.Timer.{Timer}
use Rattle.mw_types.specs.Kinds.{IsKind}
use Rattle.mw_types.specs.Bounds.{IsKey}
use Rattle.computations.specs.Handlers.{Cause, OfRecord, OfTimer, stamp_of, unchanged}
use Rattle.computations.specs.Handlers.{outcome_with_timer, outcome_with_record, one_more, window_end}
use Rattle.computations.specs.Handlers.{counted, count_record, window_due, count_timer, due_time, held_with}
use Rattle.computations.specs.Handlers.{spike_record, total_due, is_spike, known_with, spike_timer, pass_record}
use Rattle.computations.specs.Handlers.{effects_of}
use Rattle.computations.specs.Entering.{entered-recursion, length-entered, length-filter-le}
use Rattle.computations.specs.Bounded.{AreWindows-counted, AreWindows-others, AreHeld-held_with}
use Rattle.computations.specs.Bounded.{AreHeld-others, length-known_with}
use Rattle.computations.specs.Leaving.{Fits, HasValues, HasValue, HasKey}
use Rattle.computations.specs.Leaving.{IsProductionAfter, IsStateLeft, AreTimersLeft, AreProductionsLeft, Leaves}

-- ---- lists of none and of one

-- no timer is set
no_timers : (kind : Kind) (cause : Cause) → AreTimersLeft kind cause []
no_timers kind cause = record {
  each = λ ranged in_time. tt;
  few = omega arith;
  tags = tt;
  none = λ other. refl;
}

-- nothing is produced
no_productions : (kind : Kind) (key : List ℕ) (state : State) (cause : Cause) →
    AreProductionsLeft kind key state cause []
no_productions kind key state cause = record {
  each = λ ranged in_time. tt;
  few = omega arith;
  keys = λ is has. tt;
  values = λ values value. tt;
}

-- a record sets one timer, which is not before it
one_timer : (kind : Kind) (item : Record) (time : ℕ) →
    (IsKind kind → item.stamp ≤ MAX_STAMP →
    (item.stamp ≤ time) × (time ≤ MAX_STAMP) × (time ≤ item.stamp + 2 ^ 40)) →
    AreTimersLeft kind (OfRecord item) (record { tag = 0; time = time; late = item.late } ∷ [])
one_timer kind item time after = record {
  each = λ ranged in_time. (
    record {
      after = (after ranged in_time).0;
      in_time = (after ranged in_time).1;
      near = (after ranged in_time).2;
      as_late = refl;
    },
    tt,
  );
  few = omega arith;
  tags = (omega arith, tt);
  none = λ other. cc;
}

-- one record is produced
one_production : (kind : Kind) (key : List ℕ) (state : State) (cause : Cause) (p : Production) →
    (IsKind kind → stamp_of cause ≤ MAX_STAMP → IsProductionAfter cause p) →
    (IsKey key → HasKey cause → IsKey p.key) → (HasValues state → HasValue cause → Fits p.value) →
    AreProductionsLeft kind key state cause (p ∷ [])
one_production kind key state cause p after is_key fits = record {
  each = λ ranged in_time. (after ranged in_time, tt);
  few = omega arith;
  keys = λ is has. (is_key is has, tt);
  values = λ values value. (fits values value, tt);
}

-- ---- what each kind leaves

-- nothing changes
unchanged-leaves : (kind : Kind) (key : List ℕ) (state : State) (cause : Cause) →
    Leaves kind key state cause (unchanged state)
unchanged-leaves kind key state cause = record {
  left = record {
    size = omega arith;
    kept = λ of. of;
    within = λ ranged of in_time within short. within;
    values = λ values value. values;
  };
  timers = no_timers kind cause;
  productions = no_productions kind key state cause;
}

-- what is found passes the test, and is as each is
find-as : {X : Type 0} (P : X → Type 0) (test : X → Bool) (xs : List X) → AllByRecursion P xs →
    IfSome (find test xs) P
find-as P test [] each = tt
find-as P test (x ∷ xs) each =
    elim (test x) as (λ b. IfSome (cond b (Some x) (find test xs)) P)
    [ true ↦ each.0 | false ↦ find-as P test xs each.1 ]

-- what a search by a number finds has the number
pub find-number : {X : Type 0} (number : X → ℕ) (n : ℕ) (xs : List X) →
    IfSome (find (λ x. number x == n) xs) (λ x. number x ≡ n)
find-number number n [] = tt
find-number number n (x ∷ xs) =
    elim (number x == n) as (λ b. (number x == n) ≡ b →
    IfSome (cond b (Some x) (find (λ x. number x == n) xs)) (λ x. number x ≡ n)) [
      | true ↦ λ e. grind (arith, nat_tests)
      | false ↦ λ e. find-number number n xs
    ] refl

-- what is found only where a test passes
found-if : {X : Type 0} (P : X → Type 0) (b : Bool) (found : Option X) → IfSome found P →
    IfSome (cond b found None) P
found-if P true found is = is
found-if P false found is = tt

-- a window ends after each of its timestamps, but for the greatest
window_end-after : (size stamp : ℕ) → 1 ≤ size → stamp ≤ MAX_STAMP → stamp ≤ window_end size stamp
window_end-after size stamp one in_time = omega (arith, one, in_time)

-- a window ends by its size after each of its timestamps
window_end-near : (size stamp : ℕ) → size ≤ 2 ^ 40 → window_end size stamp ≤ stamp + 2 ^ 40
window_end-near size stamp most = omega (arith, most)

-- counts stay in range when one more record is counted
counted-values : (windows : List Window) (end : ℕ) →
    AllByRecursion (λ (w : Window). w.count ≤ MAX_STAMP) windows →
    AllByRecursion (λ (w : Window). w.count ≤ MAX_STAMP) (counted windows end)
counted-values windows end each =
    entered-recursion (λ (w : Window). w.end) (record { end = end; count = 1 })
    (λ (w : Window). record w { count = one_more w.count }) (λ (w : Window). w.count ≤ MAX_STAMP)
    (omega arith) (λ w is. omega arith) windows each

-- a count of a record
count_record-leaves : (size : ℕ) (key : List ℕ) (late : ℕ) (windows : List Window) (item : Record) →
    Leaves (kinds.Count size) key (states.Count late windows) (OfRecord item)
    (count_record size late windows item)
count_record-leaves size key late windows item =
    let kind = kinds.Count size in
    let cause = OfRecord item in
    let end = window_end size item.stamp in
    let more : length (counted windows end) ≤ length windows + 1 =
    length-entered (λ (w : Window). w.end) (record { end = end; count = 1 })
    (λ (w : Window). record w { count = one_more w.count }) windows in
    elim item.late as (λ b. Leaves kind key (states.Count late windows) cause
    (cond b (unchanged (states.Count (one_more late) windows))
    (outcome_with_timer (states.Count late (counted windows end)) end item))) [
      | true ↦ record {
        left = record {
          size = omega arith;
          kept = λ of. refl;
          within = λ ranged of in_time within short. (omega arith, within.1);
          values = λ values value. values;
        };
        timers = no_timers kind cause;
        productions = no_productions kind key (states.Count late windows) cause;
      }
      | false ↦ record {
        left = record {
          size = more;
          kept = λ of. refl;
          within = λ ranged of in_time within short.
              (within.0, AreWindows-counted windows end within.1 (omega arith) short);
          values = λ values value. counted-values windows end values;
        };
        timers = one_timer kind item end (λ ranged in_time. (
          window_end-after size item.stamp ranged.0 in_time,
          omega arith,
          window_end-near size item.stamp ranged.1,
        ));
        productions = no_productions kind key (states.Count late windows) cause;
      }
    ]

-- the window that is due ends at the timer's time
window_due-end : (windows : List Window) (timer : Timer) →
    IfSome (window_due windows timer) (λ w. w.end ≡ timer.time)
window_due-end windows timer =
    found-if (λ w. w.end ≡ timer.time) (timer.tag == 0) (find (λ w. w.end == timer.time) windows)
    (find-number (λ (w : Window). w.end) timer.time windows)

-- and its count is in range where all are
window_due-count : (windows : List Window) (timer : Timer) →
    AllByRecursion (λ (w : Window). w.count ≤ MAX_STAMP) windows →
    IfSome (window_due windows timer) (λ w. w.count ≤ MAX_STAMP)
window_due-count windows timer each =
    found-if (λ w. w.count ≤ MAX_STAMP) (timer.tag == 0) (find (λ w. w.end == timer.time) windows)
    (find-as (λ (w : Window). w.count ≤ MAX_STAMP) (λ w. w.end == timer.time) windows each)

-- what each element of a list is, each that stays is
filter-each : {X : Type 0} (P : X → Type 0) (test : X → Bool) (xs : List X) → AllByRecursion P xs →
    AllByRecursion P (filter test xs)
filter-each P test xs each =
    recursion_from_All P _ (All-filter test P xs (All-from_recursion P xs each))

-- a count of a timer
count_timer-leaves : (size : ℕ) (key : List ℕ) (late : ℕ) (windows : List Window) (timer : Timer)
    (due : Option Window) → IfSome due (λ w. w.end ≡ timer.time) →
    (AllByRecursion (λ (w : Window). w.count ≤ MAX_STAMP) windows →
    IfSome due (λ w. w.count ≤ MAX_STAMP)) →
    Leaves (kinds.Count size) key (states.Count late windows) (OfTimer timer)
    (count_timer key late windows due)
count_timer-leaves size key late windows timer None at small =
    unchanged-leaves (kinds.Count size) key (states.Count late windows) (OfTimer timer)
count_timer-leaves size key late windows timer (Some due) at small =
    let kind = kinds.Count size in
    let state = states.Count late windows in
    let cause = OfTimer timer in
    let p : Production = record { key = key; stamp = due.end; value = pos due.count } in record {
      left = record {
        size = omega (arith, length-filter-le (λ (w : Window). not (w.end == due.end)) windows);
        kept = λ of. refl;
        within = λ ranged of in_time within short. (within.0, AreWindows-others windows due.end within.1);
        values = λ values value. filter-each (λ (w : Window). w.count ≤ MAX_STAMP)
            (λ (w : Window). not (w.end == due.end)) windows values;
      };
      timers = no_timers kind cause;
      productions = one_production kind key state cause p
          (λ ranged in_time. record {
            after = omega (arith, at);
            in_time = omega (arith, at);
            near = omega (arith, at);
          }) (λ is has. is) (λ values value. let few = small values in omega (arith, few));
    }

-- the greater of two values is one of them
max-fits : (x y : ℤ) → Fits x → Fits y → Fits (int_max x y)
max-fits x y one other =
    elim (int_lt y x) as (λ b. Fits (cond b x y)) [ true ↦ one | false ↦ other ]

-- held values fit when one more is held
held-values : (held : List HeldTotal) (stamp : ℕ) (value : ℤ) → Fits value →
    AllByRecursion (λ (h : HeldTotal). Fits h.value) held →
    AllByRecursion (λ (h : HeldTotal). Fits h.value) (held_with held stamp value)
held-values held stamp value fits each =
    entered-recursion (λ (h : HeldTotal). h.stamp) (record { stamp = stamp; value = value })
    (λ (h : HeldTotal). record h { value = int_max h.value value }) (λ (h : HeldTotal). Fits h.value) fits
    (λ h is. max-fits h.value value is fits) held each

-- known values fit when one more is known
known-values : (last : ℕ) (known : List ℤ) (value : ℤ) → AllByRecursion Fits known → Fits value →
    AllByRecursion Fits (known_with last known value)
known-values last known value each fits =
    let all : List ℤ = known ++ value ∷ [] in
    recursion_from_All Fits _ (All-drop Fits (length all - last) all (All-append Fits known (value ∷ [])
    (All-from_recursion Fits known each) (All-from_recursion Fits (value ∷ []) (fits, tt))))

-- a spike of a record
spike_record-leaves : (last times : ℕ) (key : List ℕ) (late : ℕ) (held : List HeldTotal) (known : List ℤ)
    (item : Record) → Leaves (kinds.Spike last times) key (states.Spike late held known) (OfRecord item)
    (spike_record late held known item)
spike_record-leaves last times key late held known item =
    let kind = kinds.Spike last times in
    let state = states.Spike late held known in
    let cause = OfRecord item in
    let all = held_with held item.stamp item.value in
    let more : length all ≤ length held + 1 =
    length-entered (λ (h : HeldTotal). h.stamp) (record { stamp = item.stamp; value = item.value })
    (λ (h : HeldTotal). record h { value = int_max h.value item.value }) held in
    elim item.late as (λ b. Leaves kind key state cause
    (cond b (unchanged (states.Spike (one_more late) held known))
    (outcome_with_timer (states.Spike late all known) (due_time item.stamp) item))) [
      | true ↦ record {
        left = record {
          size = omega arith;
          kept = λ of. refl;
          within = λ ranged of in_time within short. (omega arith, within.1, within.2);
          values = λ values value. values;
        };
        timers = no_timers kind cause;
        productions = no_productions kind key state cause;
      }
      | false ↦ record {
        left = record {
          size = more;
          kept = λ of. refl;
          within = λ ranged of in_time within short. (
            within.0,
            AreHeld-held_with held item.stamp item.value within.1 in_time short,
            within.2,
          );
          values = λ values value. (held-values held item.stamp item.value value values.0, values.1);
        };
        timers = one_timer kind item (due_time item.stamp)
            (λ ranged in_time. (omega arith, omega arith, omega arith));
        productions = no_productions kind key state cause;
      }
    ]

-- the total that is due is due at the timer's time
total_due-time : (held : List HeldTotal) (timer : Timer) →
    IfSome (total_due held timer) (λ h. due_time h.stamp ≡ timer.time)
total_due-time held timer =
    found-if (λ h. due_time h.stamp ≡ timer.time) (timer.tag == 0)
    (find (λ h. due_time h.stamp == timer.time) held)
    (find-number (λ (h : HeldTotal). due_time h.stamp) timer.time held)

-- and its value fits where all do
total_due-value : (held : List HeldTotal) (timer : Timer) →
    AllByRecursion (λ (h : HeldTotal). Fits h.value) held → IfSome (total_due held timer) (λ h. Fits h.value)
total_due-value held timer each =
    found-if (λ h. Fits h.value) (timer.tag == 0) (find (λ h. due_time h.stamp == timer.time) held)
    (find-as (λ (h : HeldTotal). Fits h.value) (λ h. due_time h.stamp == timer.time) held each)

-- a spike of a timer
spike_timer-leaves : (last times : ℕ) (key : List ℕ) (late : ℕ) (held : List HeldTotal) (known : List ℤ)
    (timer : Timer) (due : Option HeldTotal) → IfSome due (λ h. due_time h.stamp ≡ timer.time) →
    (AllByRecursion (λ (h : HeldTotal). Fits h.value) held → IfSome due (λ h. Fits h.value)) →
    Leaves (kinds.Spike last times) key (states.Spike late held known) (OfTimer timer)
    (spike_timer last times key late held known due)
spike_timer-leaves last times key late held known timer None at small =
    unchanged-leaves (kinds.Spike last times) key (states.Spike late held known) (OfTimer timer)
spike_timer-leaves last times key late held known timer (Some due) at small =
    let kind = kinds.Spike last times in
    let state = states.Spike late held known in
    let cause = OfTimer timer in
    let rest = filter (λ h. not (h.stamp == due.stamp)) held in
    let left = states.Spike late rest (known_with last known due.value) in
    let p : Production = record { key = key; stamp = due_time due.stamp; value = due.value } in
    let of_state : IsStateLeft kind state cause left = record {
      size = omega (arith, length-filter-le (λ (h : HeldTotal). not (h.stamp == due.stamp)) held);
      kept = λ of. refl;
      within = λ ranged of in_time within short. (
        within.0,
        AreHeld-others held due.stamp within.1,
        (let most = ranged.1 in omega (arith, most, length-known_with last known due.value)),
      );
      values = λ values value. (
        filter-each (λ (h : HeldTotal). Fits h.value) (λ (h : HeldTotal). not (h.stamp == due.stamp)) held
            values.0,
        known-values last known due.value values.1 (small values.0),
      );
    } in
    elim (is_spike last times known due.value) as (λ b. Leaves kind key state cause
    (cond b (outcome_with_record left key (due_time due.stamp) due.value) (unchanged left))) [
      | true ↦ record {
        left = of_state;
        timers = no_timers kind cause;
        productions = one_production kind key state cause p
            (λ ranged in_time. record {
              after = omega (arith, at);
              in_time = omega (arith, at);
              near = omega (arith, at);
            }) (λ is has. is) (λ values value. small values.0);
      }
      | false ↦ record {
        left = of_state;
        timers = no_timers kind cause;
        productions = no_productions kind key state cause;
      }
    ]

-- a pass of a record
pass_record-leaves : (key : List ℕ) (late : ℕ) (item : Record) →
    Leaves kinds.Pass key (states.Pass late) (OfRecord item) (pass_record late item)
pass_record-leaves key late item =
    let cause = OfRecord item in
    let state = states.Pass late in
    let p : Production = record { key = item.key; stamp = item.stamp; value = item.value } in record {
      left = record {
        size = omega arith;
        kept = λ of. refl;
        within = λ ranged of in_time within short.
            elim item.late as (λ b. cond b (one_more late) late ≤ MAX_STAMP)
            [ true ↦ omega arith | false ↦ within ];
        values = λ values value. tt;
      };
      timers = no_timers kinds.Pass cause;
      productions = one_production kinds.Pass key state cause p
          (λ ranged in_time. record { after = omega arith; in_time = in_time; near = omega arith })
          (λ is has. has) (λ values value. value);
    }

-- what a handler of each kind leaves of a cause; where the state is not of the kind, nothing changes
pub effects-leave : (kind : Kind) (key : List ℕ) (state : State) (cause : Cause) →
    Leaves kind key state cause (effects_of kind key state cause)
effects-leave (kinds.Count size) key (states.Count late windows) (OfRecord item) =
    count_record-leaves size key late windows item
effects-leave (kinds.Count size) key (states.Count late windows) (OfTimer timer) =
    count_timer-leaves size key late windows timer (window_due windows timer) (window_due-end windows timer)
    (window_due-count windows timer)
effects-leave (kinds.Spike last times) key (states.Spike late held known) (OfRecord item) =
    spike_record-leaves last times key late held known item
effects-leave (kinds.Spike last times) key (states.Spike late held known) (OfTimer timer) =
    spike_timer-leaves last times key late held known timer (total_due held timer)
    (total_due-time held timer) (total_due-value held timer)
effects-leave kinds.Pass key (states.Pass late) (OfRecord item) = pass_record-leaves key late item
effects-leave kind key state cause = unchanged-leaves kind key state cause
