-- What the handlers of each kind leave of a record or a timer, by the row's key and its state.
-- Akidau et al., VLDB 2013, section 4.1, has such handlers of a computation; what each kind does is our own.
-- A count counts each key's records in windows, and produces a window's count when the window's timer fires.
-- A spike holds each total until its timer fires, and produces it where it is far above those before it.
-- A pass produces each record again, also a late one.
-- Each kind counts its late records; to a count and a spike a late record brings nothing else.
-- A timer that a record sets has the tag 0, and is late where the record is.
use Rattle.std.specs.Prelude.{ℕ, ◌+◌, ◌-◌, ◌%◌, min, Bool, true, false, not, ◌==◌, ◌&&◌, if◌then◌else◌}
use Rattle.std.specs.Prelude.{List, [], ◌∷◌, ◌++◌, length, drop, filter, find, fold, Option, None, Some}
use Rattle.std.specs.Prelude.{ℤ, pos, ◌+ℤ◌, ◌*ℤ◌, int_lt}
use Rattle.std.specs.Int.{int_max}
use Rattle.std.specs.Ordering.{nat_cmp, match_ordering}
use Rattle.mw_types.specs.declared.TheConstants.{MAX_STAMP}
use Rattle.mw_types.specs.declared.kind.Kind.{Kind}
use Rattle.mw_types.specs.declared.kind.Kind.TheVariants as kinds
use Rattle.mw_types.specs.declared.state.State.{State}
use Rattle.mw_types.specs.declared.state.State.TheVariants as states
use Rattle.mw_types.specs.declared.state.Window.{Window}
use Rattle.mw_types.specs.declared.state.HeldTotal.{HeldTotal}
use Rattle.mw_types.specs.declared.record.Record.{Record}
use Rattle.mw_types.specs.declared.record.Production.{Production}
use Rattle.mw_types.specs.declared.timer.Timer.{Timer}
use Rattle.mw_types.specs.Outcomes.{EffectsView}

-- what a handler is called for: a record, or a timer that fires
pub data Cause : Type 0 where
  OfRecord : Record → Cause
  OfTimer : Timer → Cause

-- the timestamp of a cause
abbrev pub stamp_of : Cause → ℕ
stamp_of (OfRecord item) = item.stamp
stamp_of (OfTimer timer) = timer.time

-- whether a cause is late
abbrev pub is_late_cause : Cause → Bool
is_late_cause (OfRecord item) = item.late
is_late_cause (OfTimer timer) = timer.late

-- whether a cause is a record
abbrev pub is_record : Cause → Bool
is_record (OfRecord item) = true
is_record (OfTimer timer) = false

-- the state with which a row begins: no late record, no open window, no held total and no known one
abbrev pub fresh_state : Kind → State
fresh_state (kinds.Count size) = states.Count 0 []
fresh_state (kinds.Spike last times) = states.Spike 0 [] []
fresh_state kinds.Pass = states.Pass 0

-- whether a state is one that a row of this kind may have
abbrev pub has_kind : Kind → State → Bool
has_kind (kinds.Count size) (states.Count late windows) = true
has_kind (kinds.Spike last times) (states.Spike late held known) = true
has_kind kinds.Pass (states.Pass late) = true
has_kind _ _ = false

-- a number of records after one more; it goes no further than the greatest timestamp, which is 2^63 - 1
abbrev pub one_more : ℕ → ℕ
one_more count = min (count + 1) MAX_STAMP

-- the outcome with this state, and with no timer and no production
abbrev pub unchanged : State → EffectsView
unchanged state = record { state = state; timers = []; productions = [] }

-- the outcome with this state and with one timer, which is due at this time and late where the record is
abbrev pub outcome_with_timer : State → ℕ → Record → EffectsView
outcome_with_timer state time item =
    let timer : Timer = record { tag = 0; time = time; late = item.late } in
    record { state = state; timers = timer ∷ []; productions = [] }

-- the outcome with this state and with one production
abbrev pub outcome_with_record : State → List ℕ → ℕ → ℤ → EffectsView
outcome_with_record state key stamp value =
    let produced : Production = record { key = key; stamp = stamp; value = value } in
    record { state = state; timers = []; productions = produced ∷ [] }

-- where the window of a timestamp ends: at the next multiple of its size,
-- or at the greatest timestamp if that is less
abbrev pub window_end : ℕ → ℕ → ℕ
window_end size stamp = min (stamp - stamp % size + size) MAX_STAMP

-- a list that ascends by a number, with this element put in where its number belongs;
-- where an element with this number is there already, that one is changed instead
abbrev pub entered : {X : Type 0} → (X → ℕ) → X → (X → X) → List X → List X
entered number x change [] = x ∷ []
entered number x change (y ∷ ys) = match_ordering (nat_cmp (number x) (number y))
    (x ∷ y ∷ ys)
    (change y ∷ ys)
    (y ∷ entered number x change ys)

-- the windows with one more record in the one that ends there; where none does, one with 1 record is new
abbrev pub counted : List Window → ℕ → List Window
counted windows end =
    let new : Window = record { end = end; count = 1 } in
    entered (λ w. w.end) new (λ w. record w { count = one_more w.count }) windows

-- a count takes a record into its window, and sets a timer for the window's end;
-- a late record only counts as late
abbrev pub count_record : ℕ → ℕ → List Window → Record → EffectsView
count_record size late windows item = if item.late
    then unchanged (states.Count (one_more late) windows)
    else let end = window_end size item.stamp in
    outcome_with_timer (states.Count late (counted windows end)) end item

-- the open window that ends at the timer's time, where the timer has the tag 0
abbrev pub window_due : List Window → Timer → Option Window
window_due windows timer = if timer.tag == 0 then find (λ w. w.end == timer.time) windows else None

-- a window that is due is closed, and its count is produced under the row's key;
-- where none is due, nothing changes
abbrev pub count_timer : List ℕ → ℕ → List Window → Option Window → EffectsView
count_timer key late windows None = unchanged (states.Count late windows)
count_timer key late windows (Some due) =
    let rest = filter (λ w. not (w.end == due.end)) windows in
    outcome_with_record (states.Count late rest) key due.end (pos due.count)

-- when the total of a timestamp is due: one microsecond after it,
-- or at the greatest timestamp if that is less
abbrev pub due_time : ℕ → ℕ
due_time stamp = min (stamp + 1) MAX_STAMP

-- the totals held, with this one; of two at one timestamp the greater stays
abbrev pub held_with : List HeldTotal → ℕ → ℤ → List HeldTotal
held_with held stamp value =
    let new : HeldTotal = record { stamp = stamp; value = value } in
    entered (λ h. h.stamp) new (λ h. record h { value = int_max h.value value }) held

-- a spike holds a record's value as a total, and sets a timer for when it is due;
-- a late record only counts as late
abbrev pub spike_record : ℕ → List HeldTotal → List ℤ → Record → EffectsView
spike_record late held known item = if item.late
    then unchanged (states.Spike (one_more late) held known)
    else let due = due_time item.stamp in
    outcome_with_timer (states.Spike late (held_with held item.stamp item.value) known) due item

-- the first held total that is due at the timer's time, where the timer has the tag 0
abbrev pub total_due : List HeldTotal → Timer → Option HeldTotal
total_due held timer = if timer.tag == 0 then find (λ h. due_time h.stamp == timer.time) held else None

-- a value is a spike where the last so many totals are known and it is above so many times their mean:
-- the factor times their sum is below the value times their number
abbrev pub is_spike : ℕ → ℕ → List ℤ → ℤ → Bool
is_spike last times known value = (length known == last)
    && int_lt (pos times *ℤ fold (λ sum x. sum +ℤ x) (pos 0) known) (value *ℤ pos last)

-- the known totals with this one after them, and of these only the last so many
abbrev pub known_with : ℕ → List ℤ → ℤ → List ℤ
known_with last known value = let all = known ++ value ∷ [] in drop (length all - last) all

-- a total that is due is no longer held but known, and is produced under the row's key where it is a spike;
-- where none is due, nothing changes
abbrev pub spike_timer : ℕ → ℕ → List ℕ → ℕ → List HeldTotal → List ℤ → Option HeldTotal → EffectsView
spike_timer last times key late held known None = unchanged (states.Spike late held known)
spike_timer last times key late held known (Some due) =
    let rest = filter (λ h. not (h.stamp == due.stamp)) held in
    let state = states.Spike late rest (known_with last known due.value) in
    if is_spike last times known due.value
    then outcome_with_record state key (due_time due.stamp) due.value
    else unchanged state

-- a pass produces each record again, under the record's own key, and counts the late ones
abbrev pub pass_record : ℕ → Record → EffectsView
pass_record late item =
    let state = states.Pass (if item.late then one_more late else late) in
    outcome_with_record state item.key item.stamp item.value

-- what a part of this kind leaves of a cause, by its row's key and state
abbrev pub effects_of : Kind → List ℕ → State → Cause → EffectsView
effects_of (kinds.Count size) key (states.Count late windows) (OfRecord item) =
    count_record size late windows item
effects_of (kinds.Count size) key (states.Count late windows) (OfTimer timer) =
    count_timer key late windows (window_due windows timer)
effects_of (kinds.Spike last times) key (states.Spike late held known) (OfRecord item) =
    spike_record late held known item
effects_of (kinds.Spike last times) key (states.Spike late held known) (OfTimer timer) =
    spike_timer last times key late held known (total_due held timer)
effects_of kinds.Pass key (states.Pass late) (OfRecord item) = pass_record late item
effects_of _ _ state _ = unchanged state
