-- The example of a spike, worked by hand, handler by handler. Nine records of the key a fill three windows of
-- 60, with 1, 1 and 7 records; or five records, with 1, 1 and 3. A spike compares a total with the two before
-- it: it is produced where it is above three times their mean, so where twice it is above three times their
-- sum.
use Rattle.std.specs.Prelude.{ℕ, pos, false, ℤ, List, [], ◌∷◌, fold, drop, true}
use Rattle.mw_types.specs.declared.kind.Kind.{Kind}
use Rattle.mw_types.specs.declared.kind.Kind.TheVariants as kinds
use Rattle.mw_types.specs.declared.state.State.{State}
use Rattle.mw_types.specs.declared.state.State.TheVariants as states
use Rattle.mw_types.specs.Outcomes.{EffectsView}
use Rattle.computations.specs.Handlers.{fresh_state, effects_of, OfRecord, OfTimer}
use Rattle.worked_examples.specs.First.{key_a, record_at, end_of, window}

-- the kind of the count
abbrev pub counts_kind : Kind
counts_kind = kinds.Count 60

-- the kind of the spike
abbrev pub spikes_kind : Kind
spikes_kind = kinds.Spike 2 3

-- the timestamps of the nine records
abbrev pub nine_stamps : List ℕ
nine_stamps = 0 ∷ 60 ∷ 120 ∷ 121 ∷ 122 ∷ 123 ∷ 124 ∷ 125 ∷ 126 ∷ []

-- the timestamps of the five records
abbrev pub five_stamps : List ℕ
five_stamps = 0 ∷ 60 ∷ 120 ∷ 121 ∷ 122 ∷ []

-- what the count leaves of a record
abbrev pub taken_in : State → ℕ → EffectsView
taken_in state stamp = effects_of counts_kind key_a state (OfRecord (record_at stamp))

-- the state of the count once records of these timestamps are handled, one after another
abbrev pub counted_at : List ℕ → State
counted_at stamps = fold (λ state stamp. (taken_in state stamp).state) (fresh_state counts_kind) stamps

-- the state of the count that has the three windows, but for the first so many; the last has so many records
abbrev pub open_from : ℕ → ℕ → State
open_from closed last = states.Count 0 (drop closed (window 60 1 ∷ window 120 1 ∷ window 180 last ∷ []))

-- what the count leaves of a late record
abbrev pub late_in : State → ℕ → EffectsView
late_in state stamp = effects_of counts_kind key_a state
    (OfRecord (record { key = key_a; stamp = stamp; value = pos 1; late = true }))

-- what the count leaves of the timer that ends a window
abbrev pub closed_at : State → ℕ → EffectsView
closed_at state end = effects_of counts_kind key_a state (OfTimer (end_of end))

-- a spike that holds this total, and knows these
abbrev pub holding : ℕ → ℕ → List ℤ → State
holding stamp value known = states.Spike 0 (record { stamp = stamp; value = pos value } ∷ []) known

-- a spike that holds no total, and knows these
abbrev pub knowing : List ℤ → State
knowing known = states.Spike 0 [] known

-- what the spike leaves of the record of a window's total
abbrev pub held_at : State → ℕ → ℕ → EffectsView
held_at state stamp value = effects_of spikes_kind key_a state
    (OfRecord (record { key = key_a; stamp = stamp; value = pos value; late = false }))

-- what it leaves of such a record that is late
abbrev pub late_at : State → ℕ → ℕ → EffectsView
late_at state stamp value = effects_of spikes_kind key_a state
    (OfRecord (record { key = key_a; stamp = stamp; value = pos value; late = true }))

-- what the spike leaves of the timer that is due one microsecond after a total
abbrev pub due_at : State → ℕ → EffectsView
due_at state time = effects_of spikes_kind key_a state (OfTimer (end_of time))

-- the state with one timer set
abbrev pub sets : State → ℕ → EffectsView
sets state time = record { state = state; timers = end_of time ∷ []; productions = [] }

-- the state, and nothing set or produced
abbrev pub keeps : State → EffectsView
keeps state = record { state = state; timers = []; productions = [] }

-- the state with one record of the key a produced
abbrev pub produces : State → ℕ → ℕ → EffectsView
produces state stamp value = record {
  state = state;
  timers = [];
  productions = record { key = key_a; stamp = stamp; value = pos value } ∷ [];
}
