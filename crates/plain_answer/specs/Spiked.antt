-- The places of a spike's rows, one member after another, as entries in order, and the spikes along them. No
-- clause of another crate cites this module. Own.
use Rattle.std.specs.Prelude.{ℕ, ℤ, ◌+◌, false, if◌then◌else◌, List, [], ◌∷◌, ◌++◌, fold, nat_eq}
use Rattle.std.specs.Option.{option_map_or}
use Rattle.std.specs.Int.{int_max}
use Rattle.std.specs.Cmp.Lexicographic.{pointwise}
use Rattle.std.specs.Map.{lookup}
use Rattle.std.specs.BTreeMap.{insert_entry, is_at}
use Rattle.mw_types.specs.declared.record.Record.{Record}
use Rattle.computations.specs.Handlers.{is_spike, known_with}
use Rattle.plain_answer.specs.Plain.{Keyed}
use Rattle.plain_answer.specs.Tallies.{window_cmp}

-- a place of a row, with the greatest value at it
abbrev pub Placed : Type 0
Placed = (List ℕ × ℕ) × ℤ

-- the greater of a value and the one that its place has, where it has one
abbrev pub greater_at : List Placed → List ℕ × ℕ → ℤ → ℤ
greater_at places place value = option_map_or (λ old. int_max old value) (lookup (is_at (window_cmp place)) places) value

-- with one member more: one in time is at its place
abbrev pub noted_with : List Placed → Keyed → List Placed
noted_with places m = if m.1.late then places
    else insert_entry window_cmp places (m.0, m.1.stamp) (greater_at places (m.0, m.1.stamp) m.1.value)

-- of all members
abbrev pub noted_of : List Keyed → List Placed
noted_of ms = fold noted_with [] ms

-- the last values of a row, where those at hand are of some row
abbrev pub known_of : List ℕ → List ℤ → List ℕ → List ℤ
known_of row known key = if pointwise nat_eq row key then known else []

-- a spike as the record that it gives
abbrev pub spike_given : Placed → Record
spike_given e = record { key = e.0.0; stamp = e.0.1 + 1; value = e.1; late = false }

-- the spike at a place, behind these last values of its row, if it is one
abbrev pub spike_of : ℕ → ℕ → List ℤ → Placed → List Record
spike_of last times known e = if is_spike last times known e.1 then spike_given e ∷ [] else []

-- the spikes along places, behind a row with these last values
abbrev pub spikes_along : ℕ → ℕ → List ℕ → List ℤ → List Placed → List Record
spikes_along last times row known [] = []
spikes_along last times row known (e ∷ es) =
    spike_of last times (known_of row known e.0.0) e
    ++ spikes_along last times e.0.0 (known_with last (known_of row known e.0.0) e.1) es
