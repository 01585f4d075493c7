-- What a run is of: a topology, and a source for each of its injectors. Own.
use Rattle.std.specs.Prelude.{◌≡◌, ℕ, nat_lt, Bool, List, [], length, map, slice_get, unwrap_or}
use Rattle.std.specs.Option.{option_map_or}
use Rattle.mw_types.specs.declared.state.State.{State}
use Rattle.mw_types.specs.declared.state.State.TheVariants.{Injector}
use Rattle.mw_types.specs.declared.record.Record.{Record}
use Rattle.key_intervals.specs.declared.bounds.Bounds.{Bounds}
use Rattle.key_intervals.specs.Intervals.{bounds_of}
use Rattle.key_intervals.specs.Division.{Division, fresh}
use Rattle.injector.specs.declared.item.Item.{Item}
use Rattle.injector.specs.Sources.{Source}
use Rattle.topology.specs.Shapes.{Shape, injectors_of, kind_of, parts_of}
use Rattle.topology.specs.Rules.{part_cuts_of}
use Rattle.computations.specs.Handlers.{fresh_state}

-- a topology and the sources of its injectors, in their order
pub record CaseShape : Type 0 where
  pub topology : Shape
  pub sources : List Source

-- the intervals of keys into which the parts are cut, by number
abbrev pub intervals_of : Shape → List Bounds
intervals_of shape = bounds_of (part_cuts_of shape)

-- the intervals before any of them is split or merged, with how many parts and injectors there are
abbrev pub first_division : Shape → Division
first_division shape = record {
  parts = parts_of shape;
  injectors = injectors_of shape;
  given = map fresh (intervals_of shape);
}

-- a topology, a source for each of its injectors, and its intervals, none of which was split or merged
pub record IsCase (topology : Shape) (sources : List Source) (intervals : Division) : Type 0 where
  pub source_each : length sources ≡ injectors_of topology
  pub all_intervals : intervals ≡ first_division topology

-- whether a part is an injector
abbrev pub is_injector : Shape → ℕ → Bool
is_injector shape part = nat_lt part (injectors_of shape)

-- the source of an injector
abbrev pub source_of : CaseShape → ℕ → Source
source_of case part = unwrap_or (slice_get case.sources part) []

-- a record line as the record that it injects
abbrev pub record_of : Item → Record
record_of item = record { key = item.record_key; stamp = item.stamp; value = item.value; late = item.late }

-- the state that a row of a part has before any entry is on it
abbrev pub fresh_of : Shape → ℕ → State
fresh_of shape part = option_map_or fresh_state (kind_of shape part) (Injector 0)
