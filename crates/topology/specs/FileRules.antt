-- Which bytes are a topology file, and which rule other bytes break first. Own.
-- Each rule is tried on the whole file before the next.
use Rattle.std.specs.Prelude.{ℕ, ◌^◌, ◌&&◌, nat_le, nat_eq, Bool, true, List, [], ◌∷◌, length, take, sum_by, if◌then◌else◌, Result, Ok, Err}
use Rattle.std.specs.Option.{option_map_or}
use Rattle.std.specs.Ordering.{is_lt}
use Rattle.std.specs.List.{list_any, list_all, enumerate_from}
use Rattle.std.specs.Cmp.Lexicographic.{pointwise}
use Rattle.serde_json.specs.Data.{Data}
use Rattle.mw_types.specs.Orders.{key_cmp}
use Rattle.json_reading.specs.Texts.{json_of}
use Rattle.mw_types.specs.declared.kind.Kind.{Kind}
use Rattle.mw_types.specs.declared.kind.Kind.TheVariants.{Count, Spike, Pass}
use Rattle.topology.specs.Folding.{is_foldable}
use Rattle.topology.specs.Shapes.{Shape, ComputationShape, Reading, injectors_of, streams_of}
use Rattle.topology.specs.Rules.{is_name, all_differ, names_of, interval_count}
use Rattle.topology.specs.Grammar.{shape_in}
use Rattle.topology.specs.declared.refusal.TopologyRefusal.{TopologyRefusal}
use Rattle.topology.specs.declared.refusal.TopologyRefusal.TheVariants.{NotJson, BadShape, TooMany, BadName, DoubleName, DoubleStream, UnknownStream, BadNumber, BadCuts, BadWeak}

-- at most 16 injectors, 32 computations, 64 readings and 61 intervals
abbrev pub is_few : Shape → Bool
is_few shape =
    nat_le (length shape.injectors) 16
    && nat_le (length shape.computations) 32
    && nat_le (sum_by (λ (c : ComputationShape). length c.reads) shape.computations) 64
    && nat_le (interval_count shape) 61

-- the parts have names, and so have the streams that they publish
abbrev pub is_named : Shape → Bool
is_named shape = list_all is_name (names_of shape) && list_all is_name (streams_of shape)

-- whether a computation reads only what is among these streams
abbrev pub reads_among : List (List ℕ) → List Reading → Bool
reads_among streams reads = list_all (λ (r : Reading). list_any (pointwise nat_eq r.stream) streams) reads

-- each computation reads only what the parts before it publish
abbrev pub reads_above : Shape → Bool
reads_above shape =
    list_all (λ (p : ℕ × ComputationShape). reads_among (take p.0 (streams_of shape)) p.1.reads)
    (enumerate_from (injectors_of shape) shape.computations)

-- the numbers of a kind are in their ranges
abbrev pub in_range : Kind → Bool
in_range (Count size) = nat_le 1 size && nat_le size (2 ^ 40)
in_range (Spike last times) = nat_le 1 last && nat_le last 64 && nat_le 1 times && nat_le times 1000
in_range Pass = true

-- so are those of each computation
abbrev pub is_in_range : Shape → Bool
is_in_range shape = list_all (λ (c : ComputationShape). in_range c.kind) shape.computations

-- each cut is below those after it
abbrev pub is_ascending : List (List ℕ) → Bool
is_ascending [] = true
is_ascending (cut ∷ cuts) = list_all (λ later. is_lt (key_cmp cut later)) cuts && is_ascending cuts

-- whether a text may be a cut: 1 to 256 bytes
abbrev pub is_cut : List ℕ → Bool
is_cut text = nat_le 1 (length text) && nat_le (length text) 256

-- cuts have 1 to 256 bytes, and ascend
abbrev pub are_cuts : List (List ℕ) → Bool
are_cuts cuts = list_all is_cut cuts && is_ascending cuts

-- so do those of each computation
abbrev pub has_cuts : Shape → Bool
has_cuts shape = list_all (λ (c : ComputationShape). are_cuts c.cuts) shape.computations

-- what follows where a rule holds, or the refusal
abbrev pub where_holds : Bool → TopologyRefusal → Result Shape TopologyRefusal → Result Shape TopologyRefusal
where_holds holds refusal next = if holds then next else Err refusal

-- the last rule: a topology, unless its weak computations can't be taken out
abbrev pub where_foldable : Shape → Result Shape TopologyRefusal
where_foldable shape = where_holds (is_foldable shape) BadWeak (Ok shape)

-- the shape, where it keeps the rules, or the first that it breaks
abbrev pub checked : Shape → Result Shape TopologyRefusal
checked shape =
    where_holds (is_few shape) TooMany
    (where_holds (is_named shape) BadName
    (where_holds (all_differ (names_of shape)) DoubleName
    (where_holds (all_differ (streams_of shape)) DoubleStream
    (where_holds (reads_above shape) UnknownStream
    (where_holds (is_in_range shape) BadNumber
    (where_holds (has_cuts shape) BadCuts (where_foldable shape)))))))

-- the topology that a JSON value states, or the first rule that it breaks
abbrev pub topology_at : Data → Result Shape TopologyRefusal
topology_at value = option_map_or checked (shape_in value) (Err BadShape)

-- the topology that a file states, or the first rule that it breaks
abbrev pub topology_of : List ℕ → Result Shape TopologyRefusal
topology_of bytes = option_map_or topology_at (json_of bytes) (Err NotJson)
