-- How a topology is freed of its weak computations, and which of them a record still comes through. Own.
-- Whoever reads the stream of a weak computation reads instead, at that place and by its own extractor, each
-- stream that the weak one reads, one after the other. The last weak one in the file is taken out first: what its
-- readers then read may again be a weak stream, which goes in its turn. Weak computations are counted apart from
-- the parts, from 0 on, as they come in the file.
use Rattle.std.specs.Prelude.{ℕ, suc, ◌%◌, ◌&&◌, ◌||◌, not, nat_le, nat_eq, Bool, if◌then◌else◌, List, [], ◌∷◌, length, map, filter, sum_by, slice_get, unwrap_or, count_by}
use Rattle.std.specs.List.{list_any, list_all, flat_map, range_with_len}
use Rattle.std.specs.Cmp.Lexicographic.{pointwise}
use Rattle.topology.specs.Shapes.{Shape, ComputationShape, Reading, parts_of, stream_of}

-- ---- what a reading becomes

-- a reading, and the weak computations that its records come through on their way to it, in that order
pub record Way : Type 0 where
  pub reading : Reading
  pub passed : List ℕ

-- a computation that stays, and what has become of its readings, in their order
pub record Strong : Type 0 where
  pub computation : ComputationShape
  pub ways : List Way

-- a reading as the file has it, to which records come straight
abbrev pub way_of : Reading → Way
way_of stated = record { reading = stated; passed = [] }

-- a way that begins one weak computation further up, at a stream which this one reads
abbrev pub way_past : ℕ → Way → Reading → Way
way_past number way source = record {
  reading = record way.reading { stream = source.stream };
  passed = number ∷ way.passed;
}

-- the ways that stand for one when a weak computation is taken out: only a way from its stream is replaced
abbrev pub way_through : ℕ → ComputationShape → Way → List Way
way_through number gone way =
    if pointwise nat_eq way.reading.stream gone.stream then map (way_past number way) gone.reads else way ∷ []

-- so it is with all ways of a computation
abbrev pub strong_through : ℕ → ComputationShape → Strong → Strong
strong_through number gone reader = record reader { ways = flat_map (way_through number gone) reader.ways }

-- a computation that stays, before anything is taken out
abbrev pub strong_as : ComputationShape → Strong
strong_as stated = record { computation = stated; ways = map way_of stated.reads }

-- what stays of these computations, where this is the number that their first weak one has
abbrev pub strong_from : ℕ → List ComputationShape → List Strong
strong_from number [] = []
strong_from number (first ∷ rest) = if first.weak
    then map (strong_through number first) (strong_from (suc number) rest)
    else strong_as first ∷ strong_from number rest

-- ---- the topology without them

-- a computation that stays, with the readings that it has in the end
abbrev pub left_of : Strong → ComputationShape
left_of reader = record reader.computation { reads = map (λ (way : Way). way.reading) reader.ways }

-- the same injectors, and the computations that stay
abbrev pub folded : Shape → Shape
folded shape = record shape { computations = map left_of (strong_from 0 shape.computations) }

-- ---- where this may be done

-- how many readings there are in the end
abbrev pub way_count : List Strong → ℕ
way_count readers = sum_by (λ (reader : Strong). length reader.ways) readers

-- one of these readings is of this stream
abbrev pub are_reading : List Reading → List ℕ → Bool
are_reading reads stream = list_any (λ (read : Reading). pointwise nat_eq read.stream stream) reads

-- one of these computations reads this stream
abbrev pub is_read : List ComputationShape → List ℕ → Bool
is_read readers stream = list_any (λ (reader : ComputationShape). are_reading reader.reads stream) readers

-- none of them is weak but that one of them reads its stream
abbrev pub are_weak_read : List ComputationShape → Bool
are_weak_read all = list_all (λ (one : ComputationShape). not one.weak || is_read all one.stream) all

-- no weak computation is without a reader, and in the end there are no more than 64 readings
abbrev pub is_foldable : Shape → Bool
is_foldable shape = are_weak_read shape.computations && nat_le (way_count (strong_from 0 shape.computations)) 64

-- ---- which of them a record comes through

-- part by part, for each consumer that a part then has, the weak computations before it; and how many there were
pub record RoutesView : Type 0 where
  pub by_part : List (List (List ℕ))
  pub weaks : ℕ

-- what lies on those of these ways that begin at a stream
abbrev pub passed_from : List ℕ → List Way → List (List ℕ)
passed_from stream ways =
    map (λ (way : Way). way.passed) (filter (λ (way : Way). pointwise nat_eq way.reading.stream stream) ways)

-- what lies between a stream and each of its consumers, as consumers are counted
abbrev pub routes_to : List Strong → List ℕ → List (List ℕ)
routes_to readers stream = flat_map (λ (reader : Strong). passed_from stream reader.ways) readers

-- the number of weak ones among these
abbrev pub weak_count : List ComputationShape → ℕ
weak_count all = count_by (λ (one : ComputationShape). one.weak) all

-- this of a whole topology, by the part numbers that its parts have in the end
abbrev pub routes_in : Shape → RoutesView
routes_in shape = record {
  by_part = map (λ number. routes_to (strong_from 0 shape.computations) (stream_of (folded shape) number))
      (range_with_len 0 (parts_of (folded shape)));
  weaks = weak_count shape.computations;
}

-- consumers take turns: the route to the one whose turn an index is, or none where there is no consumer
abbrev pub route_at_turn : List (List ℕ) → ℕ → List ℕ
route_at_turn [] turn = []
route_at_turn (first ∷ others) turn = unwrap_or (slice_get (first ∷ others) (turn % length (first ∷ others))) []

-- what a record comes through, by the part that sent it and the index in its id
abbrev pub route_in : RoutesView → ℕ → ℕ → List ℕ
route_in routes sender index = route_at_turn (unwrap_or (slice_get routes.by_part sender) []) index
