-- What a `Topology` keeps beside its parts. No public clause cites this module.
use Rattle.std.specs.Prelude.{◌≡◌, ℕ, Bool, List, map, filter, nat_eq, if◌then◌else◌, Some, None}
use Rattle.std.specs.List.{filter_map, flat_map, enumerate_from, range_with_len}
use Rattle.std.specs.Cmp.Lexicographic.{pointwise}
use Rattle.topology.specs.declared.subscription.Subscription.{Subscription}
use Rattle.topology.specs.Shapes.{Shape, ComputationShape, Reading, subscriptions_to, injectors_of, parts_of, streams_of, consumers_of, feeds_of}
use Rattle.topology.specs.Rules.{IsTopology}

-- the numbers of the streams that pass a test, where the first has number n
abbrev pub numbers_from : (List ℕ → Bool) → ℕ → List (List ℕ) → List ℕ
numbers_from test n streams =
    filter_map (λ (p : ℕ × List ℕ). if test p.1 then Some p.0 else None) (enumerate_from n streams)

-- the subscriptions to a stream of a computation with this number and these readings
abbrev pub subscriptions_by : List ℕ → ℕ → List Reading → List Subscription
subscriptions_by stream to reads =
    map (λ (r : Reading). record { to = to; by = r.by }) (filter (λ (r : Reading). pointwise nat_eq r.stream stream) reads)

-- the subscriptions of computations to a stream, where the first has number n
abbrev pub subscriptions_from : List ℕ → ℕ → List ComputationShape → List Subscription
subscriptions_from stream n computations = flat_map (subscriptions_to stream) (enumerate_from n computations)

-- the subscriptions to a stream, in the order of the file
abbrev pub subscriptions_in : List ℕ → Shape → List Subscription
subscriptions_in stream shape = subscriptions_from stream (injectors_of shape) shape.computations

-- a value for each part of a shape, by number
abbrev pub by_part : {X : Type 0} → (Shape → ℕ → X) → Shape → List X
by_part f shape = map (f shape) (range_with_len 0 (parts_of shape))

-- the shape keeps the rules, and the lists have each part's stream, subscriptions and feeds by number
pub record IsKept (shape : Shape) (streams : List (List ℕ)) (consumers : List (List Subscription)) (feeds : List (List ℕ)) : Type 0 where
  pub rules : IsTopology shape
  pub published : streams ≡ streams_of shape
  pub subscribed : consumers ≡ by_part consumers_of shape
  pub fed : feeds ≡ by_part feeds_of shape
