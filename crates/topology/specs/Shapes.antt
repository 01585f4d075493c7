-- What a topology is: its parts, the streams between them, and who reads what.
-- Akidau et al., VLDB 2013, sections 4.1 to 4.3, for computations, streams and key extraction.
-- Own: parts have numbers, injectors first, and then the computations in the order of the file.
use Rattle.std.specs.Prelude.{ℕ, ◌+◌, ◌-◌, ◌==◌, nat_lt, if◌then◌else◌, Bool, false, List, [], ◌∷◌, ◌++◌, length, map, filter, slice_get, nat_eq, unwrap_or, Option, Some, None}
use Rattle.std.specs.Option.{option_map}
use Rattle.std.specs.List.{list_any, filter_map, flat_map, enumerate_from, before_first, after_first}
use Rattle.std.specs.Cmp.Lexicographic.{pointwise}
use Rattle.mw_types.specs.declared.kind.Kind.{Kind}
use Rattle.topology.specs.declared.subscription.By.{By}
use Rattle.topology.specs.declared.subscription.By.TheVariants.{Key, Head, Tail}
use Rattle.topology.specs.declared.subscription.Subscription.{Subscription}

-- one reading of a computation: the stream, and how its records' keys are extracted
pub record Reading : Type 0 where
  pub stream : List ℕ
  pub by : By

-- an injector, with the stream that it publishes
pub record InjectorShape : Type 0 where
  pub name : List ℕ
  pub stream : List ℕ

-- a computation, with what it reads, the stream that it publishes, where its intervals of keys begin, and
-- whether its productions are weak
pub record ComputationShape : Type 0 where
  pub name : List ℕ
  pub kind : Kind
  pub reads : List Reading
  pub stream : List ℕ
  pub cuts : List (List ℕ)
  pub weak : Bool

-- a topology, in the order of its file
pub record Shape : Type 0 where
  pub injectors : List InjectorShape
  pub computations : List ComputationShape

-- how many parts are injectors
abbrev pub injectors_of : Shape → ℕ
injectors_of shape = length shape.injectors

-- how many parts there are
abbrev pub parts_of : Shape → ℕ
parts_of shape = length shape.injectors + length shape.computations

-- the streams that the parts publish, by number
abbrev pub streams_of : Shape → List (List ℕ)
streams_of shape =
    map (λ (i : InjectorShape). i.stream) shape.injectors
    ++ map (λ (c : ComputationShape). c.stream) shape.computations

-- the stream that a part publishes
abbrev pub stream_of : Shape → ℕ → List ℕ
stream_of shape part = unwrap_or (slice_get (streams_of shape) part) []

-- the computation of this number, or none where that part is an injector or is not there
abbrev pub computation_of : Shape → ℕ → Option ComputationShape
computation_of shape part =
    if nat_lt part (injectors_of shape) then None else slice_get shape.computations (part - injectors_of shape)

-- the kind of a computation, or none of another part
abbrev pub kind_of : Shape → ℕ → Option Kind
kind_of shape part = option_map (λ (c : ComputationShape). c.kind) (computation_of shape part)

-- what a computation reads; another part reads nothing
abbrev pub reads_of : Shape → ℕ → List Reading
reads_of shape part = unwrap_or (option_map (λ (c : ComputationShape). c.reads) (computation_of shape part)) []

-- where the intervals of a part begin, but for the first
abbrev pub cuts_of : Shape → ℕ → List (List ℕ)
cuts_of shape part = unwrap_or (option_map (λ (c : ComputationShape). c.cuts) (computation_of shape part)) []

-- whether a part is a weak computation
abbrev pub is_weak : Shape → ℕ → Bool
is_weak shape part = unwrap_or (option_map (λ (c : ComputationShape). c.weak) (computation_of shape part)) false

-- the subscriptions of one computation, of this number, to a stream
abbrev pub subscriptions_to : List ℕ → ℕ × ComputationShape → List Subscription
subscriptions_to stream (to, c) =
    map (λ (r : Reading). record { to = to; by = r.by }) (filter (λ (r : Reading). pointwise nat_eq r.stream stream) c.reads)

-- the subscriptions to the stream of a part, in the order of the file
abbrev pub consumers_of : Shape → ℕ → List Subscription
consumers_of shape part =
    flat_map (subscriptions_to (stream_of shape part)) (enumerate_from (injectors_of shape) shape.computations)

-- whether a part reads a stream
abbrev pub reads_stream : Shape → ℕ → List ℕ → Bool
reads_stream shape part stream = list_any (λ (r : Reading). pointwise nat_eq r.stream stream) (reads_of shape part)

-- the parts whose streams a part reads, ascending, each once
abbrev pub feeds_of : Shape → ℕ → List ℕ
feeds_of shape part =
    filter_map (λ (p : ℕ × List ℕ). if reads_stream shape part p.1 then Some p.0 else None) (enumerate_from 0 (streams_of shape))

-- a part of a key, or the whole key where that part is empty
abbrev pub or_whole : List ℕ → List ℕ → List ℕ
or_whole [] key = key
or_whole (b ∷ bs) key = b ∷ bs

-- the key that a consumer extracts: the whole, or what stands before or after the first slash
abbrev pub extracted : By → List ℕ → List ℕ
extracted Key key = key
extracted Head key = or_whole (before_first (λ b. b == 47) key) key
extracted Tail key = or_whole (after_first (λ b. b == 47) key) key
