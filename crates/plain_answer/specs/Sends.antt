-- What is sent to each part, one list of keyed members for each. No clause of another crate cites this
-- module. Own.
use Rattle.std.specs.Prelude.{◌≡◌, ◌<◌, ℕ, List, [], ◌∷◌, ◌++◌, length, map, fold, sum_by, get_or, slice_set, ⊤}
use Rattle.std.specs.List.{flat_map, enumerate_from}
use Rattle.mw_types.specs.declared.identity.RowName.{RowName}
use Rattle.mw_types.specs.declared.record.Record.{Record}
use Rattle.topology.specs.declared.subscription.Subscription.{Subscription}
use Rattle.topology.specs.Shapes.{Shape, consumers_of, parts_of, stream_of}
use Rattle.run_history.specs.Cases.{CaseShape}
use Rattle.run_history.specs.Made.{sends_of}
use Rattle.run_history.specs.Texts.{ResultLine}
use Rattle.plain_answer.specs.Plain.{Keyed, members_read, injected_of, sources_of, plain_streams, lines_unread}

-- the lists with one member more for the row that it is sent to
abbrev pub sent_to : List (List Keyed) → RowName × Record → List (List Keyed)
sent_to reads s = slice_set reads s.0.part (get_or reads s.0.part [] ++ (s.0.key, s.1) ∷ [])

-- and with those of a stream
abbrev pub sent_along : List Subscription → List (List Keyed) → List Record → List (List Keyed)
sent_along consumers reads items = fold sent_to reads (flat_map (sends_of consumers) items)

-- these lists are what the parts read of the streams so far
pub record AreRead (shape : Shape) (streams : List (List Record)) (reads : List (List Keyed)) : Type 0 where
  pub parts : length reads ≡ parts_of shape
  pub each : (part : ℕ) → part < parts_of shape → get_or reads part [] ≡ members_read shape streams part

-- these streams are those of the injectors
abbrev pub AreInjected : CaseShape → List (List Record) → Type 0
AreInjected case streams = streams ≡ map injected_of (sources_of case)

-- each sum over the one list is that over the other
abbrev pub HaveSameSums : List Record → List Record → Type 0
HaveSameSums xs ys = (f : Record → ℕ) → sum_by f xs ≡ sum_by f ys

-- each stream has, in some order, what the one has that stands at its place
abbrev pub EachMoved : List (List Record) → List (List Record) → Type 0
EachMoved [] [] = ⊤
EachMoved (x ∷ xs) (y ∷ ys) = HaveSameSums x y × EachMoved xs ys
EachMoved _ _ = ⊥

-- these streams are the plain ones, each in some order
abbrev pub ArePlain : CaseShape → List (List Record) → Type 0
ArePlain case streams = EachMoved (plain_streams case) streams

-- the lines of these streams, from a part on, where nothing reads them
abbrev pub lines_in : Shape → ℕ → List (List Record) → List ResultLine
lines_in shape n streams = flat_map
    (λ (s : ℕ × List Record). lines_unread (consumers_of shape s.0) (stream_of shape s.0) s.1)
    (enumerate_from n streams)
