-- What is asked and told while weak computations are taken out. No public clause cites this module.
use Rattle.std.specs.Prelude.{ℕ, suc, ◌≤◌, nat_le, if◌then◌else◌, List, ◌∷◌, map, All, length, Option, Some, None}
use Rattle.topology.specs.Shapes.{ComputationShape}
use Rattle.topology.specs.Folding.{Strong, strong_through, strong_as, way_count}

-- none of these reads nothing
abbrev pub AllRead : List ComputationShape → Type 0
AllRead all = All (λ (one : ComputationShape). 1 ≤ length one.reads) all

-- the number that the next weak computation has behind this one
abbrev pub number_behind : ℕ → ComputationShape → ℕ
number_behind number one = if one.weak then suc number else number

-- what stays where a computation stands before others of which this stays
abbrev pub with_first : ℕ → ComputationShape → List Strong → List Strong
with_first number first rest =
    if first.weak then map (strong_through number first) rest else strong_as first ∷ rest

-- what stays, but nothing is told of it where that is more than 64 readings
abbrev pub unless_many : List Strong → Option (List Strong)
unless_many readers = if nat_le (way_count readers) 64 then Some readers else None
