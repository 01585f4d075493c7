-- How the functions that read a file's shape answer, and what they count. No public clause cites this module.
use Rattle.std.specs.Prelude.{◌≡◌, ◌≤◌, ◌++◌, ℕ, List, All, length, sum_by, ⊤, Option, Some, None, Result, Ok, Err}
use Rattle.topology.specs.Shapes.{Shape, ComputationShape}
use Rattle.topology.specs.Rules.{IsPassWhereWeak}
use Rattle.topology.specs.declared.refusal.ShapeRefusal.{ShapeRefusal}
use Rattle.topology.specs.declared.refusal.ShapeRefusal.TheVariants.{BadShape, NoMemory}

-- the answer is what is found, or that there is nothing, unless memory ran out
abbrev pub Gives : {X : Type 0} → Result X ShapeRefusal → Option X → Type 0
Gives (Ok x) found = found ≡ Some x
Gives (Err BadShape) found = found ≡ None
Gives (Err NoMemory) found = ⊤

-- these, and then those that follow, or none where nothing is found of those
abbrev pub followed_by : {X : Type 0} → List X → Option (List X) → Option (List X)
followed_by xs None = None
followed_by xs (Some ys) = Some (xs ++ ys)

-- how many readings these computations have
abbrev pub reading_count : List ComputationShape → ℕ
reading_count computations = sum_by (λ (c : ComputationShape). length c.reads) computations

-- how many cuts these computations have
abbrev pub cut_count : List ComputationShape → ℕ
cut_count computations = sum_by (λ (c : ComputationShape). length c.cuts) computations

-- there is an injector, each computation reads something, and a weak one is a pass, as the form of a file asks
pub record IsFull (shape : Shape) : Type 0 where
  pub some_injector : 1 ≤ length shape.injectors
  pub reading : All (λ (c : ComputationShape). 1 ≤ length c.reads) shape.computations
  pub passes : All IsPassWhereWeak shape.computations
