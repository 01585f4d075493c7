-- The topology of the first run. Own.
use Rattle.std.specs.Prelude.{ℕ, false, [], ◌∷◌, codes}
use Rattle.mw_types.specs.declared.kind.Kind.TheVariants.{Count}
use Rattle.topology.specs.declared.subscription.By.TheVariants.{Key}
use Rattle.topology.specs.Shapes.{Shape, InjectorShape, ComputationShape}

-- its injector
abbrev pub clicks_shape : InjectorShape
clicks_shape = record { name = codes "clicks"; stream = codes "raw" }

-- its count, which reads the injector's stream by key and has no cuts
abbrev pub per_minute_shape : ℕ → ComputationShape
per_minute_shape size = record {
  name = codes "per_minute";
  kind = Count size;
  reads = record { stream = codes "raw"; by = Key } ∷ [];
  stream = codes "windows";
  cuts = [];
  weak = false;
}

-- one injector and one count
abbrev pub one_count : ℕ → Shape
one_count size = record { injectors = clicks_shape ∷ []; computations = per_minute_shape size ∷ [] }
