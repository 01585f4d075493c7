-- The kinds of the computations of the tests. Only tests cite this module.
use Rattle.std.specs.Prelude.{List, map}
use Rattle.mw_types.specs.declared.kind.Kind.{Kind}
use Rattle.topology.specs.Shapes.{Shape, ComputationShape}

-- the kinds of a topology's computations
abbrev pub kinds_of : Shape → List Kind
kinds_of shape = map (λ (c : ComputationShape). c.kind) shape.computations
