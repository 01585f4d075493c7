use Rattle.std.proofs.Common.{◌≡◌, map}
use Rattle.std.specs.List.{range_with_len}
use Rattle.topology.specs.Shapes.{stream_of}
use Rattle.topology.specs.Folding.{routes_to}
use Rattle.topology.proofs.routes.routes_of_parts.Given as goal

-- each part below this number has its routes
abbrev pub invariant-loop-number : goal.invariant-loop-number
invariant-loop-number l = l.by_part ≡ map (λ number. routes_to l.readers (stream_of l.topology number))
    (range_with_len 0 l.number)
