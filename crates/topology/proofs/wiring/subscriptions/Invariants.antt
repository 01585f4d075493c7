use Rattle.std.proofs.Common.{◌≡◌, ◌++◌, ◌+◌, drop}
use Rattle.topology.specs.Shapes.{injectors_of}
use Rattle.topology.specs.Kept.{subscriptions_from}
use Rattle.topology.proofs.wiring.subscriptions.Given as goal

-- with the subscriptions of the computations that are left, those of all computations
abbrev pub invariant-loop-at : goal.invariant-loop-at
invariant-loop-at l =
    l.found ++ subscriptions_from l.stream (injectors_of l.parts + l.at) (drop l.at l.parts.computations)
    ≡ subscriptions_from l.stream (injectors_of l.parts) l.parts.computations
