use Rattle.std.proofs.Common.{◌≡◌, map}
use Rattle.std.specs.List.{range_with_len}
use Rattle.topology.specs.Shapes.{consumers_of}
use Rattle.topology.proofs.wiring.consumers_in.Given as goal

-- the parts so far have their consumers
abbrev pub invariant-loop-stream : goal.invariant-loop-stream
invariant-loop-stream l = l.consumers ≡ map (consumers_of l.parts) (range_with_len 0 l.stream-index)
