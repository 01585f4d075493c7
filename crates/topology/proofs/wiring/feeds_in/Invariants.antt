use Rattle.std.proofs.Common.{◌≡◌, map}
use Rattle.std.specs.List.{range_with_len}
use Rattle.topology.specs.Shapes.{feeds_of}
use Rattle.topology.proofs.wiring.feeds_in.Given as goal

-- the parts so far have their feeds
abbrev pub invariant-loop-part : goal.invariant-loop-part
invariant-loop-part l = l.feeds ≡ map (feeds_of l.parts) (range_with_len 0 l.part)
