use Rattle.std.proofs.Common.{◌≡◌, map, take}
use Rattle.topology.specs.Folding.{way_of}
use Rattle.topology.proofs.ways.straight_ways.Given as goal

-- there is one for each reading that was gone through
abbrev pub invariant-loop-read : goal.invariant-loop-read
invariant-loop-read l = l.ways ≡ map way_of (take l.read-index l.reads)
