use Rattle.std.proofs.Common.{◌≡◌, map, take}
use Rattle.topology.specs.Folding.{left_of}
use Rattle.topology.proofs.strong_parts.computations_left.Given as goal

-- there is one for each that was gone through
abbrev pub invariant-loop-reader : goal.invariant-loop-reader
invariant-loop-reader l = l.parts ≡ map left_of (take l.reader-index l.readers)
