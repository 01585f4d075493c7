use Rattle.std.proofs.Common.{◌≡◌, map, take}
use Rattle.topology.specs.Folding.{strong_through}
use Rattle.topology.proofs.strong_parts.all_without.Given as goal

-- it is taken out of each that was gone through
abbrev pub invariant-loop-reader : goal.invariant-loop-reader
invariant-loop-reader l = l.parts ≡ map (strong_through l.number l.gone) (take l.reader-index l.readers)
