use Rattle.std.proofs.Common.{◌≡◌, map, take}
use Rattle.topology.specs.Folding.{Way}
use Rattle.topology.proofs.ways.readings_left.Given as goal

-- there is one of each way that was gone through
abbrev pub invariant-loop-way : goal.invariant-loop-way
invariant-loop-way l = l.reads ≡ map (λ (way : Way). way.reading) (take l.way-index l.ways)
