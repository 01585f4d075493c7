use Rattle.std.proofs.Common.{◌≡◌, ◌++◌, map, take}
use Rattle.topology.specs.Folding.{way_past}
use Rattle.topology.proofs.ways.add_further_up.Given as goal

-- a way was added for each stream that was gone through
abbrev pub invariant-loop-source : goal.invariant-loop-source
invariant-loop-source l = l.ways ≡ l.fn.ways ++ map (way_past l.number l.way) (take l.source-index l.sources)
