use Rattle.std.proofs.Common.{◌≡◌, ◌++◌, drop}
use Rattle.std.specs.List.{flat_map}
use Rattle.topology.specs.Folding.{way_through}
use Rattle.topology.proofs.ways.ways_without.Given as goal

-- what the rest is to add makes it all
abbrev pub invariant-loop-way : goal.invariant-loop-way
invariant-loop-way l =
    let stand_for = flat_map (way_through l.number l.gone) in
    l.ways ++ stand_for (drop l.way-index l.before) ≡ stand_for l.before
