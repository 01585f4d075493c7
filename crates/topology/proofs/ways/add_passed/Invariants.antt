use Rattle.std.proofs.Common.{◌≡◌, ◌++◌, drop}
use Rattle.topology.specs.Folding.{passed_from}
use Rattle.topology.proofs.ways.add_passed.Given as goal

-- what the rest is to add makes it all, behind what was there
abbrev pub invariant-loop-way : goal.invariant-loop-way
invariant-loop-way l =
    let of_these = passed_from l.stream in
    l.routes ++ of_these (drop l.way-index l.ways) ≡ l.initial.routes ++ of_these l.ways
