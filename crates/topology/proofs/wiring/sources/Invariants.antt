use Rattle.std.proofs.Common.{◌≡◌, ◌++◌, drop}
use Rattle.topology.specs.Folding.{are_reading}
use Rattle.topology.specs.Kept.{numbers_from}
use Rattle.topology.proofs.wiring.sources.Given as goal

-- with the numbers of the streams that are left, those of all streams
abbrev pub invariant-loop-at : goal.invariant-loop-at
invariant-loop-at l =
    l.found ++ numbers_from (are_reading l.reads) l.at (drop l.at l.streams) ≡ numbers_from (are_reading l.reads) 0 l.streams
