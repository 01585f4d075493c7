use Rattle.std.proofs.Common.{◌≡◌, ◌++◌, drop, map, []}
use Rattle.key_intervals.specs.Intervals.{bounds_from}
use Rattle.key_intervals.specs.Division.{fresh}
use Rattle.key_intervals.proofs.making.push_intervals.Given as goal

-- what is there and what is left to append are together the intervals of the part
abbrev pub invariant-loop-cut : goal.invariant-loop-cut
invariant-loop-cut l =
    l.initial.all.items ++ map fresh (bounds_from l.part.part [] l.part.cuts)
    ≡ l.all.items ++ map fresh (bounds_from l.part.part l.from (drop l.cut-index l.part.cuts))
