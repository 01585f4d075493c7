use Rattle.std.proofs.Common.{◌≡◌, ◌++◌, drop}
use Rattle.run_history.specs.Cases.{intervals_of}
use Rattle.watermark.specs.Marks.{numbers_in}
use Rattle.watermark.proofs.marks.numbers_in.Given as goal

-- with the numbers of those that are left, those of all intervals
abbrev pub invariant-loop-interval : goal.invariant-loop-interval
invariant-loop-interval l =
    l.numbers ++ numbers_in l.parts l.interval (drop l.interval (intervals_of l.case.topology)) ≡ numbers_in l.parts 0 (intervals_of l.case.topology)
