use Rattle.std.proofs.Common.{◌≡◌, ◌++◌, drop}
use Rattle.std.specs.Prelude.{flat_map}
use Rattle.key_intervals.specs.Index.{after_merge}
use Rattle.key_intervals.proofs.order.Order.merged.Given as goal

-- what is there and what the numbers that are left become are together what all become
abbrev pub invariant-loop-number : goal.invariant-loop-number
invariant-loop-number l =
    flat_map (after_merge l.low l.high l.first) l.number-items
    ≡ l.numbers.items ++ flat_map (after_merge l.low l.high l.first) (drop l.number-index l.number-items)
