use Rattle.std.proofs.Common.{◌≡◌, ◌++◌, ◌-◌}
use Rattle.std.specs.List.{range_with_len}
use Rattle.key_intervals.proofs.making.order_from.Given as goal

-- the numbers that are there and those that are left are together all of them
abbrev pub invariant-loop-number : goal.invariant-loop-number
invariant-loop-number l =
    range_with_len l.first (l.end - l.first) ≡ l.numbers.items ++ range_with_len l.number (l.end - l.number)
