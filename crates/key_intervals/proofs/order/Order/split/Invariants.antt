use Rattle.std.proofs.Common.{◌≡◌, ◌++◌, drop}
use Rattle.std.specs.Prelude.{flat_map}
use Rattle.key_intervals.specs.Index.{after_split}
use Rattle.key_intervals.proofs.order.Order.split.Given as goal

-- what is there and what the numbers that are left become are together what all become
abbrev pub invariant-loop-number : goal.invariant-loop-number
invariant-loop-number l =
    flat_map (after_split l.ended l.first) l.number-items
    ≡ l.numbers.items ++ flat_map (after_split l.ended l.first) (drop l.number-index l.number-items)
