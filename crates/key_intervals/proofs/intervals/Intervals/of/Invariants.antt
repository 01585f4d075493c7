use Rattle.std.proofs.Common.{◌≡◌, ◌++◌, drop, length, map}
use Rattle.key_intervals.specs.Intervals.{bounds_of}
use Rattle.key_intervals.specs.Division.{fresh}
use Rattle.key_intervals.specs.Index.{orders_from}
use Rattle.key_intervals.proofs.intervals.Intervals.of.Given as goal

-- what is there and what is left to append are together the intervals of all parts, and their orders
abbrev pub invariant-loop-part : goal.invariant-loop-part
invariant-loop-part l = record {
  all : map fresh (bounds_of l.parts) ≡ l.all.items ++ map fresh (bounds_of (drop l.part-index l.parts));
  orders : orders_from 0 l.parts ≡ l.orders.items ++ orders_from (length l.all.items) (drop l.part-index l.parts);
}
