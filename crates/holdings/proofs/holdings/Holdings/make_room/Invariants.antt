use Rattle.std.proofs.Common.{◌≤◌, length}
use Rattle.holdings.specs.Steps.{KeepsAll}
use Rattle.holdings.proofs.holdings.Holdings.make_room.Given as goal

-- so many places are there, and each holds what it held
abbrev pub invariant-loop : goal.invariant-loop
invariant-loop l = record {
  size : l.counter ≤ length l.self-inside.all.items;
  same : KeepsAll l.fn.self l.self-inside.all.items;
}
