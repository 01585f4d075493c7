use Rattle.std.proofs.Common.{◌≡◌, [], length}
use Rattle.workers.specs.Boxes.{HavePasses}
use Rattle.workers.proofs.boxes.no_passes.Given as goal

-- so many lists are there
abbrev pub invariant-loop : goal.invariant-loop
invariant-loop g l = record {
  many : length l.passes.items ≡ l.counter;
  passes : HavePasses 0 [] l.passes.items;
}
