use Rattle.std.proofs.Common.{◌≡◌, length}
use Rattle.workers.specs.Boxes.{HavePasses}
use Rattle.workers.proofs.boxes.boxes_for.Given as goal

-- so many mailboxes are there
abbrev pub invariant-loop : goal.invariant-loop
invariant-loop g l = record {
  boxes : length l.boxes.items ≡ l.counter;
  many : length l.passes.items ≡ l.workers;
  passes : HavePasses (length l.boxes.items) l.boxes.items l.passes.items;
}
