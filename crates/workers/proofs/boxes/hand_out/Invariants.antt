use Rattle.std.proofs.Common.{◌≡◌, length}
use Rattle.workers.specs.Boxes.{AreHandedOut}
use Rattle.workers.proofs.boxes.hand_out.Given as goal

-- so many passes were handed out
abbrev pub invariant-loop-pass : goal.invariant-loop-pass
invariant-loop-pass g l = record {
  at : l.at ≡ length l.yielded;
  handed : AreHandedOut l.fn.made.items l.at l.initial.passes.items l.passes.items;
}
