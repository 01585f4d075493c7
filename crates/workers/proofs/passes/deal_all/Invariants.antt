use Rattle.std.proofs.Common.{◌≡◌, length}
use Rattle.workers.specs.PassLists.{AllFrom, IsNewPass}
use Rattle.workers.proofs.passes.deal_all.Given as goal

-- so many passes were made
abbrev pub invariant-loop-place : goal.invariant-loop-place
invariant-loop-place g l = record {
  passes : AllFrom (λ place p. IsNewPass l.line place p.pass p.place) 0 l.all.items;
  many : length l.all.items ≡ l.place;
}
