use Rattle.std.proofs.Common.{◌≡◌, ◌≤◌, drop}
use Rattle.computations.proofs.spike.learn.Given as goal

-- so many of the first are gone
abbrev pub invariant-loop : goal.invariant-loop
invariant-loop l = (l.known ≡ drop l.counter l.initial.known) × (l.counter ≤ l.end)
