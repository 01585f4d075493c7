use Rattle.std.proofs.Common.{◌≡◌, ◌≤◌, drop}
use Rattle.plain_answer.proofs.spikes.learn.Given as goal

-- so many of the first are gone
abbrev pub invariant-loop : goal.invariant-loop
invariant-loop l = (l.known.items ≡ drop l.counter l.initial.known.items) × (l.counter ≤ l.end)
