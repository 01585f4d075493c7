use Rattle.std.proofs.Common.{◌≡◌, take}
use Rattle.run_history.proofs.history.History.entries.Given as goal

-- they are the entries so far
abbrev pub invariant-loop-number : goal.invariant-loop-number
invariant-loop-number l = l.entries ≡ take l.number l.self
