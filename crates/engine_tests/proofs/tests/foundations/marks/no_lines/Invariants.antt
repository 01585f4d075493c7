use Rattle.std.proofs.Common.{◌≡◌, length}
use Rattle.engine_tests.proofs.tests.foundations.marks.no_lines.Given as goal

-- as many as the loop has counted
abbrev pub invariant-loop : goal.invariant-loop
invariant-loop g l = length l.items ≡ l.counter
