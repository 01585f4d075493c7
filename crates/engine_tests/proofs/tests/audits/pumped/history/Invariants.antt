use Rattle.std.proofs.Common.{◌≤◌, All, length}
use Rattle.topology.specs.Samples.{one_count}
use Rattle.run_history.specs.Made.{productions_of}
use Rattle.run_history.specs.Printing.{IsOnPart}
use Rattle.engine_tests.proofs.tests.audits.pumped.history.Given as goal

-- the entries so far can be printed
abbrev pub invariant-loop-n : goal.invariant-loop-n
invariant-loop-n l = record {
  few : length l.history ≤ l.n;
  parts : All (IsOnPart (one_count 60)) l.history;
  productions : All (λ entry. length (productions_of entry) ≤ 8) l.history;
}
