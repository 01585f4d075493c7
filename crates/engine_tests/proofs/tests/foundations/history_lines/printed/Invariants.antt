use Rattle.std.proofs.Common.{All}
use Rattle.run_history.specs.HistoryLines.{HasLine}
use Rattle.engine_tests.proofs.tests.foundations.history_lines.printed.Given as goal

-- each entry so far has a line
abbrev pub invariant-loop-n : goal.invariant-loop-n
invariant-loop-n g l = All HasLine l.history
