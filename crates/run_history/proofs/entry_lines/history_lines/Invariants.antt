use Rattle.run_history.proofs.LineSteps.{AreLinesTo}
use Rattle.run_history.proofs.entry_lines.history_lines.Given as goal

-- the lines are those of the entries so far
abbrev pub invariant-loop-n : goal.invariant-loop-n
invariant-loop-n l = AreLinesTo l.history l.n l.lines.items
