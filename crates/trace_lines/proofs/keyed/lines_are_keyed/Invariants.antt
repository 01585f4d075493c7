use Rattle.std.proofs.Common.{take}
use Rattle.std.specs.Prelude.{All}
use Rattle.trace_lines.specs.Values.{HasKeyAndValue}
use Rattle.trace_lines.proofs.keyed.lines_are_keyed.Given as goal

-- each line so far has a key and a value
abbrev pub invariant-loop-line : goal.invariant-loop-line
invariant-loop-line l = All HasKeyAndValue (take l.line l.items)
