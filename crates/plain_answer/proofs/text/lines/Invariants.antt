use Rattle.std.proofs.Common.{◌≡◌, ◌++◌, drop}
use Rattle.plain_answer.specs.Sends.{lines_in}
use Rattle.plain_answer.proofs.text.lines.Given as goal

-- the lines so far, and those of the streams that are left, are those of all
abbrev pub invariant-loop-part : goal.invariant-loop-part
invariant-loop-part l = l.lines.items ++ lines_in l.topology l.part (drop l.part l.streams) ≡ lines_in l.topology 0 l.streams
