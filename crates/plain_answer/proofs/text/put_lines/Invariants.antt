use Rattle.std.proofs.Common.{◌≡◌, ◌++◌, map, take}
use Rattle.plain_answer.specs.Plain.{plain_line}
use Rattle.plain_answer.proofs.text.put_lines.Given as goal

-- the lines so far are appended
abbrev pub invariant-loop-item : goal.invariant-loop-item
invariant-loop-item l = l.lines.items ≡ l.initial.lines.items ++ map (plain_line l.stream) (take l.item-index l.items)
