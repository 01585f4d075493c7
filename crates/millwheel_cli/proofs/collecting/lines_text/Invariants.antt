use Rattle.std.proofs.Common.{◌≡◌, take}
use Rattle.live_outlet.specs.Covering.{ended}
use Rattle.millwheel_cli.proofs.collecting.lines_text.Given as goal

-- the text has the lines so far
abbrev pub invariant-loop-line : goal.invariant-loop-line
invariant-loop-line l = l.text.items ≡ ended (take l.line-index l.lines)
