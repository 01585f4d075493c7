use Rattle.std.proofs.Common.{◌≡◌, map, take}
use Rattle.run_history.specs.Texts.{line_of}
use Rattle.run_history.proofs.text.lines.Given as goal

-- the lines so far are those of the emissions so far
abbrev pub invariant-loop-emission : goal.invariant-loop-emission
invariant-loop-emission l = l.lines.items ≡ map (line_of l.topology) (take l.emission-index l.emissions)
