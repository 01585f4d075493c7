use Rattle.std.proofs.Common.{◌≡◌, ◌++◌, map, take}
use Rattle.command_line.proofs.line.add_all.Given as goal

-- those that are done stand behind those that were there
abbrev pub invariant-loop-text : goal.invariant-loop-text
invariant-loop-text l = l.names ≡ l.fn.names ++ map (λ text. text.now) (take l.text-index l.texts)
