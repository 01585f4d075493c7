use Rattle.std.proofs.Common.{◌≡◌, map, take}
use Rattle.command_line.proofs.line.texts_of.Given as goal

-- those that are done stand there as texts
abbrev pub invariant-loop-word : goal.invariant-loop-word
invariant-loop-word l = map (λ text. text.now) l.texts.items ≡ take l.word-index l.words
