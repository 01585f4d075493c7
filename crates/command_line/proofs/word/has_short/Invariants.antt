use Rattle.std.proofs.Common.{◌≡◌, length}
use Rattle.command_line.specs.Clap.{has_short}
use Rattle.command_line.proofs.word.has_short.Given as goal

-- the words say what those that are left say
abbrev pub invariant-loop-word : goal.invariant-loop-word
invariant-loop-word l = has_short l.words ≡ has_short l.rest

abbrev pub decreases-loop-word : goal.decreases-loop-word
decreases-loop-word l = length l.rest
