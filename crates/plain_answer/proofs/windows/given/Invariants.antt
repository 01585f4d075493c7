use Rattle.std.proofs.Common.{◌≡◌, ◌++◌, map}
use Rattle.plain_answer.specs.Tallies.{window_given}
use Rattle.plain_answer.proofs.windows.given.Given as goal

-- the records so far, and those of what is left, are those of all
abbrev pub invariant-loop-window : goal.invariant-loop-window
invariant-loop-window l = l.records.items ++ map window_given l.window-iterator ≡ map window_given l.tally.entries
