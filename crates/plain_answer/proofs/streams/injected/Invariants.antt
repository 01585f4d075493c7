use Rattle.std.proofs.Common.{◌≡◌, take}
use Rattle.run_history.specs.Cases.{source_of}
use Rattle.plain_answer.specs.Plain.{injected_of}
use Rattle.plain_answer.proofs.streams.injected.Given as goal

-- the records of the lines so far
abbrev pub invariant-loop-line : goal.invariant-loop-line
invariant-loop-line l = l.items ≡ injected_of (take l.line (source_of l.case l.part))
