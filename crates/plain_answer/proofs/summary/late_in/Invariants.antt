use Rattle.std.proofs.Common.{◌≡◌, take, count_by}
use Rattle.injector.specs.Sources.{SourceLine}
use Rattle.plain_answer.proofs.summary.late_in.Given as goal

-- the late records of the lines so far
abbrev pub invariant-loop-line : goal.invariant-loop-line
invariant-loop-line l = l.sum ≡ count_by (λ (l : SourceLine). l.item.late) (take l.line l.source)
