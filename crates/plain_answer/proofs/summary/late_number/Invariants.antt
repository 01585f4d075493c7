use Rattle.std.proofs.Common.{◌≡◌, take, sum_by, count_by}
use Rattle.injector.specs.Sources.{Source, SourceLine}
use Rattle.plain_answer.proofs.summary.late_number.Given as goal

-- the late records of the files so far
abbrev pub invariant-loop-source : goal.invariant-loop-source
invariant-loop-source l =
    l.sum ≡ sum_by (λ (source : Source). count_by (λ (l : SourceLine). l.item.late) source) (take l.source-index l.sources)
