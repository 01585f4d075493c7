use Rattle.std.proofs.Common.{◌≡◌, length, take, sum_by}
use Rattle.injector.specs.Sources.{Source}
use Rattle.plain_answer.proofs.summary.injected_number.Given as goal

-- the records of the files so far
abbrev pub invariant-loop-source : goal.invariant-loop-source
invariant-loop-source l = l.sum ≡ sum_by (λ (source : Source). length source) (take l.source-index l.sources)
