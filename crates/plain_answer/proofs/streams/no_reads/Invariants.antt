use Rattle.std.proofs.Common.{◌≡◌, [], replicate}
use Rattle.plain_answer.proofs.streams.no_reads.Given as goal

-- an empty list for each part so far
abbrev pub invariant-loop : goal.invariant-loop
invariant-loop l = l.reads.items ≡ replicate l.counter []
