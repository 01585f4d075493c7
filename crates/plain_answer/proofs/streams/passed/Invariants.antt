use Rattle.std.proofs.Common.{◌≡◌, map, take}
use Rattle.plain_answer.specs.Plain.{Keyed}
use Rattle.plain_answer.proofs.streams.passed.Given as goal

-- the records so far
abbrev pub invariant-loop-member : goal.invariant-loop-member
invariant-loop-member l = l.records ≡ map (λ (m : Keyed). m.1) (take l.member-index l.members)
