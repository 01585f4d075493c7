use Rattle.std.proofs.Common.{◌≡◌, fold, drop}
use Rattle.plain_answer.specs.Spiked.{noted_of, noted_with}
use Rattle.plain_answer.proofs.spikes.places.Given as goal

-- what is noted, and then what is left, is noted as the members are
abbrev pub invariant-loop-member : goal.invariant-loop-member
invariant-loop-member l = fold noted_with l.places.entries (drop l.member-index l.members) ≡ noted_of l.members
