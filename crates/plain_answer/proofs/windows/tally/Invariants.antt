use Rattle.std.proofs.Common.{◌≡◌, fold, drop}
use Rattle.plain_answer.specs.Tallies.{tally_of, tally_with}
use Rattle.plain_answer.proofs.windows.tally.Given as goal

-- what is tallied, and then what is left, tally as the members do
abbrev pub invariant-loop-member : goal.invariant-loop-member
invariant-loop-member l = fold (tally_with l.size) l.tally.entries (drop l.member-index l.members) ≡ tally_of l.size l.members
