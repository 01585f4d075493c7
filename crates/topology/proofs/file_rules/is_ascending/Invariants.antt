use Rattle.std.proofs.Common.{◌≡◌, length}
use Rattle.topology.specs.FileRules.{is_ascending}
use Rattle.topology.proofs.file_rules.is_ascending.Given as goal

-- all ascend where those that are left do
abbrev pub invariant-loop-cut : goal.invariant-loop-cut
invariant-loop-cut l = is_ascending l.cuts ≡ is_ascending l.rest

abbrev pub decreases-loop-cut : goal.decreases-loop-cut
decreases-loop-cut l = length l.rest
