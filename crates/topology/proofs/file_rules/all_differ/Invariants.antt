use Rattle.std.proofs.Common.{◌≡◌, length}
use Rattle.topology.specs.Rules.{all_differ}
use Rattle.topology.proofs.file_rules.all_differ.Given as goal

-- all differ where those that are left do
abbrev pub invariant-loop-text : goal.invariant-loop-text
invariant-loop-text l = all_differ l.texts ≡ all_differ l.rest

abbrev pub decreases-loop-text : goal.decreases-loop-text
decreases-loop-text l = length l.rest
