use Rattle.std.proofs.Common.{◌≡◌, ◌++◌, drop}
use Rattle.topology.proofs.file_parts.cuts_in.Given as goal

-- with those that are left, all
abbrev pub invariant-loop-cut : goal.invariant-loop-cut
invariant-loop-cut l = l.made ++ drop l.cut-index l.cuts ≡ l.cuts
