use Rattle.std.proofs.Common.{drop}
use Rattle.std.specs.List.{AllByRecursion}
use Rattle.node.specs.SweepSteps.{IsVouched}
use Rattle.node.proofs.sweeping.vouch.Given as goal

-- once those that are left are vouched for, all are
abbrev pub invariant-loop-one : goal.invariant-loop-one
invariant-loop-one l = AllByRecursion (IsVouched l.held) (drop l.one-index l.sent) → AllByRecursion (IsVouched l.held) l.sent
