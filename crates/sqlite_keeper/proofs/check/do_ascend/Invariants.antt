use Rattle.std.proofs.Common.{◌≡◌, length}
use Rattle.sqlite_keeper.specs.Checks.{do_ascend}
use Rattle.sqlite_keeper.proofs.check.do_ascend.Given as goal

-- all ascend where those that are left do
abbrev pub invariant-loop-row : goal.invariant-loop-row
invariant-loop-row l = do_ascend l.rows ≡ do_ascend l.rest

abbrev pub decreases-loop-row : goal.decreases-loop-row
decreases-loop-row l = length l.rest
