use Rattle.std.proofs.Common.{◌≡◌}
use Rattle.run_history.specs.Runs.{run_of}
use Rattle.audit.specs.Lows.{lows_of}
use Rattle.audit.proofs.firing.lows.Given as goal

-- the low watermarks of the parts so far
abbrev pub invariant-loop-part : goal.invariant-loop-part
invariant-loop-part l = l.lows.items ≡ lows_of l.case (run_of l.case.topology l.history) l.part
