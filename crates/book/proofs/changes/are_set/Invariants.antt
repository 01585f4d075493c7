use Rattle.std.proofs.Common.{◌≡◌, take}
use Rattle.run_history.specs.Runs.{with_timers}
use Rattle.book.proofs.changes.are_set.Given as goal

-- those so far change nothing
abbrev pub invariant-loop-timer : goal.invariant-loop-timer
invariant-loop-timer l = with_timers (take l.timer-index l.set) l.timers ≡ l.timers
