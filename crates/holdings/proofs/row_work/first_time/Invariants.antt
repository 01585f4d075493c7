use Rattle.holdings.proofs.TimeLaws.{IsOldestFrom}
use Rattle.holdings.proofs.row_work.first_time.Given as goal

-- the timers that are left ascend, and their oldest is that of all
abbrev pub invariant-loop-timer : goal.invariant-loop-timer
invariant-loop-timer l = IsOldestFrom l.timers l.timer-index
