use Rattle.std.proofs.Common.{◌≡◌, take}
use Rattle.row_parts.specs.Contents.{AreTimers}
use Rattle.run_history.specs.Runs.{with_timers}
use Rattle.book.proofs.changes.set_all.Given as goal

-- those so far are set
abbrev pub invariant-loop-timer : goal.invariant-loop-timer
invariant-loop-timer l = (l.timers ≡ with_timers (take l.timer-index l.set) l.initial.timers) × AreTimers l.timers
