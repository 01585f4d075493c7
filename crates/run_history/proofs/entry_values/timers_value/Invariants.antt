use Rattle.std.proofs.Common.{◌≡◌, map, take}
use Rattle.run_history.specs.HistoryLines.{timer_data}
use Rattle.serde_json.specs.View.{view}
use Rattle.run_history.proofs.entry_values.timers_value.Given as goal

-- the values so far are those of the timers so far
abbrev pub invariant-loop-timer : goal.invariant-loop-timer
invariant-loop-timer l = map view l.values.items ≡ map timer_data (take l.timer-index l.timers)
