use Rattle.std.proofs.Common.{◌≡◌, map, take}
use Rattle.run_history.specs.HistoryLines.{production_data}
use Rattle.serde_json.specs.View.{view}
use Rattle.run_history.proofs.entry_values.productions_value.Given as goal

-- the values so far are those of the productions so far
abbrev pub invariant-loop-production : goal.invariant-loop-production
invariant-loop-production l = map view l.values.items ≡ map production_data (take l.production-index l.productions)
