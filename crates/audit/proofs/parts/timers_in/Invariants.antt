use Rattle.std.proofs.Common.{◌≡◌, ◌≤◌, ◌<◌, ◌^◌, drop}
use Rattle.std.specs.Prelude.{All}
use Rattle.serde_json.specs.View.{items_view}
use Rattle.mw_types.specs.declared.TheConstants.{MAX_STAMP}
use Rattle.mw_types.specs.declared.timer.Timer.{Timer}
use Rattle.topology.specs.Answers.{followed_by}
use Rattle.topology.specs.Grammar.{each_of}
use Rattle.audit.specs.Guesses.{timer_in}
use Rattle.audit.proofs.parts.timers_in.Given as goal

-- with what the values that are left give, what all give; what was found is in time
abbrev pub invariant-loop-value : goal.invariant-loop-value
invariant-loop-value l = record {
  whole : each_of timer_in (items_view l.values) ≡ followed_by l.found (each_of timer_in (items_view (drop l.value-index l.values)));
  times : All (λ (t : Timer). t.time ≤ MAX_STAMP) l.found;
  tags : All (λ (t : Timer). t.tag < 2 ^ 64) l.found;
}
