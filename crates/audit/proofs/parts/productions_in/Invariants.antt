use Rattle.std.proofs.Common.{◌≡◌, ◌≤◌, drop}
use Rattle.std.specs.Prelude.{All}
use Rattle.serde_json.specs.View.{items_view}
use Rattle.mw_types.specs.declared.TheConstants.{MAX_STAMP}
use Rattle.mw_types.specs.declared.record.Production.{Production}
use Rattle.topology.specs.Answers.{followed_by}
use Rattle.topology.specs.Grammar.{each_of}
use Rattle.trace_lines.specs.Entries.{IsProduction}
use Rattle.audit.specs.Guesses.{production_in}
use Rattle.audit.proofs.parts.productions_in.Given as goal

-- with what the values that are left give, what all give; what was found is within its bounds
abbrev pub invariant-loop-value : goal.invariant-loop-value
invariant-loop-value l = record {
  whole : each_of production_in (items_view l.values)
      ≡ followed_by l.found (each_of production_in (items_view (drop l.value-index l.values)));
  stamps : All (λ (p : Production). p.stamp ≤ MAX_STAMP) l.found;
  each : All IsProduction l.found;
}
