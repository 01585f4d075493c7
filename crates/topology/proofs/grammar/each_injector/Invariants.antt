use Rattle.std.proofs.Common.{◌≡◌, drop}
use Rattle.serde_json.specs.View.{items_view}
use Rattle.topology.specs.Grammar.{each_of, injector_in}
use Rattle.topology.specs.Answers.{followed_by}
use Rattle.topology.proofs.grammar.each_injector.Given as goal

-- with what the values that are left state, what all state
abbrev pub invariant-loop-value : goal.invariant-loop-value
invariant-loop-value l =
    each_of injector_in (items_view l.values) ≡ followed_by l.found (each_of injector_in (items_view (drop l.value-index l.values)))
