-- The actions of a round. No public clause cites this module.
use Rattle.std.specs.Prelude.{◌==◌, ℕ, List, filter, length, nat_lt}
use Rattle.topology.specs.Shapes.{Shape}
use Rattle.plans.specs.Plans.{IsWhat}
use Rattle.plans.specs.declared.action.Action.{Action}

-- what an action does is done to workers of so many, and to an interval that is there
abbrev pub IsActionOf : Shape → ℕ → Action → Type 0
IsActionOf shape workers action = IsWhat shape workers action.what

-- how many actions there are of a round
abbrev pub acted : ℕ → List Action → ℕ
acted round actions = length (filter (λ (action : Action). action.round == round) actions)

-- how many actions there are of the rounds before this one
abbrev pub acted_to : ℕ → List Action → ℕ
acted_to round actions = length (filter (λ (action : Action). nat_lt action.round round) actions)
