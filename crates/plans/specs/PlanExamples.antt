-- Plans that were read by hand, for four workers and twelve rounds over one injector, one count and their two
-- intervals.
use Rattle.std.specs.Prelude.{ℕ, List, [], ◌∷◌, ◌++◌, codes, Result, Ok, Err}
use Rattle.topology.specs.Samples.{one_count}
use Rattle.mw_types.specs.declared.refusal.PlanRefusal.{PlanRefusal}
use Rattle.mw_types.specs.declared.refusal.PlanRefusal.TheVariants.{Line}
use Rattle.plans.specs.declared.action.Action.{Action}
use Rattle.plans.specs.declared.action.What.{What}
use Rattle.plans.specs.declared.action.What.TheVariants as whats
use Rattle.plans.specs.Plans.{actions_of}

-- what a plan of the example says, in so many rounds
abbrev pub said_in : ℕ → List ℕ → Result (List Action) PlanRefusal
said_in rounds bytes = actions_of (one_count 60) 4 rounds bytes

-- what a plan of the example says
abbrev pub said_by : List ℕ → Result (List Action) PlanRefusal
said_by bytes = said_in 12 bytes

-- the plan is refused for this line
abbrev pub refused_at : ℕ → Result (List Action) PlanRefusal
refused_at line = Err (Line line)

-- what happens in a round
abbrev pub at_round : ℕ → What → Action
at_round n what = record { round = n; what = what }

-- a plan with each verb once
abbrev pub full_plan : List ℕ
full_plan = codes "at 2 stall 1\nat 4 crash 2\nat 6 move 1 0\n"
    ++ codes "at 7 repeat 0\nat 8 lose 0\nat 9 hold 3\n"

-- the six actions of that plan
abbrev pub full_actions : Result (List Action) PlanRefusal
full_actions = Ok (at_round 2 (whats.Stall 1) ∷ at_round 4 (whats.Crash 2) ∷ at_round 6 (whats.Move 1 0)
    ∷ at_round 7 (whats.Repeat 0) ∷ at_round 8 (whats.Lose 0) ∷ at_round 9 (whats.Hold 3) ∷ [])

-- leading zeros, carriage returns, an empty line, a comment, a round twice, and a last line without a line feed
abbrev pub uneven_plan : List ℕ
uneven_plan = codes "at 011 crash 03\r\n\r\n# any\nat 0 hold 0\nat 0 lose 0"

-- the three actions of that plan
abbrev pub uneven_actions : Result (List Action) PlanRefusal
uneven_actions = Ok (at_round 11 (whats.Crash 3) ∷ at_round 0 (whats.Hold 0) ∷ at_round 0 (whats.Lose 0) ∷ [])
