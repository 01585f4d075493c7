-- Schedules that were read by hand, over one injector, one count and their two intervals, and for one relay.
use Rattle.std.specs.Prelude.{ℕ, List, [], ◌∷◌, ◌++◌, codes, Result, Ok, Err}
use Rattle.topology.specs.Samples.{one_count}
use Rattle.mw_types.specs.declared.refusal.PlanRefusal.{PlanRefusal}
use Rattle.mw_types.specs.declared.refusal.PlanRefusal.TheVariants.{Line}
use Rattle.plans.specs.declared.step.Step.{Step}
use Rattle.plans.specs.declared.step.Step.TheVariants as steps
use Rattle.plans.specs.Schedules.{schedule_of}

-- what a schedule of the example says
abbrev pub said_by : List ℕ → Result (List Step) PlanRefusal
said_by bytes = schedule_of (one_count 60) 1 bytes

-- the schedule is refused for this line
abbrev pub refused_at : ℕ → Result (List Step) PlanRefusal
refused_at line = Err (Line line)

-- leading zeros, carriage returns, an empty line, a comment, and a last line without a line feed
abbrev pub uneven_schedule : List ℕ
uneven_schedule = codes "claim 00 0000000001\r\n\r\n# any\ncrash 3"

-- the two steps of that schedule
abbrev pub uneven_steps : Result (List Step) PlanRefusal
uneven_steps = Ok (steps.Claim 0 1 ∷ steps.Crash 3 ∷ [])

-- a schedule with each step once
abbrev pub full_schedule : List ℕ
full_schedule = codes "claim 15 1\ninject 0 0\nsend 1\ntake 2 4294967295\nwrite 3\nfire 4 1\n"
    ++ codes "report 5 0\nresend 6\npurge 7 1\ncopy 8\nlose 9\n"
    ++ codes "relay 0 11\nforget 0\ncrash 10\n"

-- the steps of that schedule
abbrev pub full_steps : Result (List Step) PlanRefusal
full_steps = Ok (steps.Claim 15 1 ∷ steps.Inject 0 0 ∷ steps.Send 1 ∷ steps.Take 2 4294967295 ∷ steps.Write 3
    ∷ steps.Fire 4 1 ∷ steps.Report 5 0 ∷ steps.Resend 6 ∷ steps.Purge 7 1 ∷ steps.Repeat 8 ∷ steps.Lose 9
    ∷ steps.Relay 0 11 ∷ steps.Forget 0 ∷ steps.Crash 10 ∷ [])
