-- What a command is to do, once its files are read: the case of a run, what comes before its drain, and what
-- is to be written of it. Own.
use Rattle.std.specs.Prelude.{◌≡◌, ℕ, List, [], ◌∷◌, length, Option, Some, None, Result, Ok, Err}
use Rattle.mw_types.specs.declared.refusal.PlanRefusal.{PlanRefusal}
use Rattle.mw_types.specs.declared.refusal.PlanRefusal.TheVariants as plans
use Rattle.command_line.specs.declared.command.Inputs.{Inputs}
use Rattle.command_line.specs.declared.command.Call.{Call}
use Rattle.command_line.specs.declared.command.Call.TheVariants.{Solo, Replay, Run, Plain, Load, Collect, Audit}
use Rattle.mw_ports.specs.Shelves.{Files}
use Rattle.topology.specs.Shapes.{Shape}
use Rattle.topology.specs.Rules.{IsTopology}
use Rattle.topology.specs.Folding.{folded, routes_in}
use Rattle.injector.specs.Sources.{Source}
use Rattle.run_history.specs.Cases.{CaseShape}
use Rattle.plans.specs.Schedules.{schedule_of}
use Rattle.plans.specs.Plans.{actions_of}
use Rattle.task_runs.specs.declared.status.Status.{Status}
use Rattle.task_runs.specs.declared.status.Status.TheVariants.{PlanRefused, NoMemory}
use Rattle.task_runs.specs.declared.task.Before.{Before}
use Rattle.task_runs.specs.declared.task.Before.TheVariants.{Steps, Rounds}
use Rattle.task_runs.specs.declared.task.Task.{Task}
use Rattle.task_runs.specs.declared.task.Wanted.TheVariants as wanted
use Rattle.millwheel_cli.specs.Limits.{plan_limit, lines_limit}
use Rattle.millwheel_cli.specs.Files.{HoldsAs, HoldsTopology, HoldsSources, topology_taken, source_taken}
use Rattle.millwheel_cli.specs.Loads.{load_topology, load_text}
use Rattle.task_runs.specs.Tasks.{wanted_of}

-- ---- what comes before the drain

-- a plan that is read is taken, as what comes before the drain
abbrev pub planned_of : {T : Type 0} → (T → Before) → Result T PlanRefusal → Result Before Status
planned_of before (Err (plans.Line line)) = Err (PlanRefused line)
planned_of before (Err plans.NoMemory) = Err NoMemory
planned_of before (Ok plan) = Ok (before plan)

-- the steps that the bytes of a plan are taken for, over a topology and so many relays, or the status with
-- which they are refused
abbrev pub steps_taken : Shape → ℕ → List ℕ → Result Before Status
steps_taken shape weaks bytes = planned_of Steps (schedule_of shape weaks bytes)

-- the rounds that the bytes of a plan are taken for, over a topology and of so many workers, or the status
-- with which they are refused
abbrev pub rounds_taken : Shape → ℕ → ℕ → List ℕ → Result Before Status
rounds_taken shape workers rounds bytes =
    planned_of (Rounds workers rounds) (actions_of shape workers rounds bytes)

-- what comes before the drain of a call, over a topology and so many relays, as the plan's file held it where
-- there is one: of a run its rounds, and of each other call steps
abbrev pub HoldsBefore : Option Files → Call → Shape → ℕ → Before → Type 0
HoldsBefore files (Replay plan inputs) shape weaks before =
    HoldsAs files plan plan_limit (steps_taken shape weaks) (Ok before)
HoldsBefore files (Run workers rounds None inputs) shape weaks before = before ≡ Rounds workers rounds []
HoldsBefore files (Run workers rounds (Some plan) inputs) shape weaks before =
    HoldsAs files plan plan_limit (rounds_taken shape workers rounds) (Ok before)
HoldsBefore files _ shape weaks before = before ≡ Steps []

-- the task is that of a call with these files: of a topology that keeps the rules, what is left without its
-- weak computations, and the ways through these; event files, one an injector; and a plan, where the call
-- names one
pub record IsInputsTask (files : Option Files) (call : Call) (inputs : Inputs) (task : Task) : Type 0 where
  pub shape : Shape
  pub topology_read : HoldsTopology files inputs.topology (length inputs.events) shape
  pub rules : IsTopology shape
  pub folding : task.case.topology ≡ folded shape
  pub ways : task.routes ≡ routes_in shape
  pub plan_read : HoldsBefore files call task.case.topology task.routes.weaks task.before
  pub events_read : HoldsSources files 0 lines_limit inputs.events task.case.sources
  pub text : task.wanted ≡ wanted_of inputs.history inputs.live

-- the case is that of load, by this seed and with so many lines: what solo makes of its topology, which has no
-- weak computation, and of one event file with its lines
pub record IsLoadCase (seed lines : ℕ) (case : CaseShape) : Type 0 where
  pub topology_read : topology_taken 1 load_topology ≡ Ok case.topology
  pub source : Source
  pub events_read : source_taken 0 lines_limit (load_text seed lines) ≡ Ok source
  pub one : case.sources ≡ source ∷ []

-- the task is that of load: its case without a step, and the summary line alone
pub record IsLoadTask (seed lines : ℕ) (task : Task) : Type 0 where
  pub made : IsLoadCase seed lines task.case
  pub no_steps : task.before ≡ Steps []
  pub text : task.wanted ≡ wanted.SummaryAlone

-- the task is what the call asks for, with these files where a contract can see the shelf's
abbrev pub IsTask : Option Files → Call → Task → Type 0
IsTask files (Solo inputs) task = IsInputsTask files (Solo inputs) inputs task
IsTask files (Replay plan inputs) task = IsInputsTask files (Replay plan inputs) inputs task
IsTask files (Run workers rounds plan inputs) task =
    IsInputsTask files (Run workers rounds plan inputs) inputs task
IsTask files (Plain inputs) task = IsInputsTask files (Plain inputs) inputs task
IsTask files (Load seed lines) task = IsLoadTask seed lines task
IsTask files (Collect file) task = ⊥
IsTask files (Audit inputs trace) task = ⊥
