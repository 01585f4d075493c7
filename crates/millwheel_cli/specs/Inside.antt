-- How the functions behind the public call answer. No public clause cites this module.
use Rattle.std.specs.Prelude.{◌≡◌, ◌⊎◌, ℕ, ⊤, List, Option, Ok}
use Rattle.mw_types.specs.declared.refusal.PlanRefusal.{PlanRefusal}
use Rattle.mw_types.specs.declared.refusal.PlanRefusal.TheVariants as plans
use Rattle.command_line.specs.declared.refusal.WordsRefusal.{WordsRefusal}
use Rattle.command_line.specs.declared.refusal.WordsRefusal.TheVariants as words
use Rattle.mw_ports.specs.declared.shelf.ShelfFault.{ShelfFault}
use Rattle.mw_ports.specs.declared.shelf.ShelfFault.TheVariants as shelf
use Rattle.topology.specs.declared.refusal.TopologyRefusal.{TopologyRefusal}
use Rattle.topology.specs.declared.refusal.TopologyRefusal.TheVariants as topologies
use Rattle.injector.specs.declared.refusal.LinesRefusal.{LinesRefusal}
use Rattle.injector.specs.declared.refusal.LinesRefusal.TheVariants.{Line}
use Rattle.injector.specs.declared.refusal.LinesRefusal.TheVariants as lines
use Rattle.live_outlet.specs.declared.refusal.CollectRefusal.{CollectRefusal}
use Rattle.live_outlet.specs.declared.refusal.CollectRefusal.TheVariants as collects
use Rattle.trace_lines.specs.declared.refusal.AuditRefusal.{AuditRefusal}
use Rattle.trace_lines.specs.declared.refusal.AuditRefusal.TheVariants as audits
use Rattle.topology.specs.Shapes.{Shape}
use Rattle.topology.specs.Rules.{IsTopology}
use Rattle.topology.specs.Folding.{RoutesView, folded, routes_in}
use Rattle.run_history.specs.Cases.{CaseShape}
use Rattle.command_line.specs.declared.command.Call.{Call}
use Rattle.mw_ports.specs.Shelves.{Files}
use Rattle.task_runs.specs.declared.task.Task.{Task}
use Rattle.millwheel_cli.specs.Files.{HoldsTopology, topology_taken}
use Rattle.millwheel_cli.specs.Tasks.{IsTask}
use Rattle.millwheel_cli.specs.Reasons.{ShelfSeen, IsCallRefused, IsFileRefused}
use Rattle.millwheel_cli.specs.Limits.{trace_limit}
use Rattle.millwheel_cli.specs.Audits.{IsTraceWrong, trace_taken}
use Rattle.task_runs.specs.Answers.{IsUnbegun, Left, TextLeaves}
use Rattle.millwheel_cli.specs.Answers.{CallLeaves, IsTextOf}
use Rattle.task_runs.specs.declared.status.Status.{Status}
use Rattle.task_runs.specs.declared.status.Status.TheVariants as status
use Rattle.millwheel_cli.specs.declared.refusal.Refusal.{Refusal}
use Rattle.millwheel_cli.specs.declared.refusal.Refusal.TheVariants.{NoFile, TopologyRefused, EventsRefused, PlanRefused, NoMemory, ReadFault, TooLong, FileCount, CollectRefused, AuditRefused}

-- a refusal of the files as a status
abbrev pub status_of : Refusal → Status
status_of (NoFile name) = status.NoFile name
status_of (TopologyRefused why) = status.TopologyRefused why
status_of (EventsRefused file line why) = status.EventsRefused file line why
status_of (PlanRefused line) = status.PlanRefused line
status_of NoMemory = status.NoMemory
status_of (ReadFault name) = status.ReadFault name
status_of (TooLong name) = status.TooLong name
status_of (FileCount files injectors) = status.FileCount files injectors
status_of (CollectRefused line first) = status.CollectRefused line first
status_of (AuditRefused line why) = status.AuditRefused line why

-- it is so of the refusal's status, unless memory ran out
abbrev pub UnlessWant : (Status → Type 0) → Refusal → Type 0
UnlessWant P NoMemory = ⊤
UnlessWant P refusal = P (status_of refusal)

-- the refusal of a topology
abbrev pub of_topology : TopologyRefusal → Refusal
of_topology topologies.NoMemory = NoMemory
of_topology why = TopologyRefused why

-- the refusal of the event file of this number
abbrev pub of_lines : ℕ → LinesRefusal → Refusal
of_lines file (Line line why) = EventsRefused file line why
of_lines file lines.NoMemory = NoMemory

-- the refusal of a plan
abbrev pub of_plan : PlanRefusal → Refusal
of_plan (plans.Line line) = PlanRefused line
of_plan plans.NoMemory = NoMemory

-- the refusal of a text of live lines
abbrev pub of_collect : CollectRefusal → Refusal
of_collect (collects.Differs line first) = CollectRefused line first
of_collect collects.NoMemory = NoMemory

-- the refusal of a trace
abbrev pub of_audit : AuditRefusal → Refusal
of_audit (audits.Bad line why) = AuditRefused line why
of_audit audits.NoMemory = NoMemory

-- the refusal of a shelf for a file of that name
abbrev pub of_shelf : List ℕ → ShelfFault → Refusal
of_shelf name shelf.Missing = NoFile name
of_shelf name shelf.Failed = ReadFault name
of_shelf name shelf.TooLong = TooLong name
of_shelf name shelf.NoMemory = NoMemory

-- the status where the words are not read
abbrev pub of_words : WordsRefusal → Status
of_words words.Usage = status.Usage
of_words words.NoMemory = status.NoMemory

-- why a trace is refused, over a case: its file is, or it is wrong
abbrev pub IsTraceRefused : ShelfSeen → List ℕ → CaseShape → Status → Type 0
IsTraceRefused seen trace case status =
    IsFileRefused seen trace trace_limit trace_taken status ⊎ IsTraceWrong seen.files trace case status

-- ---- what is left of a topology

-- bytes are taken for a topology that keeps the rules, and this is left of it without its weak computations,
-- and the ways through these
pub record IsLeftOf (count : ℕ) (bytes : List ℕ) (left : Shape) (routes : RoutesView) : Type 0 where
  pub shape : Shape
  pub taken : topology_taken count bytes ≡ Ok shape
  pub rules : IsTopology shape
  pub folding : left ≡ folded shape
  pub ways : routes ≡ routes_in shape

-- so it is of the bytes of the file of that name
pub record HoldsLeft (files : Option Files) (name : List ℕ) (count : ℕ) (left : Shape)
    (routes : RoutesView) : Type 0 where
  pub shape : Shape
  pub topology_read : HoldsTopology files name count shape
  pub rules : IsTopology shape
  pub folding : left ≡ folded shape
  pub ways : routes ≡ routes_in shape

-- ---- how a call ends

-- there is a task of a call, and of that the status leaves this
pub record HasTask (files : Option Files) (call : Call) (left : Left) (status : Status) : Type 0 where
  pub task : Task
  pub is_task : IsTask files call task
  pub leaves : CallLeaves call task left status

-- a call is refused with the status, and no run was begun
pub record IsRefusedCall (seen : ShelfSeen) (call : Call) (left : Left) (status : Status) : Type 0 where
  pub refusal : Refusal
  pub same : status ≡ status_of refusal
  pub why : UnlessWant (IsCallRefused seen call) refusal
  pub unbegun : IsUnbegun left

-- a call without a task ends with what its text leaves, or is refused
abbrev pub IsTextEnd : ShelfSeen → Call → Left → Status → Type 0
IsTextEnd seen call left status =
    TextLeaves (IsTextOf seen.files call) left status ⊎ IsRefusedCall seen call left status

-- a call ends with what its task leaves, or as one without a task does
abbrev pub IsCallEnd : ShelfSeen → Call → Left → Status → Type 0
IsCallEnd seen call left status = HasTask seen.files call left status ⊎ IsTextEnd seen call left status
