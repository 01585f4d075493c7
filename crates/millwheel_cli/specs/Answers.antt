-- What each status leaves of a call. Own.
use Rattle.std.specs.Prelude.{◌≡◌, ◌⊎◌, ℕ, ⊤, List, length, Option, Some}
use Rattle.std.specs.Io.KnownBytes.{append_known}
use Rattle.command_line.specs.declared.command.Inputs.{Inputs}
use Rattle.command_line.specs.declared.command.Call.{Call}
use Rattle.command_line.specs.declared.command.Call.TheVariants.{Solo, Replay, Run, Plain, Load, Collect, Audit}
use Rattle.command_line.specs.declared.command.Command.{Command}
use Rattle.mw_ports.specs.Shelves.{Files}
use Rattle.run_history.specs.Cases.{CaseShape}
use Rattle.plain_answer.specs.Plain.{IsPlainText}
use Rattle.plain_answer.specs.Passes.{HasLinesOf, with_passes}
use Rattle.task_runs.specs.declared.status.Status.{Status}
use Rattle.task_runs.specs.declared.status.Status.TheVariants.{Ok, KeeperFault, SinkFault, NoMemory, NotEmpty, HistoryFull, RowDamaged}
use Rattle.task_runs.specs.declared.status.Status.TheVariants as status
use Rattle.task_runs.specs.declared.task.Task.{Task}
use Rattle.millwheel_cli.specs.Limits.{lines_limit}
use Rattle.millwheel_cli.specs.Files.{HoldsTopology, HoldsSources}
use Rattle.millwheel_cli.specs.Tasks.{IsTask}
use Rattle.millwheel_cli.specs.Collects.{HoldsLines}
use Rattle.millwheel_cli.specs.Audits.{HoldsRun}
use Rattle.task_runs.specs.Answers.{Left, IsUnbegun, RunLeaves, TextLeaves}

-- ---- what each status leaves of a call

-- what each status leaves of a call's task, which is run, or counted in the mode plain
abbrev pub CallLeaves : Call → Task → Left → Status → Type 0
CallLeaves (Solo inputs) task left status = RunLeaves task left status
CallLeaves (Replay plan inputs) task left status = RunLeaves task left status
CallLeaves (Run workers rounds plan inputs) task left status = RunLeaves task left status
CallLeaves (Plain inputs) task left status = TextLeaves (IsPlainText task.case) left status
CallLeaves (Load seed lines) task left status = RunLeaves task left status
CallLeaves (Collect file) task left status = ⊥
CallLeaves (Audit inputs trace) task left status = ⊥

-- a text was written whole that has, before its last line, the lines of the case that the files state, with
-- plain passes in the place of its weak computations
pub record SeesThrough (files : Option Files) (inputs : Inputs) (left : Left) : Type 0 where
  pub file : CaseShape
  pub topology_read : HoldsTopology files inputs.topology (length inputs.events) file.topology
  pub events_read : HoldsSources files 0 lines_limit inputs.events file.sources
  pub text : List ℕ
  pub lines : HasLinesOf (with_passes file) text
  pub written : left.text.1 ≡ append_known left.text.0 text

-- so does a plain count; of other calls this says nothing
abbrev pub IsSeenThrough : Option Files → Call → Left → Type 0
IsSeenThrough files (Plain inputs) left = SeesThrough files inputs left
IsSeenThrough files _ left = ⊤

-- a command is asked for, which asks for a task, and of that the status leaves this
pub record HasRun (files : Option Files) (asked : Option Command) (left : Left)
    (status : Status) : Type 0 where
  pub command : Command
  pub named : asked ≡ Some command
  pub task : Task
  pub is_task : IsTask files command.call task
  pub leaves : CallLeaves command.call task left status
  -- a weak pass is seen through
  pub passes : status ≡ Ok → IsSeenThrough files command.call left

-- the text is that of a call without a task, with these files where a contract can see the shelf's
abbrev pub IsTextOf : Option Files → Call → List ℕ → Type 0
IsTextOf files (Collect file) text = HoldsLines files file text
IsTextOf files (Audit inputs trace) text = HoldsRun files inputs trace text
IsTextOf files _ text = ⊥

-- a command is asked for, which asks for a text and no task, and of that the status leaves this
pub record HasWritten (files : Option Files) (asked : Option Command) (left : Left)
    (status : Status) : Type 0 where
  pub command : Command
  pub named : asked ≡ Some command
  pub leaves : TextLeaves (IsTextOf files command.call) left status

-- one of the two
abbrev pub HasDone : Option Files → Option Command → Left → Status → Type 0
HasDone files asked left status = HasRun files asked left status ⊎ HasWritten files asked left status

-- what each status leaves
abbrev pub HasLeft : Option Files → Option Command → Left → Status → Type 0
HasLeft files asked left status.Ok = HasDone files asked left status.Ok
HasLeft files asked left SinkFault = HasDone files asked left SinkFault
HasLeft files asked left KeeperFault = HasRun files asked left KeeperFault
HasLeft files asked left NoMemory = HasDone files asked left NoMemory ⊎ IsUnbegun left
HasLeft files asked left HistoryFull = HasRun files asked left HistoryFull
HasLeft files asked left (RowDamaged name bytes) = HasRun files asked left (RowDamaged name bytes)
HasLeft files asked left (NotEmpty name bytes) = HasRun files asked left (NotEmpty name bytes)
HasLeft files asked left _ = IsUnbegun left
