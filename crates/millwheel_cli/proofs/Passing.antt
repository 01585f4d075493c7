-- A plain count has the lines of the case that its files state, with plain passes in the place of its weak
-- computations.
use Rattle.std.proofs.Common.{◌≡◌, List, ℕ, Option, subst}
use Rattle.command_line.specs.declared.command.Inputs.{Inputs}
use Rattle.command_line.specs.declared.command.Call.{Call}
use Rattle.command_line.specs.declared.command.Call.TheVariants.{Solo, Replay, Run, Plain, Load, Collect, Audit}
use Rattle.mw_ports.specs.Shelves.{Files}
use Rattle.topology.specs.Shapes.{Shape}
use Rattle.topology.specs.Rules.{IsTopology}
use Rattle.topology.specs.Folding.{folded}
use Rattle.run_history.specs.Cases.{CaseShape}
use Rattle.plain_answer.specs.Plain.{IsPlainText}
use Rattle.plain_answer.specs.Passes.{HasLinesOf, with_passes, without_weak}
use Rattle.task_runs.specs.declared.status.Status.{Status}
use Rattle.task_runs.specs.declared.status.Status.TheVariants as status
use Rattle.task_runs.specs.declared.task.Task.{Task}
use Rattle.task_runs.specs.Answers.{Left, IsTextWritten, TextLeaves}
use Rattle.millwheel_cli.specs.Tasks.{IsInputsTask, IsTask}
use Rattle.millwheel_cli.specs.Answers.{CallLeaves, IsSeenThrough, SeesThrough}

-- a plain text of a case without its weak computations has the lines of the case with plain passes
abbrev pub IsLawOfPasses : Type 0
IsLawOfPasses = (case : CaseShape) (text : List ℕ) → IsTopology case.topology → IsPlainText (without_weak case) text
    → HasLinesOf (with_passes case) text

-- the case that the files of a task state, whose topology is this
abbrev stated_case : Shape → Task → CaseShape
stated_case shape task = record { topology = shape; sources = task.case.sources }

-- the case of the task is that without its weak computations
case-stated : (shape : Shape) (task : Task) → task.case.topology ≡ folded shape → task.case ≡ without_weak (stated_case shape task)
case-stated shape task is = λ i. record { topology = is i; sources = task.case.sources }

-- so a weak pass is seen through
plain_seen : (files : Option Files) (inputs : Inputs) (task : Task) (left : Left) → IsLawOfPasses
    → IsInputsTask files (Plain inputs) inputs task → IsTextWritten (IsPlainText task.case) left → SeesThrough files inputs left
plain_seen files inputs task left law is written = record {
  file = stated_case is.shape task;
  topology_read = is.topology_read;
  events_read = is.events_read;
  text = written.text;
  lines = law (stated_case is.shape task) written.text is.rules
      (subst (λ (c : CaseShape). IsPlainText c written.text) (case-stated is.shape task is.folding) written.is_text);
  written = written.written;
}

-- in each plain count that is written whole
pub call_seen : (files : Option Files) (call : Call) (task : Task) (left : Left) (s : Status) → IsLawOfPasses → IsTask files call task
    → CallLeaves call task left s → s ≡ status.Ok → IsSeenThrough files call left
call_seen files (Solo inputs) task left s law is leaves ok = tt
call_seen files (Replay plan inputs) task left s law is leaves ok = tt
call_seen files (Run workers rounds plan inputs) task left s law is leaves ok = tt
call_seen files (Plain inputs) task left s law is leaves ok =
    plain_seen files inputs task left law is (subst (TextLeaves (IsPlainText task.case) left) ok leaves)
call_seen files (Load seed lines) task left s law is leaves ok = tt
call_seen files (Collect file) task left s law is leaves ok = tt
call_seen files (Audit inputs trace) task left s law is leaves ok = tt
