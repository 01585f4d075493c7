-- What a call's task leaves, or its text, or a refusal, is what the status leaves, which has its reason.
use Rattle.std.proofs.Common.{◌≡◌, Option, Some, None, inl, inr, sym, subst, arith}
use Rattle.command_line.specs.declared.command.Call.{Call}
use Rattle.command_line.specs.declared.command.Call.TheVariants.{Solo, Replay, Run, Plain, Load, Collect, Audit}
use Rattle.command_line.specs.declared.command.Command.{Command}
use Rattle.mw_ports.specs.Shelves.{Files}
use Rattle.plain_answer.specs.Plain.{IsPlainText}
use Rattle.task_runs.specs.declared.status.Status.{Status}
use Rattle.task_runs.specs.declared.status.Status.TheVariants as status
use Rattle.task_runs.specs.declared.task.Task.{Task}
use Rattle.millwheel_cli.specs.declared.refusal.Refusal.{Refusal}
use Rattle.millwheel_cli.specs.declared.refusal.Refusal.TheVariants.{NoFile, TopologyRefused, EventsRefused, PlanRefused, NoMemory, ReadFault, TooLong, FileCount, CollectRefused, AuditRefused}
use Rattle.millwheel_cli.specs.Reasons.{ShelfSeen, HasReason}
use Rattle.task_runs.specs.Answers.{Left, IsUnbegun}
use Rattle.millwheel_cli.specs.Answers.{IsTextOf, CallLeaves, HasRun, HasWritten, HasDone, HasLeft}
use Rattle.millwheel_cli.specs.Inside.{IsCallEnd, status_of}
use Rattle.millwheel_cli.proofs.Reasons.{call_reason}
use Rattle.millwheel_cli.proofs.Passing.{IsLawOfPasses, call_seen}
use Rattle.task_runs.proofs.Leaving.{MayEnd, run_ends, text_ends}

-- where no run was begun, nothing is left with a refusal of the files
pub left_of_refusal : (files : Option Files) (asked : Option Command) (left : Left) (refusal : Refusal) → IsUnbegun left
    → HasLeft files asked left (status_of refusal)
left_of_refusal files asked left (NoFile name) is = is
left_of_refusal files asked left (TopologyRefused why) is = is
left_of_refusal files asked left (EventsRefused file line why) is = is
left_of_refusal files asked left (PlanRefused line) is = is
left_of_refusal files asked left NoMemory is = inr is
left_of_refusal files asked left (ReadFault name) is = is
left_of_refusal files asked left (TooLong name) is = is
left_of_refusal files asked left (FileCount n m) is = is
left_of_refusal files asked left (CollectRefused line first) is = is
left_of_refusal files asked left (AuditRefused line r) is = is

-- so is each of a call
pub call_ends : (call : Call) (task : Task) (left : Left) (s : Status) → CallLeaves call task left s → MayEnd s
call_ends (Solo inputs) task left s leaves = run_ends task left s leaves
call_ends (Replay plan inputs) task left s leaves = run_ends task left s leaves
call_ends (Run workers rounds plan inputs) task left s leaves = run_ends task left s leaves
call_ends (Plain inputs) task left s leaves = text_ends (IsPlainText task.case) left s leaves
call_ends (Load seed lines) task left s leaves = run_ends task left s leaves
call_ends (Collect file) task left s leaves = absurd leaves
call_ends (Audit inputs trace) task left s leaves = absurd leaves

-- what a command's task leaves is what a status leaves that may come then
left_of_run : (files : Option Files) (asked : Option Command) (left : Left) (s : Status) → HasRun files asked left s → MayEnd s
    → HasLeft files asked left s
left_of_run files asked left status.Ok run ends = inl run
left_of_run files asked left status.Usage run ends = absurd ends
left_of_run files asked left (status.NoFile n) run ends = absurd ends
left_of_run files asked left (status.TopologyRefused why) run ends = absurd ends
left_of_run files asked left (status.EventsRefused file line why) run ends = absurd ends
left_of_run files asked left (status.PlanRefused line) run ends = absurd ends
left_of_run files asked left status.KeeperFault run ends = run
left_of_run files asked left status.SinkFault run ends = inl run
left_of_run files asked left status.NoMemory run ends = inl (inl run)
left_of_run files asked left (status.NotEmpty name bytes) run ends = run
left_of_run files asked left status.HistoryFull run ends = run
left_of_run files asked left (status.RowDamaged name bytes) run ends = run
left_of_run files asked left (status.ReadFault n) run ends = absurd ends
left_of_run files asked left (status.TooLong n) run ends = absurd ends
left_of_run files asked left (status.FileCount n m) run ends = absurd ends
left_of_run files asked left (status.CollectRefused line first) run ends = absurd ends
left_of_run files asked left (status.AuditRefused line r) run ends = absurd ends

-- so is what a command's text leaves
left_of_text : (files : Option Files) (asked : Option Command) (left : Left) (s : Status) → HasWritten files asked left s
    → HasLeft files asked left s
left_of_text files asked left status.Ok text = inr text
left_of_text files asked left status.Usage text = absurd text.leaves
left_of_text files asked left (status.NoFile n) text = absurd text.leaves
left_of_text files asked left (status.TopologyRefused why) text = absurd text.leaves
left_of_text files asked left (status.EventsRefused file line why) text = absurd text.leaves
left_of_text files asked left (status.PlanRefused line) text = absurd text.leaves
left_of_text files asked left status.KeeperFault text = absurd text.leaves
left_of_text files asked left status.SinkFault text = inr text
left_of_text files asked left status.NoMemory text = inl (inr text)
left_of_text files asked left (status.NotEmpty name bytes) text = absurd text.leaves
left_of_text files asked left status.HistoryFull text = absurd text.leaves
left_of_text files asked left (status.RowDamaged name bytes) text = absurd text.leaves
left_of_text files asked left (status.ReadFault n) text = absurd text.leaves
left_of_text files asked left (status.TooLong n) text = absurd text.leaves
left_of_text files asked left (status.FileCount n m) text = absurd text.leaves
left_of_text files asked left (status.CollectRefused line first) text = absurd text.leaves
left_of_text files asked left (status.AuditRefused line r) text = absurd text.leaves

-- how a call ends is what its status leaves
pub left_of_call : (seen : ShelfSeen) (asked : Option Command) (command : Command) (left : Left) (s : Status)
    → IsLawOfPasses → asked ≡ Some command → IsCallEnd seen command.call left s → HasLeft seen.files asked left s
left_of_call seen asked command left s law named end = elim end [
  | inl is ↦ left_of_run seen.files asked left s
      (record {
        command = command;
        named = named;
        task = is.task;
        is_task = is.is_task;
        leaves = is.leaves;
        passes = call_seen seen.files command.call is.task left s law is.is_task is.leaves;
      })
      (call_ends command.call is.task left s is.leaves)
  | inr text ↦ elim text [
    | inl leaves ↦ left_of_text seen.files asked left s (record { command = command; named = named; leaves = leaves })
    | inr is ↦ subst (λ t. HasLeft seen.files asked left t) (sym is.same)
        (left_of_refusal seen.files asked left is.refusal is.unbegun)
  ]
]

-- with Ok that is the whole
pub ok_of_left : (files : Option Files) (asked : Option Command) (left : Left) (s : Status) → HasLeft files asked left s → s ≡ status.Ok
    → HasDone files asked left status.Ok
ok_of_left files asked left s is ok = subst (λ t. HasLeft files asked left t) ok is

-- a status that may come once the files are read has its reason elsewhere
pub end_reason : (seen : ShelfSeen) (asked : Option Command) (s : Status) → MayEnd s → HasReason seen asked s
end_reason seen asked status.Ok ends = tt
end_reason seen asked status.Usage ends = absurd ends
end_reason seen asked (status.NoFile n) ends = absurd ends
end_reason seen asked (status.TopologyRefused why) ends = absurd ends
end_reason seen asked (status.EventsRefused file line why) ends = absurd ends
end_reason seen asked (status.PlanRefused line) ends = absurd ends
end_reason seen asked status.KeeperFault ends = tt
end_reason seen asked status.SinkFault ends = tt
end_reason seen asked status.NoMemory ends = tt
end_reason seen asked (status.NotEmpty name bytes) ends = tt
end_reason seen asked status.HistoryFull ends = tt
end_reason seen asked (status.RowDamaged name bytes) ends = tt
end_reason seen asked (status.ReadFault n) ends = absurd ends
end_reason seen asked (status.TooLong n) ends = absurd ends
end_reason seen asked (status.FileCount n m) ends = absurd ends
end_reason seen asked (status.CollectRefused line first) ends = absurd ends
end_reason seen asked (status.AuditRefused line r) ends = absurd ends

-- where a command is asked for it is not that none is
pub not_none : (found : Option Command) (call : Command) → found ≡ Some call → found ≡ None → ⊥
not_none found call named none = grind (arith, named, none)

-- how a call ends has its reason
pub reason_of_call : (seen : ShelfSeen) (asked : Option Command) (command : Command) (left : Left) (s : Status)
    → asked ≡ Some command → IsCallEnd seen command.call left s → HasReason seen asked s
reason_of_call seen asked command left s named end = elim end [
  | inl is ↦ end_reason seen asked s (call_ends command.call is.task left s is.leaves)
  | inr text ↦ elim text [
    | inl leaves ↦ end_reason seen asked s (text_ends (IsTextOf seen.files command.call) left s leaves)
    | inr is ↦ subst (λ t. HasReason seen asked t) (sym is.same) (call_reason seen asked command is.refusal named is.why)
  ]
]

-- a call that was read does not end with Usage
pub no_usage : (seen : ShelfSeen) (asked : Option Command) (command : Command) (s : Status) → asked ≡ Some command
    → HasReason seen asked s → s ≡ status.Usage → ⊥
no_usage seen asked command s named why is =
    not_none asked command named (subst (λ t. HasReason seen asked t) is why)
