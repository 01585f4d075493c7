-- Why a file was refused is why the call was.
use Rattle.std.proofs.Common.{◌≡◌, ◌≤◌, ◌+◌, ◌-◌, ◌⊎◌, ℕ, List, [], ◌∷◌, length, Option, None, Some, Result, subst, inl, inr}
use Rattle.mw_types.proofs.CauseLaws.{Rose-before}
use Rattle.command_line.specs.declared.command.Inputs.{Inputs}
use Rattle.command_line.specs.declared.command.Call.{Call}
use Rattle.command_line.specs.declared.command.Call.TheVariants.{Solo, Replay, Run, Plain, Load, Collect, Audit}
use Rattle.command_line.specs.declared.command.Command.{Command}
use Rattle.mw_ports.specs.Shelves.{Files}
use Rattle.topology.specs.Shapes.{Shape}
use Rattle.topology.specs.Folding.{RoutesView, folded, routes_in, weak_count}
use Rattle.task_runs.specs.declared.task.Before.{Before}
use Rattle.task_runs.specs.declared.task.Task.{Task}
use Rattle.task_runs.specs.declared.status.Status.{Status}
use Rattle.task_runs.specs.declared.status.Status.TheVariants as status
use Rattle.millwheel_cli.specs.declared.refusal.Refusal.{Refusal}
use Rattle.millwheel_cli.specs.declared.refusal.Refusal.TheVariants.{NoFile, TopologyRefused, EventsRefused, PlanRefused, NoMemory, ReadFault, TooLong, FileCount, CollectRefused, AuditRefused}
use Rattle.millwheel_cli.specs.Limits.{plan_limit, events_limit, lines_limit, trace_limit}
use Rattle.millwheel_cli.specs.Files.{source_taken}
use Rattle.millwheel_cli.specs.Tasks.{rounds_taken, steps_taken, HoldsBefore, IsInputsTask}
use Rattle.millwheel_cli.specs.Reasons.{ShelfSeen, IsAuditRefused, IsTraceRefusedBehind, IsUnread, IsFileRefused, IsPlanRefused, IsSourceRefused, IsRefusedFirst, IsRefused, IsCallRefused, IsCommandRefused, HasReason}
use Rattle.millwheel_cli.specs.Audits.{CountsTrace, HoldsCase, HoldsRun, HoldsWrong, trace_taken}
use Rattle.millwheel_cli.specs.Inside.{HoldsLeft, IsTraceRefused, status_of, UnlessWant}
use Rattle.millwheel_cli.proofs.Refusals.{unless_map}

-- what was seen of a shelf with these files, while its counts rose so
abbrev pub seen_of : Option Files → ℕ → ℕ → ℕ → ℕ → ShelfSeen
seen_of files f0 f1 l0 l1 = record { files = files; faults = (f0, f1); lacks = (l0, l1) }

-- what a later read saw is part of what the whole call saw
unread_over : (files : Option Files) (f0 f1 f2 l0 l1 l2 : ℕ) (name : List ℕ) (limit : ℕ) (s : Status) → f0 ≤ f1 → l0 ≤ l1
    → IsUnread (seen_of files f1 f2 l1 l2) name limit s → IsUnread (seen_of files f0 f2 l0 l2) name limit s
unread_over files f0 f1 f2 l0 l1 l2 name limit status.Ok f l is = absurd is
unread_over files f0 f1 f2 l0 l1 l2 name limit status.Usage f l is = absurd is
unread_over files f0 f1 f2 l0 l1 l2 name limit (status.NoFile n) f l is = (is.0, Rose-before l0 l1 l2 l is.1, is.2)
unread_over files f0 f1 f2 l0 l1 l2 name limit (status.TopologyRefused why) f l is = absurd is
unread_over files f0 f1 f2 l0 l1 l2 name limit (status.EventsRefused file line why) f l is = absurd is
unread_over files f0 f1 f2 l0 l1 l2 name limit (status.PlanRefused line) f l is = absurd is
unread_over files f0 f1 f2 l0 l1 l2 name limit status.KeeperFault f l is = absurd is
unread_over files f0 f1 f2 l0 l1 l2 name limit status.SinkFault f l is = absurd is
unread_over files f0 f1 f2 l0 l1 l2 name limit status.NoMemory f l is = absurd is
unread_over files f0 f1 f2 l0 l1 l2 name limit (status.NotEmpty row bytes) f l is = absurd is
unread_over files f0 f1 f2 l0 l1 l2 name limit status.HistoryFull f l is = absurd is
unread_over files f0 f1 f2 l0 l1 l2 name limit (status.RowDamaged row bytes) f l is = absurd is
unread_over files f0 f1 f2 l0 l1 l2 name limit (status.ReadFault n) f l is = (is.0, Rose-before f0 f1 f2 f is.1)
unread_over files f0 f1 f2 l0 l1 l2 name limit (status.TooLong n) f l is = (is.0, Rose-before l0 l1 l2 l is.1, is.2)
unread_over files f0 f1 f2 l0 l1 l2 name limit (status.FileCount n m) f l is = absurd is
unread_over files f0 f1 f2 l0 l1 l2 name limit (status.CollectRefused line first) f l is = absurd is
unread_over files f0 f1 f2 l0 l1 l2 name limit (status.AuditRefused line r) f l is = absurd is

-- so it is of a file that is refused
pub file_over : {T : Type 0} (files : Option Files) (f0 f1 f2 l0 l1 l2 : ℕ) (name : List ℕ) (limit : ℕ)
    (taken : List ℕ → Result T Status) (s : Status) → f0 ≤ f1 → l0 ≤ l1
    → IsFileRefused (seen_of files f1 f2 l1 l2) name limit taken s → IsFileRefused (seen_of files f0 f2 l0 l2) name limit taken s
file_over files f0 f1 f2 l0 l1 l2 name limit taken s f l is = elim is [
  | inl unread ↦ inl (unread_over files f0 f1 f2 l0 l1 l2 name limit s f l unread)
  | inr held ↦ inr held
]

-- and of event files
pub source_over : (files : Option Files) (f0 f1 f2 l0 l1 l2 file room : ℕ) (names : List (List ℕ)) (s : Status) → f0 ≤ f1 → l0 ≤ l1
    → IsSourceRefused (seen_of files f1 f2 l1 l2) file room names s → IsSourceRefused (seen_of files f0 f2 l0 l2) file room names s
source_over files f0 f1 f2 l0 l1 l2 file room [] s f l is = is
source_over files f0 f1 f2 l0 l1 l2 file room (name ∷ names) s f l is = elim is [
  | inl first ↦ inl (file_over files f0 f1 f2 l0 l1 l2 name events_limit (source_taken file room) s f l first)
  | inr later ↦ inr (
    later.0,
    later.1,
    source_over files f0 f1 f2 l0 l1 l2 (file + 1) (room - length later.0) names s f l later.2,
  )
]

-- and of a plan
plan_over : (files : Option Files) (f0 f1 f2 l0 l1 l2 : ℕ) (call : Call) (shape : Shape) (weaks : ℕ) (s : Status)
    → f0 ≤ f1 → l0 ≤ l1 → IsPlanRefused (seen_of files f1 f2 l1 l2) call shape weaks s
    → IsPlanRefused (seen_of files f0 f2 l0 l2) call shape weaks s
plan_over files f0 f1 f2 l0 l1 l2 (Solo inputs) shape weaks s f l is = absurd is
plan_over files f0 f1 f2 l0 l1 l2 (Replay plan inputs) shape weaks s f l is =
    file_over files f0 f1 f2 l0 l1 l2 plan plan_limit (steps_taken shape weaks) s f l is
plan_over files f0 f1 f2 l0 l1 l2 (Run workers rounds None inputs) shape weaks s f l is = absurd is
plan_over files f0 f1 f2 l0 l1 l2 (Run workers rounds (Some plan) inputs) shape weaks s f l is =
    file_over files f0 f1 f2 l0 l1 l2 plan plan_limit (rounds_taken shape workers rounds) s f l is
plan_over files f0 f1 f2 l0 l1 l2 (Plain inputs) shape weaks s f l is = absurd is
plan_over files f0 f1 f2 l0 l1 l2 (Load seed lines) shape weaks s f l is = absurd is
plan_over files f0 f1 f2 l0 l1 l2 (Collect file) shape weaks s f l is = absurd is
plan_over files f0 f1 f2 l0 l1 l2 (Audit inputs trace) shape weaks s f l is = absurd is

-- what is so over what is left of a topology is so over what folding leaves of it
pub over_left : (P : Shape → ℕ → Type 0) (shape left : Shape) (routes : RoutesView) → left ≡ folded shape → routes ≡ routes_in shape
    → P left routes.weaks → P (folded shape) (weak_count shape.computations)
over_left P shape left routes folding ways is =
    subst (λ (r : RoutesView). P (folded shape) r.weaks) ways (subst (λ (s : Shape). P s routes.weaks) folding is)

-- so it is of the plan, where the topology was taken before and the shelf's files stayed as they were
pub plan_refused : (files later : Option Files) (f0 f1 f2 l0 l1 l2 : ℕ) (call : Call) (inputs : Inputs) (left : Shape)
    (routes : RoutesView) (refusal : Refusal)
    → later ≡ files → HoldsLeft files inputs.topology (length inputs.events) left routes → f0 ≤ f1 → l0 ≤ l1
    → UnlessWant (IsPlanRefused (seen_of later f1 f2 l1 l2) call left routes.weaks) refusal
    → UnlessWant (IsRefusedFirst (seen_of files f0 f2 l0 l2) call inputs) refusal
plan_refused files later f0 f1 f2 l0 l1 l2 call inputs left routes refusal unchanged held f l is =
    unless_map (IsPlanRefused (seen_of later f1 f2 l1 l2) call left routes.weaks)
    (IsRefusedFirst (seen_of files f0 f2 l0 l2) call inputs) refusal (λ s why. inr (record {
      shape = held.shape;
      topology_read = held.topology_read;
      refused = over_left (λ (t : Shape) (weaks : ℕ). IsPlanRefused (seen_of files f0 f2 l0 l2) call t weaks s) held.shape left routes
          held.folding held.ways (plan_over files f0 f1 f2 l0 l1 l2 call left routes.weaks s f l
          (subst (λ (fs : Option Files). IsPlanRefused (seen_of fs f1 f2 l1 l2) call left routes.weaks s) unchanged why));
    })) is

-- why one of the first files was refused is why one of the files was
pub first_refused : (seen : ShelfSeen) (call : Call) (inputs : Inputs) (refusal : Refusal)
    → UnlessWant (IsRefusedFirst seen call inputs) refusal → UnlessWant (IsRefused seen call inputs) refusal
first_refused seen call inputs refusal is =
    unless_map (IsRefusedFirst seen call inputs) (IsRefused seen call inputs) refusal (λ s why. inl why) is

-- why an event file was refused is why one of the files was, where the topology and the plan were taken before and
-- the shelf's files stayed as they were
pub events_refused : (files later : Option Files) (f0 f1 f2 l0 l1 l2 : ℕ) (call : Call) (inputs : Inputs)
    (names : List (List ℕ)) (left : Shape) (routes : RoutesView) (before : Before) (refusal : Refusal)
    → names ≡ inputs.events → later ≡ files → HoldsLeft files inputs.topology (length inputs.events) left routes
    → HoldsBefore files call left routes.weaks before → f0 ≤ f1 → l0 ≤ l1
    → UnlessWant (IsSourceRefused (seen_of later f1 f2 l1 l2) 0 lines_limit names) refusal
    → UnlessWant (IsRefused (seen_of files f0 f2 l0 l2) call inputs) refusal
events_refused files later f0 f1 f2 l0 l1 l2 call inputs names left routes before refusal same unchanged held planned f l is =
    unless_map (IsSourceRefused (seen_of later f1 f2 l1 l2) 0 lines_limit names) (IsRefused (seen_of files f0 f2 l0 l2) call inputs)
    refusal (λ s why. inr (record {
      shape = held.shape;
      topology_read = held.topology_read;
      before = before;
      plan_read = over_left (λ (t : Shape) (weaks : ℕ). HoldsBefore files call t weaks before) held.shape left routes held.folding
          held.ways planned;
      refused = source_over files f0 f1 f2 l0 l1 l2 0 lines_limit inputs.events s f l
          (subst (λ (fs : Option Files). IsSourceRefused (seen_of fs f1 f2 l1 l2) 0 lines_limit inputs.events s) unchanged
          (subst (λ (ns : List (List ℕ)). IsSourceRefused (seen_of later f1 f2 l1 l2) 0 lines_limit ns s) same why));
    })) is

-- the files of the task of an audit's inputs are those of its case
pub case_held : (files : Option Files) (call : Call) (inputs : Inputs) (task : Task) → IsInputsTask files call inputs task
    → HoldsCase files inputs task.case
case_held files call inputs task is = record {
  shape = is.shape;
  topology_read = is.topology_read;
  folding = is.folding;
  events_read = is.events_read;
}

-- why a file of an audit's inputs was refused is why the audit was
pub audit_inputs_refused : (seen : ShelfSeen) (call : Call) (inputs : Inputs) (trace : List ℕ) (refusal : Refusal)
    → call ≡ Audit inputs trace → UnlessWant (IsRefused seen call inputs) refusal
    → UnlessWant (IsAuditRefused seen inputs trace) refusal
audit_inputs_refused seen call inputs trace refusal is why =
    unless_map (IsRefused seen call inputs) (IsAuditRefused seen inputs trace) refusal
    (λ s refused. inl (subst (λ (c : Call). IsRefused seen c inputs s) is refused)) why

-- so it is of the trace, where the files of the inputs were taken before and the shelf's files stayed as they were
pub audit_trace_refused : (files later : Option Files) (f0 f1 f2 l0 l1 l2 : ℕ) (call : Call) (inputs : Inputs) (trace : List ℕ)
    (task : Task) (refusal : Refusal)
    → later ≡ files → IsInputsTask files call inputs task → f0 ≤ f1 → l0 ≤ l1
    → UnlessWant (IsTraceRefused (seen_of later f1 f2 l1 l2) trace task.case) refusal
    → UnlessWant (IsAuditRefused (seen_of files f0 f2 l0 l2) inputs trace) refusal
audit_trace_refused files later f0 f1 f2 l0 l1 l2 call inputs trace task refusal unchanged read f l refused =
    unless_map (IsTraceRefused (seen_of later f1 f2 l1 l2) trace task.case) (IsAuditRefused (seen_of files f0 f2 l0 l2) inputs trace)
    refusal (λ s why. inr (by_why s
    (subst (λ (fs : Option Files). IsTraceRefused (seen_of fs f1 f2 l1 l2) trace task.case s) unchanged why))) refused
  where
    by_why : (s : Status) → IsTraceRefused (seen_of files f1 f2 l1 l2) trace task.case s
        → IsTraceRefusedBehind (seen_of files f0 f2 l0 l2) inputs trace s ⊎ HoldsWrong files inputs trace s
    by_why s why = elim why [
      | inl file ↦ inl (record {
        case = task.case;
        case_read = case_held files call inputs task read;
        refused = file_over files f0 f1 f2 l0 l1 l2 trace trace_limit trace_taken s f l file;
      })
      | inr wrong ↦ inr (record { case = task.case; case_read = case_held files call inputs task read; wrong = wrong })
    ]

-- the files of an audit, with what is written of its trace
pub run_held : (files later : Option Files) (call : Call) (inputs : Inputs) (trace text : List ℕ) (task : Task)
    → later ≡ files → IsInputsTask files call inputs task → CountsTrace later trace task.case text → HoldsRun files inputs trace text
run_held files later call inputs trace text task unchanged read counts = record {
  case = task.case;
  case_read = case_held files call inputs task read;
  counts = subst (λ (fs : Option Files). CountsTrace fs trace task.case text) unchanged counts;
}

-- a command is asked for whose call is refused
refused_call : (seen : ShelfSeen) (asked : Option Command) (command : Command) (s : Status) → asked ≡ Some command
    → IsCallRefused seen command.call s → IsCommandRefused seen asked s
refused_call seen asked command s named is = record { command = command; named = named; why = is }

-- why one of the files was refused is why the call was
pub call_reason : (seen : ShelfSeen) (asked : Option Command) (command : Command) (refusal : Refusal)
    → asked ≡ Some command → UnlessWant (IsCallRefused seen command.call) refusal
    → HasReason seen asked (status_of refusal)
call_reason seen asked command (NoFile name) named is = refused_call seen asked command _ named is
call_reason seen asked command (TopologyRefused why) named is = refused_call seen asked command _ named is
call_reason seen asked command (EventsRefused file line why) named is = refused_call seen asked command _ named is
call_reason seen asked command (PlanRefused line) named is = refused_call seen asked command _ named is
call_reason seen asked command NoMemory named is = tt
call_reason seen asked command (ReadFault name) named is = refused_call seen asked command _ named is
call_reason seen asked command (TooLong name) named is = refused_call seen asked command _ named is
call_reason seen asked command (FileCount files injectors) named is = refused_call seen asked command _ named is
call_reason seen asked command (CollectRefused line first) named is = refused_call seen asked command _ named is
call_reason seen asked command (AuditRefused line r) named is = refused_call seen asked command _ named is
