-- Why each status comes: what the shelf gave or failed to give, and what files and rows make of a call where
-- a contract can see them. Own.
use Rattle.std.specs.Prelude.{◌≡◌, ◌<◌, ◌⊎◌, ℕ, ◌+◌, ◌-◌, ⊤, true, List, [], ◌∷◌, length, nat_le, if◌then◌else◌, Option, Some, None, IfSome, IsSomeAnd, Result, Ok, Err}
use Rattle.std.specs.Option.{option_map_or}
use Rattle.mw_types.specs.Causes.{Rose}
use Rattle.mw_types.specs.declared.entry.Entry.{Entry}
use Rattle.command_line.specs.declared.command.Inputs.{Inputs}
use Rattle.command_line.specs.declared.command.Call.{Call}
use Rattle.command_line.specs.declared.command.Call.TheVariants.{Solo, Replay, Run, Plain, Load, Collect, Audit}
use Rattle.command_line.specs.declared.command.Command.{Command}
use Rattle.mw_ports.specs.Shelves.{Files}
use Rattle.json_reading.specs.Refusals.{and_then}
use Rattle.topology.specs.Shapes.{Shape}
use Rattle.topology.specs.Folding.{folded, weak_count}
use Rattle.injector.specs.Sources.{Source}
use Rattle.run_history.specs.Cases.{CaseShape}
use Rattle.row_keeper.specs.Rows.{Rows}
use Rattle.task_runs.specs.declared.status.Status.{Status}
use Rattle.task_runs.specs.declared.status.Status.TheVariants.{Usage, NoFile, KeeperFault, SinkFault, NoMemory, NotEmpty, HistoryFull, RowDamaged, ReadFault, TooLong, AuditRefused}
use Rattle.task_runs.specs.declared.status.Status.TheVariants as status
use Rattle.millwheel_cli.specs.Asked.{is_unkept}
use Rattle.task_runs.specs.Limits.{history_limit}
use Rattle.millwheel_cli.specs.Limits.{topology_limit, plan_limit, events_limit, lines_limit, collect_limit, trace_limit}
use Rattle.millwheel_cli.specs.Files.{topology_taken, source_taken, HoldsAs, HoldsTopology, HoldsSource}
use Rattle.millwheel_cli.specs.Loads.{load_topology, load_text}
use Rattle.millwheel_cli.specs.Collects.{collect_taken}
use Rattle.millwheel_cli.specs.Audits.{HoldsCase, HoldsWrong, trace_taken}
use Rattle.task_runs.specs.declared.task.Before.{Before}
use Rattle.task_runs.specs.declared.task.Before.TheVariants.{Steps, Rounds}
use Rattle.millwheel_cli.specs.Tasks.{steps_taken, rounds_taken, HoldsBefore}

-- ---- what the shelf gave

-- what a call saw of a shelf: its files, where a contract can see them, and how its counts stood before and
-- after
pub record ShelfSeen : Type 0 where
  pub files : Option Files
  pub faults : ℕ × ℕ
  pub lacks : ℕ × ℕ

-- why the file of that name was not read: it is not there, it has more bytes than the limit, or reading
-- failed
abbrev pub IsUnread : ShelfSeen → List ℕ → ℕ → Status → Type 0
IsUnread seen name limit (NoFile file) =
    (file ≡ name) × Rose seen.lacks.0 seen.lacks.1 × IfSome seen.files (λ held. held name ≡ None)
IsUnread seen name limit (TooLong file) =
    (file ≡ name) × Rose seen.lacks.0 seen.lacks.1
    × IfSome seen.files (λ held. IsSomeAnd (held name) (λ bytes. limit < length bytes))
IsUnread seen name limit (ReadFault file) = (file ≡ name) × Rose seen.faults.0 seen.faults.1
IsUnread seen name limit _ = ⊥

-- why a file is refused: it was not read, or its bytes are refused
abbrev pub IsFileRefused : {T : Type 0} → ShelfSeen → List ℕ → ℕ → (List ℕ → Result T Status) → Status
    → Type 0
IsFileRefused seen name limit taken status =
    IsUnread seen name limit status ⊎ HoldsAs seen.files name limit taken (Err status)

-- why the topology's file is refused, with so many event files
abbrev pub IsTopologyRefused : ShelfSeen → ℕ → List ℕ → Status → Type 0
IsTopologyRefused seen count name status =
    IsFileRefused seen name topology_limit (topology_taken count) status

-- why one of the event files of these names is refused, the first of which has this number, with room for so
-- many record lines in all of them: it is the first that is not taken
abbrev pub IsSourceRefused : ShelfSeen → ℕ → ℕ → List (List ℕ) → Status → Type 0
IsSourceRefused seen file room [] status = ⊥
IsSourceRefused seen file room (name ∷ names) status =
    IsFileRefused seen name events_limit (source_taken file room) status
    ⊎ ((source : Source) × HoldsSource seen.files file room name source
    × IsSourceRefused seen (file + 1) (room - length source) names status)

-- why the plan's file of a call is refused, where the call names one, over a topology and so many relays
abbrev pub IsPlanRefused : ShelfSeen → Call → Shape → ℕ → Status → Type 0
IsPlanRefused seen (Replay plan inputs) shape weaks status =
    IsFileRefused seen plan plan_limit (steps_taken shape weaks) status
IsPlanRefused seen (Run workers rounds (Some plan) inputs) shape weaks status =
    IsFileRefused seen plan plan_limit (rounds_taken shape workers rounds) status
IsPlanRefused seen _ shape weaks status = ⊥

-- why the plan is refused, which is not read before the topology is taken, and speaks of what is left of that
-- without its weak computations
pub record IsPlanRefusedBehind (seen : ShelfSeen) (call : Call) (inputs : Inputs)
    (status : Status) : Type 0 where
  pub shape : Shape
  pub topology_read : HoldsTopology seen.files inputs.topology (length inputs.events) shape
  pub refused : IsPlanRefused seen call (folded shape) (weak_count shape.computations) status

-- a file that is read before the event files is refused: the topology's, or the plan's
abbrev pub IsRefusedFirst : ShelfSeen → Call → Inputs → Status → Type 0
IsRefusedFirst seen call inputs status =
    IsTopologyRefused seen (length inputs.events) inputs.topology status
    ⊎ IsPlanRefusedBehind seen call inputs status

-- why an event file is refused, of which none is read before the topology and the plan are taken
pub record IsEventsRefusedBehind (seen : ShelfSeen) (call : Call) (inputs : Inputs)
    (status : Status) : Type 0 where
  pub shape : Shape
  pub topology_read : HoldsTopology seen.files inputs.topology (length inputs.events) shape
  pub before : Before
  pub plan_read : HoldsBefore seen.files call (folded shape) (weak_count shape.computations) before
  pub refused : IsSourceRefused seen 0 lines_limit inputs.events status

-- one of the files of a call is refused with the status
abbrev pub IsRefused : ShelfSeen → Call → Inputs → Status → Type 0
IsRefused seen call inputs status =
    IsRefusedFirst seen call inputs status ⊎ IsEventsRefusedBehind seen call inputs status

-- why a trace is refused, which is not read before the files of its run are taken
pub record IsTraceRefusedBehind (seen : ShelfSeen) (inputs : Inputs) (trace : List ℕ)
    (status : Status) : Type 0 where
  pub case : CaseShape
  pub case_read : HoldsCase seen.files inputs case
  pub refused : IsFileRefused seen trace trace_limit trace_taken status

-- why an audit is refused: one of the files of a run is, or the trace's, or the trace is wrong
abbrev pub IsAuditRefused : ShelfSeen → Inputs → List ℕ → Status → Type 0
IsAuditRefused seen inputs trace status = IsRefused seen (Audit inputs trace) inputs status
    ⊎ (IsTraceRefusedBehind seen inputs trace status ⊎ HoldsWrong seen.files inputs trace status)

-- what load runs, or why that is refused: it has a topology and event lines of its own
abbrev pub load_taken : ℕ → ℕ → Result Source Status
load_taken seed lines =
    and_then (topology_taken 1 load_topology) (λ shape. source_taken 0 lines_limit (load_text seed lines))

-- why a call is refused
abbrev pub IsCallRefused : ShelfSeen → Call → Status → Type 0
IsCallRefused seen (Solo inputs) status = IsRefused seen (Solo inputs) inputs status
IsCallRefused seen (Replay plan inputs) status = IsRefused seen (Replay plan inputs) inputs status
IsCallRefused seen (Run workers rounds plan inputs) status =
    IsRefused seen (Run workers rounds plan inputs) inputs status
IsCallRefused seen (Plain inputs) status = IsRefused seen (Plain inputs) inputs status
IsCallRefused seen (Load seed lines) status = load_taken seed lines ≡ Err status
IsCallRefused seen (Collect file) status = IsFileRefused seen file collect_limit collect_taken status
IsCallRefused seen (Audit inputs trace) status = IsAuditRefused seen inputs trace status

-- a command is asked for, and its call is refused with the status
pub record IsCommandRefused (seen : ShelfSeen) (asked : Option Command) (status : Status) : Type 0 where
  pub command : Command
  pub named : asked ≡ Some command
  pub why : IsCallRefused seen command.call status

-- why a status came that comes before a run: no command is asked for, or a file is refused. What is said of
-- the other statuses stands in clauses of their own
abbrev pub HasReason : ShelfSeen → Option Command → Status → Type 0
HasReason seen asked status.Ok = ⊤
HasReason seen asked KeeperFault = ⊤
HasReason seen asked SinkFault = ⊤
HasReason seen asked NoMemory = ⊤
HasReason seen asked (NotEmpty name bytes) = ⊤
HasReason seen asked HistoryFull = ⊤
HasReason seen asked (RowDamaged name bytes) = ⊤
HasReason seen asked Usage = asked ≡ None
HasReason seen asked status = IsCommandRefused seen asked status

-- ---- where a contract can see the files and the rows

-- a file of a shelf, or why it is not read
abbrev pub file_within : Files → List ℕ → ℕ → Result (List ℕ) Status
file_within held name limit =
    option_map_or (λ bytes. if nat_le (length bytes) limit then Ok bytes else Err (TooLong name))
    (held name) (Err (NoFile name))

-- what a file of a shelf is taken for, or why it is refused
abbrev pub file_as : {T : Type 0} → Files → List ℕ → ℕ → (List ℕ → Result T Status) → Result T Status
file_as held name limit taken = and_then (file_within held name limit) taken

-- a source before others, or why one of them is refused
abbrev pub source_before : Source → Result (List Source) Status → Result (List Source) Status
source_before source (Ok sources) = Ok (source ∷ sources)
source_before source (Err status) = Err status

-- what the event files of these names are taken for, the first of which has this number, with room for so
-- many record lines in all of them, or why the first that is not taken is refused
abbrev pub sources_taken : Files → ℕ → ℕ → List (List ℕ) → Result (List Source) Status
sources_taken held file room [] = Ok []
sources_taken held file room (name ∷ names) =
    and_then (file_as held name events_limit (source_taken file room)) (λ source.
    source_before source (sources_taken held (file + 1) (room - length source) names))

-- a run is begun and comes to its end over a keeper without rows; another is refused with its first row
abbrev pub ran_over : Rows → Status
ran_over [] = status.Ok
ran_over ((name, bytes) ∷ rows) = NotEmpty name bytes

-- how a call ends: by what was refused, and else as its run does
abbrev pub ended : {T : Type 0} → Result T Status → Status → Status
ended (Ok x) run = run
ended (Err status) run = status

-- what comes before the drain of a call, over a topology and so many relays: what the plan's file is taken for,
-- where the call names one
abbrev pub before_taken : Files → Call → Shape → ℕ → Result Before Status
before_taken held (Replay plan inputs) shape weaks = file_as held plan plan_limit (steps_taken shape weaks)
before_taken held (Run workers rounds None inputs) shape weaks = Ok (Rounds workers rounds [])
before_taken held (Run workers rounds (Some plan) inputs) shape weaks =
    file_as held plan plan_limit (rounds_taken shape workers rounds)
before_taken held _ shape weaks = Ok (Steps [])

-- the same over what is left of a topology without its weak computations, each of which is a relay
abbrev pub before_folded : Files → Call → Shape → Result Before Status
before_folded held call shape = before_taken held call (folded shape) (weak_count shape.computations)

-- what files of a shelf are taken for, as those of a call: the topology is tried first, then the plan, and
-- then the event files in their order
abbrev pub inputs_taken : Files → Call → Inputs → Result (List Source) Status
inputs_taken held call inputs =
    and_then (file_as held inputs.topology topology_limit (topology_taken (length inputs.events))) (λ shape.
    and_then (before_folded held call shape) (λ before. sources_taken held 0 lines_limit inputs.events))

-- how the plain count ends, by files of a shelf: no keeper has a part in it
abbrev pub plain_for : Files → Inputs → Status
plain_for held inputs = ended (inputs_taken held (Plain inputs) inputs) status.Ok

-- how it ends that the live lines of a file of a shelf are written
abbrev pub collect_for : Files → List ℕ → Status
collect_for held file = ended (file_as held file collect_limit collect_taken) status.Ok

-- how it ends that a trace which is not wrong is audited, by files of a shelf
abbrev pub audit_for : Files → Inputs → List ℕ → Status
audit_for held inputs trace = ended (and_then (inputs_taken held (Audit inputs trace) inputs) (λ sources.
    file_as held trace trace_limit trace_taken)) status.Ok

-- how a call ends, by files of a shelf and, last, by the rows of a keeper
abbrev pub answer_for : Files → Rows → Call → Status
answer_for held rows (Solo inputs) = ended (inputs_taken held (Solo inputs) inputs) (ran_over rows)
answer_for held rows (Replay plan inputs) =
    ended (inputs_taken held (Replay plan inputs) inputs) (ran_over rows)
answer_for held rows (Run workers rounds plan inputs) =
    ended (inputs_taken held (Run workers rounds plan inputs) inputs) (ran_over rows)
answer_for held rows (Plain inputs) = plain_for held inputs
answer_for held rows (Load seed lines) = ended (load_taken seed lines) (ran_over rows)
answer_for held rows (Collect file) = collect_for held file
answer_for held rows (Audit inputs trace) = audit_for held inputs trace

-- the answer to a command over a shelf that holds these files and a keeper that holds these rows, where
-- nothing fails, memory does not run out, and the history has room; where none is asked for it is Usage
abbrev pub answer_of : Files → Rows → Option Command → Status
answer_of held rows asked =
    option_map_or (λ (command : Command). answer_for held rows command.call) asked Usage

-- a call is an audit of files of a shelf, and the status says that its trace is wrong
abbrev pub IsCallWrong : Files → Call → Status → Type 0
IsCallWrong held (Audit inputs trace) status = HoldsWrong (Some held) inputs trace status
IsCallWrong held _ status = ⊥

-- so it is of the command that is asked for
pub record IsCommandWrong (held : Files) (asked : Option Command) (status : Status) : Type 0 where
  pub command : Command
  pub named : asked ≡ Some command
  pub wrong : IsCallWrong held command.call status

-- the status is that answer; only memory may run out in its place, or a run fill the history, or a trace be
-- wrong
abbrev pub IsAnswer : Files → Rows → Option Command → List Entry → Status → Type 0
IsAnswer held rows asked history NoMemory = ⊤
IsAnswer held rows asked history HistoryFull =
    (answer_of held rows asked ≡ status.Ok) × (length history ≡ history_limit)
IsAnswer held rows asked history (AuditRefused line why) =
    IsCommandWrong held asked (AuditRefused line why)
    ⊎ (AuditRefused line why ≡ answer_of held rows asked)
IsAnswer held rows asked history status = status ≡ answer_of held rows asked

-- a call is asked for in which no keeper has a part
abbrev pub AsksUnkept : Option Command → Call → Type 0
AsksUnkept asked call = (asked ≡ Some (record { call = call; keep = None })) × (is_unkept call ≡ true)

-- the status is the answer to such a call, by the files of a shelf alone; only memory may run out in its
-- place, or a trace be wrong
abbrev pub IsUnkeptAnswer : Files → Call → Status → Type 0
IsUnkeptAnswer held call NoMemory = ⊤
IsUnkeptAnswer held call (AuditRefused line why) =
    IsCallWrong held call (AuditRefused line why) ⊎ (AuditRefused line why ≡ answer_for held [] call)
IsUnkeptAnswer held call status = status ≡ answer_for held [] call
