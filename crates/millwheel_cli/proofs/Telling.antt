-- A shelf whose files a contract can see, and a keeper whose rows it can see, decide the answer.
use Rattle.std.proofs.Common.{◌≡◌, ◌⊎◌, ◌≤◌, ◌<◌, ◌∙◌, ◌+◌, ◌-◌, ℕ, nat_le, true, false, cond, List, [], ◌∷◌, Option, Some, None, IfSome, IsSomeAnd, Result, Ok, Err, length, slice_get, refl, sym, ap, subst, inl, inr, true≢false, arith}
use Rattle.std.specs.Prelude.{⊤}
use Rattle.std.specs.Option.{option_map_or, is_some}
use Rattle.std.proofs.lemmas.Option.{same_Some}
use Rattle.mw_types.specs.Causes.{Rose}
use Rattle.mw_types.specs.declared.identity.RowName.{RowName}
use Rattle.command_line.specs.declared.command.Inputs.{Inputs}
use Rattle.command_line.specs.declared.command.Call.{Call}
use Rattle.command_line.specs.declared.command.Call.TheVariants.{Solo, Replay, Run, Plain, Load, Collect, Audit}
use Rattle.command_line.specs.declared.command.Command.{Command}
use Rattle.mw_ports.specs.Shelves.{Files}
use Rattle.row_keeper.specs.Rows.{Rows}
use Rattle.injector.specs.Sources.{Source}
use Rattle.plain_answer.specs.Plain.{IsPlainText}
use Rattle.topology.specs.Shapes.{Shape}
use Rattle.topology.specs.Folding.{folded, weak_count}
use Rattle.run_history.specs.Cases.{CaseShape}
use Rattle.json_reading.specs.Refusals.{and_then}
use Rattle.task_runs.specs.declared.task.Before.{Before}
use Rattle.task_runs.specs.declared.task.Task.{Task}
use Rattle.task_runs.specs.declared.status.Status.{Status}
use Rattle.task_runs.specs.declared.status.Status.TheVariants.{Usage, NoFile, TopologyRefused, EventsRefused, PlanRefused, KeeperFault, SinkFault, NoMemory, NotEmpty, HistoryFull, RowDamaged, ReadFault, TooLong, FileCount, CollectRefused, AuditRefused}
use Rattle.task_runs.specs.declared.status.Status.TheVariants as status
use Rattle.millwheel_cli.specs.Limits.{topology_limit, plan_limit, events_limit, lines_limit, collect_limit, trace_limit}
use Rattle.millwheel_cli.specs.Files.{HoldsAs, HoldsSources, topology_taken, source_taken}
use Rattle.millwheel_cli.specs.Loads.{load_text}
use Rattle.millwheel_cli.specs.Audits.{HoldsCase, HoldsWrong, SaysWrong, trace_taken}
use Rattle.millwheel_cli.specs.Tasks.{rounds_taken, steps_taken, HoldsBefore, IsInputsTask, IsLoadTask, IsTask}
use Rattle.millwheel_cli.specs.Collects.{collect_taken}
use Rattle.millwheel_cli.specs.Asked.{is_unkept}
use Rattle.millwheel_cli.specs.Reasons.{ShelfSeen, IsCallWrong, IsCommandWrong, IsUnread, IsFileRefused, IsPlanRefused, IsSourceRefused, IsRefused, IsCallRefused, IsCommandRefused, HasReason, file_within, file_as, source_before, sources_taken, before_folded, before_taken, inputs_taken, load_taken, ended, ran_over, answer_for, answer_of, IsAnswer, AsksUnkept, IsUnkeptAnswer}
use Rattle.task_runs.specs.Answers.{Left, IsFull, IsDamagedAt, RunLeaves, TextLeaves}
use Rattle.millwheel_cli.specs.Answers.{IsTextOf, CallLeaves, HasRun, HasDone, HasLeft}
use Rattle.millwheel_cli.proofs.Reasons.{over_left}

-- what is said of something where it is told is said of it
told_of : {T : Type 0} (found : Option T) (held : T) (P : T → Type 0) → found ≡ Some held → IfSome found P → P held
told_of found held P told is = subst (λ fs. IfSome fs P) told is

-- a number that is at most another tests so
nat_le-true : (a b : ℕ) → a ≤ b → nat_le a b ≡ true
nat_le-true a b le = grind (arith, le)

-- a number that is above another tests so
nat_le-false : (a b : ℕ) → b < a → nat_le a b ≡ false
nat_le-false a b lt = grind (arith, lt)

-- a file that is there within its limit is read
file_within-short : (held : Files) (name : List ℕ) (limit : ℕ) (bytes : List ℕ) → held name ≡ Some bytes → length bytes ≤ limit
    → file_within held name limit ≡ Ok bytes
file_within-short held name limit bytes there short =
    ap (λ (found : Option (List ℕ)). option_map_or (λ bs. cond (nat_le (length bs) limit) (Ok bs) (Err (TooLong name))) found
    (Err (NoFile name))) there
    ∙ ap (λ b. cond b (Ok bytes) (Err (TooLong name))) (nat_le-true (length bytes) limit short)

-- a file that is not there is missing
file_within-none : (held : Files) (name : List ℕ) (limit : ℕ) → held name ≡ None → file_within held name limit ≡ Err (NoFile name)
file_within-none held name limit none =
    ap (λ (found : Option (List ℕ)). option_map_or (λ bs. cond (nat_le (length bs) limit) (Ok bs) (Err (TooLong name))) found
    (Err (NoFile name))) none

-- bytes over the limit are too long
long_of : (name : List ℕ) (limit : ℕ) (found : Option (List ℕ)) → IsSomeAnd found (λ bytes. limit < length bytes)
    → option_map_or (λ bs. cond (nat_le (length bs) limit) (Ok bs) (Err (TooLong name))) found (Err (NoFile name)) ≡ Err (TooLong name)
long_of name limit None is = absurd is
long_of name limit (Some bytes) is = ap (λ b. cond b (Ok bytes) (Err (TooLong name))) (nat_le-false (length bytes) limit is)

-- what a file is taken for is what its bytes are
held_as : {T : Type 0} (files : Option Files) (held : Files) (name : List ℕ) (limit : ℕ) (taken : List ℕ → Result T Status)
    (result : Result T Status)
    → files ≡ Some held → HoldsAs files name limit taken result → file_as held name limit taken ≡ result
held_as files held name limit taken result told is =
    let there : held name ≡ Some is.bytes = told_of files held (λ h. h name ≡ Some is.bytes) told is.content in
    ap (λ (found : Result (List ℕ) Status). and_then found taken) (file_within-short held name limit is.bytes there is.short) ∙ is.gives

-- what was not read, where nothing failed, is refused so
unread_as : {T : Type 0} (seen : ShelfSeen) (held : Files) (name : List ℕ) (limit : ℕ) (taken : List ℕ → Result T Status) (s : Status)
    → seen.files ≡ Some held → (Rose seen.faults.0 seen.faults.1 → ⊥) → IsUnread seen name limit s → file_as held name limit taken ≡ Err s
unread_as seen held name limit taken status.Ok told well is = absurd is
unread_as seen held name limit taken Usage told well is = absurd is
unread_as seen held name limit taken (NoFile n) told well is =
    let none : held name ≡ None = told_of seen.files held (λ h. h name ≡ None) told is.2 in
    ap (λ (found : Result (List ℕ) Status). and_then found taken) (file_within-none held name limit none)
    ∙ ap (λ m. Err (NoFile m)) (sym is.0)
unread_as seen held name limit taken (TopologyRefused why) told well is = absurd is
unread_as seen held name limit taken (EventsRefused file line why) told well is = absurd is
unread_as seen held name limit taken (PlanRefused line) told well is = absurd is
unread_as seen held name limit taken KeeperFault told well is = absurd is
unread_as seen held name limit taken SinkFault told well is = absurd is
unread_as seen held name limit taken NoMemory told well is = absurd is
unread_as seen held name limit taken (NotEmpty row bytes) told well is = absurd is
unread_as seen held name limit taken HistoryFull told well is = absurd is
unread_as seen held name limit taken (RowDamaged row bytes) told well is = absurd is
unread_as seen held name limit taken (ReadFault n) told well is = absurd (well is.1)
unread_as seen held name limit taken (TooLong n) told well is =
    let long = told_of seen.files held (λ h. IsSomeAnd (h name) (λ bytes. limit < length bytes)) told is.2 in
    ap (λ (found : Result (List ℕ) Status). and_then found taken) (long_of name limit (held name) long)
    ∙ ap (λ m. Err (TooLong m)) (sym is.0)
unread_as seen held name limit taken (FileCount files injectors) told well is = absurd is
unread_as seen held name limit taken (CollectRefused line first) told well is = absurd is
unread_as seen held name limit taken (AuditRefused line r) told well is = absurd is

-- a file that is refused is refused so
refused_as : {T : Type 0} (seen : ShelfSeen) (held : Files) (name : List ℕ) (limit : ℕ) (taken : List ℕ → Result T Status) (s : Status)
    → seen.files ≡ Some held → (Rose seen.faults.0 seen.faults.1 → ⊥) → IsFileRefused seen name limit taken s
    → file_as held name limit taken ≡ Err s
refused_as seen held name limit taken s told well is = elim is [
  | inl unread ↦ unread_as seen held name limit taken s told well unread
  | inr refused ↦ held_as seen.files held name limit taken (Err s) told refused
]

-- event files that were read are taken so
sources_as : (files : Option Files) (held : Files) (file room : ℕ) (names : List (List ℕ)) (sources : List Source)
    → files ≡ Some held → HoldsSources files file room names sources → sources_taken held file room names ≡ Ok sources
sources_as files held file room [] sources told is = ap Ok (sym is)
sources_as files held file room (name ∷ names) [] told is = absurd is
sources_as files held file room (name ∷ names) (source ∷ sources) told is =
    ap (λ (found : Result Source Status). and_then found
    (λ first. source_before first (sources_taken held (file + 1) (room - length first) names)))
    (held_as files held name events_limit (source_taken file room) (Ok source) told is.0)
    ∙ ap (source_before source) (sources_as files held (file + 1) (room - length source) names sources told is.1)

-- event files of which one is refused are refused so
source_refused_as : (seen : ShelfSeen) (held : Files) (file room : ℕ) (names : List (List ℕ)) (s : Status)
    → seen.files ≡ Some held → (Rose seen.faults.0 seen.faults.1 → ⊥) → IsSourceRefused seen file room names s
    → sources_taken held file room names ≡ Err s
source_refused_as seen held file room [] s told well is = absurd is
source_refused_as seen held file room (name ∷ names) s told well is = elim is [
  | inl first ↦ ap (λ (found : Result Source Status). and_then found
      (λ source. source_before source (sources_taken held (file + 1) (room - length source) names)))
      (refused_as seen held name events_limit (source_taken file room) s told well first)
  | inr later ↦ ap (λ (found : Result Source Status). and_then found
      (λ source. source_before source (sources_taken held (file + 1) (room - length source) names)))
      (held_as seen.files held name events_limit (source_taken file room) (Ok later.0) told later.1)
      ∙ ap (source_before later.0)
      (source_refused_as seen held (file + 1) (room - length later.0) names s told well later.2)
]

-- what comes behind the topology, and behind the plan
abbrev behind_topology : Files → Call → Inputs → Result Shape Status → Result (List Source) Status
behind_topology held call inputs found = and_then found (λ shape.
    and_then (before_folded held call shape) (λ before. sources_taken held 0 lines_limit inputs.events))

-- so behind the plan
abbrev behind_plan : Files → Inputs → Result Before Status → Result (List Source) Status
behind_plan held inputs found = and_then found (λ before. sources_taken held 0 lines_limit inputs.events)

-- a plan that was read is taken so
before_read : (files : Option Files) (held : Files) (call : Call) (shape : Shape) (weaks : ℕ) (before : Before) → files ≡ Some held
    → HoldsBefore files call shape weaks before → before_taken held call shape weaks ≡ Ok before
before_read files held (Solo inputs) shape weaks before told is = ap Ok (sym is)
before_read files held (Replay plan inputs) shape weaks before told is =
    held_as files held plan plan_limit (steps_taken shape weaks) (Ok before) told is
before_read files held (Run workers rounds None inputs) shape weaks before told is = ap Ok (sym is)
before_read files held (Run workers rounds (Some plan) inputs) shape weaks before told is =
    held_as files held plan plan_limit (rounds_taken shape workers rounds) (Ok before) told is
before_read files held (Plain inputs) shape weaks before told is = ap Ok (sym is)
before_read files held (Load seed lines) shape weaks before told is = ap Ok (sym is)
before_read files held (Collect file) shape weaks before told is = ap Ok (sym is)
before_read files held (Audit inputs trace) shape weaks before told is = ap Ok (sym is)

-- a plan that is refused is refused so
before_refused : (seen : ShelfSeen) (held : Files) (call : Call) (shape : Shape) (weaks : ℕ) (s : Status)
    → seen.files ≡ Some held → (Rose seen.faults.0 seen.faults.1 → ⊥) → IsPlanRefused seen call shape weaks s
    → before_taken held call shape weaks ≡ Err s
before_refused seen held (Solo inputs) shape weaks s told well is = absurd is
before_refused seen held (Replay plan inputs) shape weaks s told well is =
    refused_as seen held plan plan_limit (steps_taken shape weaks) s told well is
before_refused seen held (Run workers rounds None inputs) shape weaks s told well is = absurd is
before_refused seen held (Run workers rounds (Some plan) inputs) shape weaks s told well is =
    refused_as seen held plan plan_limit (rounds_taken shape workers rounds) s told well is
before_refused seen held (Plain inputs) shape weaks s told well is = absurd is
before_refused seen held (Load seed lines) shape weaks s told well is = absurd is
before_refused seen held (Collect file) shape weaks s told well is = absurd is
before_refused seen held (Audit inputs trace) shape weaks s told well is = absurd is

-- files of which one is refused are refused so
inputs_refused : (seen : ShelfSeen) (held : Files) (call : Call) (inputs : Inputs) (s : Status)
    → seen.files ≡ Some held → (Rose seen.faults.0 seen.faults.1 → ⊥) → IsRefused seen call inputs s
    → inputs_taken held call inputs ≡ Err s
inputs_refused seen held call inputs s told well is =
    let count = length inputs.events in
    elim is [
      | inl first ↦ elim first [
        | inl topology ↦ ap (behind_topology held call inputs)
            (refused_as seen held inputs.topology topology_limit (topology_taken count) s told well topology)
        | inr planned ↦ ap (behind_topology held call inputs)
            (held_as seen.files held inputs.topology topology_limit (topology_taken count) _ told planned.topology_read)
            ∙ ap (behind_plan held inputs) (before_refused seen held call (folded planned.shape)
            (weak_count planned.shape.computations) s told well planned.refused)
      ]
      | inr events ↦ ap (behind_topology held call inputs)
          (held_as seen.files held inputs.topology topology_limit (topology_taken count) _ told events.topology_read)
          ∙ ap (behind_plan held inputs) (before_read seen.files held call (folded events.shape)
          (weak_count events.shape.computations) events.before told events.plan_read)
          ∙ source_refused_as seen held 0 lines_limit inputs.events s told well events.refused
    ]

-- files that were read are taken so
inputs_read : (files : Option Files) (held : Files) (call : Call) (inputs : Inputs) (task : Task) → files ≡ Some held
    → IsInputsTask files call inputs task → inputs_taken held call inputs ≡ Ok task.case.sources
inputs_read files held call inputs task told is =
    ap (behind_topology held call inputs)
    (held_as files held inputs.topology topology_limit (topology_taken (length inputs.events)) _ told is.topology_read)
    ∙ ap (behind_plan held inputs) (before_read files held call (folded is.shape) (weak_count is.shape.computations) task.before told
    (over_left (λ (t : Shape) (weaks : ℕ). HoldsBefore files call t weaks task.before) is.shape task.case.topology task.routes is.folding
    is.ways is.plan_read))
    ∙ sources_as files held 0 lines_limit inputs.events task.case.sources told is.events_read

-- what load runs is taken so
load_read : (seed lines : ℕ) (task : Task) → (is : IsLoadTask seed lines task) → load_taken seed lines ≡ Ok is.made.source
load_read seed lines task is =
    ap (λ (found : Result Shape Status). and_then found (λ shape. source_taken 0 lines_limit (load_text seed lines)))
    is.made.topology_read ∙ is.made.events_read

-- what comes behind the files of an audit's inputs
abbrev behind_inputs : Files → List ℕ → Result (List Source) Status → Result (List ℕ) Status
behind_inputs held trace found = and_then found (λ sources. file_as held trace trace_limit trace_taken)

-- files of a case that were read are taken so, and the trace's is next
trace_behind : (files : Option Files) (held : Files) (inputs : Inputs) (trace : List ℕ) (case : CaseShape) → files ≡ Some held
    → HoldsCase files inputs case
    → behind_inputs held trace (inputs_taken held (Audit inputs trace) inputs) ≡ file_as held trace trace_limit trace_taken
trace_behind files held inputs trace case told is =
    ap (behind_inputs held trace) (ap (behind_topology held (Audit inputs trace) inputs)
    (held_as files held inputs.topology topology_limit (topology_taken (length inputs.events)) _ told is.topology_read)
    ∙ sources_as files held 0 lines_limit inputs.events case.sources told is.events_read)

-- the answer to a command is that for its call
answer_of-named : (held : Files) (rows : Rows) (asked : Option Command) (command : Command) → asked ≡ Some command
    → answer_of held rows asked ≡ answer_for held rows command.call
answer_of-named held rows asked command named =
    ap (λ (c : Option Command). option_map_or (λ (k : Command). answer_for held rows k.call) c Usage) named

-- a refused call is answered so
call_refused : (seen : ShelfSeen) (held : Files) (rows : Rows) (call : Call) (s : Status)
    → seen.files ≡ Some held → (Rose seen.faults.0 seen.faults.1 → ⊥) → IsCallRefused seen call s
    → (answer_for held rows call ≡ s) ⊎ IsCallWrong held call s
call_refused seen held rows (Solo inputs) s told well is =
    inl (ap (λ (found : Result (List Source) Status). ended found (ran_over rows))
    (inputs_refused seen held (Solo inputs) inputs s told well is))
call_refused seen held rows (Replay plan inputs) s told well is =
    inl (ap (λ (found : Result (List Source) Status). ended found (ran_over rows))
    (inputs_refused seen held (Replay plan inputs) inputs s told well is))
call_refused seen held rows (Run workers rounds plan inputs) s told well is =
    inl (ap (λ (found : Result (List Source) Status). ended found (ran_over rows))
    (inputs_refused seen held (Run workers rounds plan inputs) inputs s told well is))
call_refused seen held rows (Plain inputs) s told well is =
    inl (ap (λ (found : Result (List Source) Status). ended found status.Ok)
    (inputs_refused seen held (Plain inputs) inputs s told well is))
call_refused seen held rows (Load seed lines) s told well is =
    inl (ap (λ (found : Result Source Status). ended found (ran_over rows)) is)
call_refused seen held rows (Collect file) s told well is =
    inl (ap (λ (found : Result (List ℕ) Status). ended found status.Ok)
    (refused_as seen held file collect_limit collect_taken s told well is))
call_refused seen held rows (Audit inputs trace) s told well is = elim is [
  | inl files ↦ inl (ap (λ found. ended found status.Ok) (ap (behind_inputs held trace)
      (inputs_refused seen held (Audit inputs trace) inputs s told well files)))
  | inr behind ↦ elim behind [
    | inl file ↦ inl (ap (λ found. ended found status.Ok) (trace_behind seen.files held inputs trace file.case told file.case_read
        ∙ refused_as seen held trace trace_limit trace_taken s told well file.refused))
    | inr wrong ↦ inr (subst (λ (fs : Option Files). HoldsWrong fs inputs trace s) told wrong)
  ]
]

-- a status that says of no trace that it is wrong
abbrev IsOther : Status → Type 0
IsOther (AuditRefused line why) = ⊥
IsOther _ = ⊤

-- such a status says so of no bytes
not_wrong : (case : CaseShape) (bytes : List ℕ) (s : Status) → IsOther s → SaysWrong case bytes s → ⊥
not_wrong case bytes status.Ok other says = says
not_wrong case bytes Usage other says = says
not_wrong case bytes (NoFile name) other says = says
not_wrong case bytes (TopologyRefused why) other says = says
not_wrong case bytes (EventsRefused file line why) other says = says
not_wrong case bytes (PlanRefused line) other says = says
not_wrong case bytes KeeperFault other says = says
not_wrong case bytes SinkFault other says = says
not_wrong case bytes NoMemory other says = says
not_wrong case bytes (NotEmpty name row) other says = says
not_wrong case bytes HistoryFull other says = says
not_wrong case bytes (RowDamaged name row) other says = says
not_wrong case bytes (ReadFault name) other says = says
not_wrong case bytes (TooLong name) other says = says
not_wrong case bytes (FileCount files injectors) other says = says
not_wrong case bytes (CollectRefused line first) other says = says
not_wrong case bytes (AuditRefused line why) other says = other

-- nor of an audit's trace
not_call_wrong : (held : Files) (call : Call) (s : Status) → IsOther s → IsCallWrong held call s → ⊥
not_call_wrong held (Solo inputs) s other wrong = wrong
not_call_wrong held (Replay plan inputs) s other wrong = wrong
not_call_wrong held (Run workers rounds plan inputs) s other wrong = wrong
not_call_wrong held (Plain inputs) s other wrong = wrong
not_call_wrong held (Load seed lines) s other wrong = wrong
not_call_wrong held (Collect file) s other wrong = wrong
not_call_wrong held (Audit inputs trace) s other wrong = not_wrong wrong.case wrong.wrong.bytes s other wrong.wrong.wrong

-- so is the command
answer_refused : (seen : ShelfSeen) (asked : Option Command) (held : Files) (rows : Rows) (s : Status)
    → seen.files ≡ Some held → (Rose seen.faults.0 seen.faults.1 → ⊥) → IsOther s → IsCommandRefused seen asked s
    → s ≡ answer_of held rows asked
answer_refused seen asked held rows s told well other is =
    elim (call_refused seen held rows is.command.call s told well is.why) [
      | inl same ↦ sym (answer_of-named held rows asked is.command is.named ∙ same)
      | inr wrong ↦ absurd (not_call_wrong held is.command.call s other wrong)
    ]

-- or a trace is wrong
wrong_or_refused : (seen : ShelfSeen) (asked : Option Command) (held : Files) (rows : Rows) (s : Status)
    → seen.files ≡ Some held → (Rose seen.faults.0 seen.faults.1 → ⊥) → IsCommandRefused seen asked s
    → IsCommandWrong held asked s ⊎ (s ≡ answer_of held rows asked)
wrong_or_refused seen asked held rows s told well is =
    elim (call_refused seen held rows is.command.call s told well is.why) [
      | inl same ↦ inr (sym (answer_of-named held rows asked is.command is.named ∙ same))
      | inr wrong ↦ inl (record { command = is.command; named = is.named; wrong = wrong })
    ]

-- a run comes to its end over a keeper without rows
ran_over-empty : (found : Option Rows) (rows : Rows) → found ≡ Some rows → IfSome found (λ rs. rs ≡ []) → ran_over rows ≡ status.Ok
ran_over-empty found rows told empty = ap ran_over (told_of found rows (λ rs. rs ≡ []) told empty)

-- none is begun over a keeper that has a first row
ran_over-first : (rows : Rows) (name : RowName) (bytes : List ℕ) → slice_get rows 0 ≡ Some (name, bytes)
    → ran_over rows ≡ NotEmpty name bytes
ran_over-first [] name bytes first = grind (arith, first)
ran_over-first (row ∷ rows) name bytes first =
    ap (λ (r : RowName × List ℕ). NotEmpty r.0 r.1) (same_Some row (name, bytes) first)

-- what is read is not refused: the call ends as its run does
ended_read : {T : Type 0} (found : Result T Status) (x : T) (run : Status) → found ≡ Ok x → ended found run ≡ run
ended_read found x run is = ap (λ (r : Result _ Status). ended r run) is

-- where all is read the keeper's rows decide how a run ends, and nothing how a plain count does
call_read : (files : Option Files) (held : Files) (rows : Rows) (call : Call) (task : Task) (left : Left) (s : Status)
    → files ≡ Some held → IsTask files call task → (RunLeaves task left s → ran_over rows ≡ s)
    → (TextLeaves (IsPlainText task.case) left s → status.Ok ≡ s)
    → CallLeaves call task left s → answer_for held rows call ≡ s
call_read files held rows (Solo inputs) task left s told is ran counted leaves =
    ended_read _ _ (ran_over rows) (inputs_read files held (Solo inputs) inputs task told is) ∙ ran leaves
call_read files held rows (Replay plan inputs) task left s told is ran counted leaves =
    ended_read _ _ (ran_over rows) (inputs_read files held (Replay plan inputs) inputs task told is) ∙ ran leaves
call_read files held rows (Run workers rounds plan inputs) task left s told is ran counted leaves =
    ended_read _ _ (ran_over rows) (inputs_read files held (Run workers rounds plan inputs) inputs task told is) ∙ ran leaves
call_read files held rows (Plain inputs) task left s told is ran counted leaves =
    ended_read _ _ status.Ok (inputs_read files held (Plain inputs) inputs task told is) ∙ counted leaves
call_read files held rows (Load seed lines) task left s told is ran counted leaves =
    ended_read _ _ (ran_over rows) (load_read seed lines task is) ∙ ran leaves
call_read files held rows (Collect file) task left s told is ran counted leaves = absurd is
call_read files held rows (Audit inputs trace) task left s told is ran counted leaves = absurd is

-- so it is of the command
answer_read : (files : Option Files) (asked : Option Command) (held : Files) (rows : Rows) (left : Left) (s : Status)
    → files ≡ Some held → (is : HasRun files asked left s) → (RunLeaves is.task left s → ran_over rows ≡ s)
    → (TextLeaves (IsPlainText is.task.case) left s → status.Ok ≡ s) → answer_of held rows asked ≡ s
answer_read files asked held rows left s told is ran counted =
    answer_of-named held rows asked is.command is.named
    ∙ call_read files held rows is.command.call is.task left s told is.is_task ran counted is.leaves

-- a text that was written whole is that of files that were read
text_read : (files : Option Files) (held : Files) (rows : Rows) (call : Call) (left : Left) → files ≡ Some held
    → TextLeaves (IsTextOf files call) left status.Ok → answer_for held rows call ≡ status.Ok
text_read files held rows (Solo inputs) left told leaves = absurd leaves.is_text
text_read files held rows (Replay plan inputs) left told leaves = absurd leaves.is_text
text_read files held rows (Run workers rounds plan inputs) left told leaves = absurd leaves.is_text
text_read files held rows (Plain inputs) left told leaves = absurd leaves.is_text
text_read files held rows (Load seed lines) left told leaves = absurd leaves.is_text
text_read files held rows (Collect file) left told leaves =
    ended_read _ _ status.Ok (held_as files held file collect_limit collect_taken _ told leaves.is_text.1)
text_read files held rows (Audit inputs trace) left told leaves =
    let run = leaves.is_text in
    ended_read _ _ status.Ok (trace_behind files held inputs trace run.case told run.case_read
    ∙ held_as files held trace trace_limit trace_taken _ told run.counts.trace_read)

-- with Ok all was read, and rows that were seen were none, or had no part in it
done_answer : (files : Option Files) (asked : Option Command) (held : Files) (rows : Rows) (left : Left) → files ≡ Some held
    → left.rows.0 ≡ Some rows → HasDone files asked left status.Ok → answer_of held rows asked ≡ status.Ok
done_answer files asked held rows left told seen_rows is = elim is [
  | inl run ↦ answer_read files asked held rows left status.Ok told run
      (λ leaves. ran_over-empty left.rows.0 rows seen_rows leaves.run.run.began_empty) (λ leaves. refl)
  | inr text ↦ answer_of-named held rows asked text.command text.named
      ∙ text_read files held rows text.command.call left told text.leaves
]

-- what only a run leaves is left by one, and the history is as full as one may be
full_left : (call : Call) (task : Task) (left : Left) → CallLeaves call task left HistoryFull → IsFull task left
full_left (Solo inputs) task left leaves = leaves
full_left (Replay plan inputs) task left leaves = leaves
full_left (Run workers rounds plan inputs) task left leaves = leaves
full_left (Plain inputs) task left leaves = absurd leaves
full_left (Load seed lines) task left leaves = leaves
full_left (Collect file) task left leaves = absurd leaves
full_left (Audit inputs trace) task left leaves = absurd leaves

-- so it is of a damaged row
damaged_left : (call : Call) (task : Task) (left : Left) (name : RowName) (bytes : List ℕ)
    → CallLeaves call task left (RowDamaged name bytes) → IsDamagedAt task left name bytes
damaged_left (Solo inputs) task left name bytes leaves = leaves
damaged_left (Replay plan inputs) task left name bytes leaves = leaves
damaged_left (Run workers rounds plan inputs) task left name bytes leaves = leaves
damaged_left (Plain inputs) task left name bytes leaves = absurd leaves
damaged_left (Load seed lines) task left name bytes leaves = leaves
damaged_left (Collect file) task left name bytes leaves = absurd leaves
damaged_left (Audit inputs trace) task left name bytes leaves = absurd leaves

-- a full history is one of files that were read, over a keeper without rows
full_answer : (files : Option Files) (asked : Option Command) (held : Files) (rows : Rows) (left : Left) → files ≡ Some held
    → left.rows.0 ≡ Some rows → HasRun files asked left HistoryFull → answer_of held rows asked ≡ status.Ok
full_answer files asked held rows left told seen_rows is =
    answer_of-named held rows asked is.command is.named
    ∙ by_call is.command.call is.is_task is.leaves
  where
    empty : IsFull is.task left → ran_over rows ≡ status.Ok
    empty leaves = ran_over-empty left.rows.0 rows seen_rows leaves.stopped.run.began_empty

    by_call : (call : Call) → IsTask files call is.task → CallLeaves call is.task left HistoryFull → answer_for held rows call ≡ status.Ok
    by_call (Solo inputs) made leaves =
        ended_read _ _ (ran_over rows) (inputs_read files held (Solo inputs) inputs is.task told made) ∙ empty leaves
    by_call (Replay plan inputs) made leaves =
        ended_read _ _ (ran_over rows) (inputs_read files held (Replay plan inputs) inputs is.task told made) ∙ empty leaves
    by_call (Run workers rounds plan inputs) made leaves =
        ended_read _ _ (ran_over rows) (inputs_read files held (Run workers rounds plan inputs) inputs is.task told made) ∙ empty leaves
    by_call (Plain inputs) made leaves = absurd leaves
    by_call (Load seed lines) made leaves =
        ended_read _ _ (ran_over rows) (load_read seed lines is.task made) ∙ empty leaves
    by_call (Collect file) made leaves = absurd leaves
    by_call (Audit inputs trace) made leaves = absurd leaves

-- where the keeper's rows were seen before they are seen after
still_told : (old new : Option Rows) (rows : Rows) → old ≡ Some rows → is_some new ≡ is_some old → IfSome new (λ _. ⊥) → ⊥
still_told old None rows told tells untold = true≢false (sym (tells ∙ ap is_some told))
still_told old (Some held) rows told tells untold = untold

-- where no command is asked for the answer is Usage
pub answer_usage : (asked : Option Command) (held : Files) (rows : Rows) → asked ≡ None → Usage ≡ answer_of held rows asked
answer_usage asked held rows none =
    sym (ap (λ (c : Option Command). option_map_or (λ (k : Command). answer_for held rows k.call) c Usage) none)

-- over files and rows that a contract can see, where nothing failed, the answer is theirs, or memory ran out, or the history is full
pub told_answer : (seen : ShelfSeen) (asked : Option Command) (left : Left) (k0 k1 f0 f1 : ℕ) (held : Files) (rows : Rows) (s : Status)
    → HasReason seen asked s → HasLeft seen.files asked left s → (s ≡ KeeperFault → Rose k0 k1) → (s ≡ SinkFault → Rose f0 f1)
    → is_some left.rows.1 ≡ is_some left.rows.0 → seen.files ≡ Some held → left.rows.0 ≡ Some rows
    → (Rose seen.faults.0 seen.faults.1 → ⊥) → (Rose k0 k1 → ⊥) → (Rose f0 f1 → ⊥) → IsAnswer held rows asked left.history s
told_answer seen asked left k0 k1 f0 f1 held rows status.Ok why is keeper sink tells told seen_rows well kept written =
    sym (done_answer seen.files asked held rows left told seen_rows is)
told_answer seen asked left k0 k1 f0 f1 held rows Usage why is keeper sink tells told seen_rows well kept written = answer_usage
    asked held rows why
told_answer seen asked left k0 k1 f0 f1 held rows (NoFile name) why is keeper sink tells told seen_rows well kept written =
    answer_refused seen asked held rows _ told well tt why
told_answer seen asked left k0 k1 f0 f1 held rows (TopologyRefused r) why is keeper sink tells told seen_rows well kept written =
    answer_refused seen asked held rows _ told well tt why
told_answer seen asked left k0 k1 f0 f1 held rows (EventsRefused file line r) why is keeper sink tells told seen_rows well kept written =
    answer_refused seen asked held rows _ told well tt why
told_answer seen asked left k0 k1 f0 f1 held rows (PlanRefused line) why is keeper sink tells told seen_rows well kept written =
    answer_refused seen asked held rows _ told well tt why
told_answer seen asked left k0 k1 f0 f1 held rows KeeperFault why is keeper sink tells told seen_rows well kept written = absurd
    (kept (keeper refl))
told_answer seen asked left k0 k1 f0 f1 held rows SinkFault why is keeper sink tells told seen_rows well kept written = absurd
    (written (sink refl))
told_answer seen asked left k0 k1 f0 f1 held rows NoMemory why is keeper sink tells told seen_rows well kept written = tt
told_answer seen asked left k0 k1 f0 f1 held rows (NotEmpty name bytes) why is keeper sink tells told seen_rows well kept written =
    sym (answer_read seen.files asked held rows left _ told is
    (λ leaves. ran_over-first rows name bytes (told_of left.rows.0 rows (λ rs. slice_get rs 0 ≡ Some (name, bytes)) seen_rows leaves.first))
    (λ leaves. absurd leaves))
told_answer seen asked left k0 k1 f0 f1 held rows HistoryFull why is keeper sink tells told seen_rows well kept written = (
  full_answer seen.files asked held rows left told seen_rows is,
  (full_left is.command.call is.task left is.leaves).full,
)
told_answer seen asked left k0 k1 f0 f1 held rows (RowDamaged name bytes) why is keeper sink tells told seen_rows well kept written =
    absurd (still_told left.rows.0 left.rows.1 rows seen_rows tells
    (damaged_left is.command.call is.task left name bytes is.leaves).damaged.untold)
told_answer seen asked left k0 k1 f0 f1 held rows (ReadFault name) why is keeper sink tells told seen_rows well kept written =
    answer_refused seen asked held rows _ told well tt why
told_answer seen asked left k0 k1 f0 f1 held rows (TooLong name) why is keeper sink tells told seen_rows well kept written =
    answer_refused seen asked held rows _ told well tt why
told_answer seen asked left k0 k1 f0 f1 held rows (FileCount files injectors) why is keeper sink tells told seen_rows well kept written =
    answer_refused seen asked held rows _ told well tt why
told_answer seen asked left k0 k1 f0 f1 held rows (CollectRefused line first) why is keeper sink tells told seen_rows well kept written =
    answer_refused seen asked held rows _ told well tt why
told_answer seen asked left k0 k1 f0 f1 held rows (AuditRefused line r) why is keeper sink tells told seen_rows well kept written =
    wrong_or_refused seen asked held rows _ told well why

-- where a call is asked for in which no keeper has a part, none has in the call that is read
pub unkept_call : (asked : Option Command) (call : Call) (command : Command) → AsksUnkept asked call → asked ≡ Some command
    → is_unkept command.call ≡ true
unkept_call asked call command asks named =
    ap (λ (c : Command). is_unkept c.call)
    (same_Some command (record { call = call; keep = None }) (sym named ∙ asks.0)) ∙ asks.1

-- what is left of a run is left of no such call
no_run : (files : Option Files) (call : Call) (task : Task) (left : Left) (s : Status) → is_unkept call ≡ true
    → IsTask files call task → CallLeaves call task left s → (TextLeaves (IsPlainText task.case) left s → ⊥) → ⊥
no_run files (Solo inputs) task left s unkept is leaves none = true≢false (sym unkept)
no_run files (Replay plan inputs) task left s unkept is leaves none = true≢false (sym unkept)
no_run files (Run workers rounds plan inputs) task left s unkept is leaves none = true≢false (sym unkept)
no_run files (Plain inputs) task left s unkept is leaves none = none leaves
no_run files (Load seed lines) task left s unkept is leaves none = true≢false (sym unkept)
no_run files (Collect file) task left s unkept is leaves none = absurd is
no_run files (Audit inputs trace) task left s unkept is leaves none = absurd is

-- so it is where such a call is asked for
none_run : (files : Option Files) (asked : Option Command) (left : Left) (call : Call) (s : Status) → AsksUnkept asked call
    → (is : HasRun files asked left s) → (TextLeaves (IsPlainText is.task.case) left s → ⊥) → ⊥
none_run files asked left call s asks is none =
    no_run files is.command.call is.task left s (unkept_call asked call is.command asks is.named) is.is_task is.leaves none

-- the answer to such a call is that of the files, whatever rows there may be
unkept_named : (held : Files) (asked : Option Command) (call : Call) → AsksUnkept asked call
    → answer_of held [] asked ≡ answer_for held [] call
unkept_named held asked call asks = answer_of-named held [] asked (record { call = call; keep = None }) asks.0

-- a refusal of the files is that answer
unkept_refused : (seen : ShelfSeen) (asked : Option Command) (held : Files) (call : Call) (s : Status)
    → seen.files ≡ Some held → (Rose seen.faults.0 seen.faults.1 → ⊥) → AsksUnkept asked call → IsOther s
    → IsCommandRefused seen asked s → s ≡ answer_for held [] call
unkept_refused seen asked held call s told well asks other why =
    answer_refused seen asked held [] s told well other why ∙ unkept_named held asked call asks

-- or its trace is wrong
unkept_wrong : (seen : ShelfSeen) (asked : Option Command) (held : Files) (call : Call) (s : Status)
    → seen.files ≡ Some held → (Rose seen.faults.0 seen.faults.1 → ⊥) → AsksUnkept asked call → IsCommandRefused seen asked s
    → IsCallWrong held call s ⊎ (s ≡ answer_for held [] call)
unkept_wrong seen asked held call s told well asks why = elim (wrong_or_refused seen asked held [] s told well why) [
  | inl wrong ↦ inl (subst (λ (c : Call). IsCallWrong held c s)
      (ap (λ (c : Command). c.call) (same_Some wrong.command (record { call = call; keep = None }) (sym wrong.named ∙ asks.0)))
      wrong.wrong)
  | inr same ↦ inr (same ∙ unkept_named held asked call asks)
]

-- the task of such a call is that of files that were read
task_read : (files : Option Files) (held : Files) (call : Call) (task : Task) → files ≡ Some held → is_unkept call ≡ true
    → IsTask files call task → answer_for held [] call ≡ status.Ok
task_read files held (Solo inputs) task told unkept is = absurd (true≢false (sym unkept))
task_read files held (Replay plan inputs) task told unkept is = absurd (true≢false (sym unkept))
task_read files held (Run workers rounds plan inputs) task told unkept is = absurd (true≢false (sym unkept))
task_read files held (Plain inputs) task told unkept is =
    ended_read _ _ status.Ok (inputs_read files held (Plain inputs) inputs task told is)
task_read files held (Load seed lines) task told unkept is = absurd (true≢false (sym unkept))
task_read files held (Collect file) task told unkept is = absurd is
task_read files held (Audit inputs trace) task told unkept is = absurd is

-- what was written whole is that answer
unkept_done : (files : Option Files) (asked : Option Command) (held : Files) (left : Left) (call : Call)
    → files ≡ Some held → AsksUnkept asked call → HasDone files asked left status.Ok → status.Ok ≡ answer_for held [] call
unkept_done files asked held left call told asks is = sym (elim is [
  | inl run ↦ answer_of-named held [] asked run.command run.named
      ∙ task_read files held run.command.call run.task told (unkept_call asked call run.command asks run.named) run.is_task
  | inr text ↦ answer_of-named held [] asked text.command text.named
      ∙ text_read files held [] text.command.call left told text.leaves
]) ∙ unkept_named held asked call asks

-- over files that a contract can see, where nothing failed, the answer of a call in which no keeper has a part is
-- theirs, or memory ran out
pub told_unkept : (seen : ShelfSeen) (asked : Option Command) (left : Left) (f0 f1 : ℕ) (held : Files) (call : Call) (s : Status)
    → HasReason seen asked s → HasLeft seen.files asked left s → (s ≡ SinkFault → Rose f0 f1)
    → seen.files ≡ Some held → AsksUnkept asked call
    → (Rose seen.faults.0 seen.faults.1 → ⊥) → (Rose f0 f1 → ⊥) → IsUnkeptAnswer held call s
told_unkept seen asked left f0 f1 held call status.Ok why is sink told asks well written =
    unkept_done seen.files asked held left call told asks is
told_unkept seen asked left f0 f1 held call Usage why is sink told asks well written =
    answer_usage asked held [] why ∙ unkept_named held asked call asks
told_unkept seen asked left f0 f1 held call (NoFile name) why is sink told asks well written =
    unkept_refused seen asked held call _ told well asks tt why
told_unkept seen asked left f0 f1 held call (TopologyRefused r) why is sink told asks well written =
    unkept_refused seen asked held call _ told well asks tt why
told_unkept seen asked left f0 f1 held call (EventsRefused file line r) why is sink told asks well written =
    unkept_refused seen asked held call _ told well asks tt why
told_unkept seen asked left f0 f1 held call (PlanRefused line) why is sink told asks well written =
    unkept_refused seen asked held call _ told well asks tt why
told_unkept seen asked left f0 f1 held call KeeperFault why is sink told asks well written =
    absurd (none_run seen.files asked left call KeeperFault asks is (λ none. none))
told_unkept seen asked left f0 f1 held call SinkFault why is sink told asks well written = absurd (written (sink refl))
told_unkept seen asked left f0 f1 held call NoMemory why is sink told asks well written = tt
told_unkept seen asked left f0 f1 held call (NotEmpty name bytes) why is sink told asks well written =
    absurd (none_run seen.files asked left call (NotEmpty name bytes) asks is (λ none. none))
told_unkept seen asked left f0 f1 held call HistoryFull why is sink told asks well written =
    absurd (none_run seen.files asked left call HistoryFull asks is (λ none. none))
told_unkept seen asked left f0 f1 held call (RowDamaged name bytes) why is sink told asks well written =
    absurd (none_run seen.files asked left call (RowDamaged name bytes) asks is (λ none. none))
told_unkept seen asked left f0 f1 held call (ReadFault name) why is sink told asks well written =
    unkept_refused seen asked held call _ told well asks tt why
told_unkept seen asked left f0 f1 held call (TooLong name) why is sink told asks well written =
    unkept_refused seen asked held call _ told well asks tt why
told_unkept seen asked left f0 f1 held call (FileCount files injectors) why is sink told asks well written =
    unkept_refused seen asked held call _ told well asks tt why
told_unkept seen asked left f0 f1 held call (CollectRefused line first) why is sink told asks well written =
    unkept_refused seen asked held call _ told well asks tt why
told_unkept seen asked left f0 f1 held call (AuditRefused line r) why is sink told asks well written =
    unkept_wrong seen asked held call _ told well asks why
