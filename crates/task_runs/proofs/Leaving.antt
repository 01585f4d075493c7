-- What a run leaves, or where none was begun, is what the status leaves.
use Rattle.std.specs.Prelude.{⊤}
use Rattle.std.proofs.Common.{◌≡◌, ◌≤◌, ◌^◌, ◌∙◌, ℕ, List, length, Option, Some, None, IfSome, false, refl, inl, inr, sym, ap, subst, true≢false}
use Rattle.mw_types.specs.declared.identity.RowName.{RowName}
use Rattle.mw_types.specs.declared.entry.Entry.{Entry}
use Rattle.row_keeper.specs.Rows.{Rows}
use Rattle.topology.specs.Shapes.{Shape}
use Rattle.topology.specs.Folding.{RoutesView}
use Rattle.run_history.specs.Cases.{CaseShape}
use Rattle.run_history.specs.Runs.{run_of}
use Rattle.run_history.specs.Finished.{IsFinished}
use Rattle.run_history.specs.Inputs.{IsRunnable}
use Rattle.run_history.specs.Texts.{IsResultText}
use Rattle.plain_answer.specs.Plain.{IsPlainText}
use Rattle.plain_answer.specs.Ends.{IsFinishedRun}
use Rattle.book.specs.Answers.{IsNotEmpty}
use Rattle.book.specs.Claims.{IsDamagedRow}
use Rattle.book.specs.declared.refusals.StartWhy.{StartWhy}
use Rattle.book.specs.declared.refusals.StartWhy.TheVariants as starts
use Rattle.node.specs.declared.outcome.NodeFault.{NodeFault}
use Rattle.node.specs.declared.outcome.NodeFault.TheVariants as faults
use Rattle.task_runs.specs.declared.status.Status.{Status}
use Rattle.task_runs.specs.declared.status.Status.TheVariants as status
use Rattle.task_runs.specs.declared.task.Task.{Task}
use Rattle.task_runs.specs.declared.task.Wanted.{Wanted}
use Rattle.task_runs.specs.declared.task.Wanted.TheVariants.{ResultAlone, HistoryFirst, SummaryAlone, EachAtOnce}
use Rattle.task_runs.specs.declared.task.Before.{Before}
use Rattle.task_runs.specs.Tasks.{is_at_once}
use Rattle.task_runs.specs.Limits.{history_limit}
use Rattle.task_runs.specs.Histories.{IsReadAfter, IsShortOf}
use Rattle.task_runs.specs.Answers.{Left, IsUnbegun, IsUnrun, IsRun, IsKeptRun, IsWholeRun, IsWholeText, IsPlainWhole, IsInOrder, IsLiveReplay, IsTextSoFar, RunLeaves, TextLeaves}
use Rattle.task_runs.specs.Inside.{HasText, HasPlain, IsWritten, of_start, of_drain}

-- a status that may come once the files are read
abbrev pub MayEnd : Status → Type 0
MayEnd status.Ok = ⊤
MayEnd status.KeeperFault = ⊤
MayEnd status.SinkFault = ⊤
MayEnd status.NoMemory = ⊤
MayEnd (status.NotEmpty name bytes) = ⊤
MayEnd status.HistoryFull = ⊤
MayEnd (status.RowDamaged name bytes) = ⊤
MayEnd _ = ⊥

-- each status of a run is one
pub run_ends : (task : Task) (left : Left) (s : Status) → RunLeaves task left s → MayEnd s
run_ends task left status.Ok leaves = tt
run_ends task left status.Usage leaves = absurd leaves
run_ends task left (status.NoFile n) leaves = absurd leaves
run_ends task left (status.TopologyRefused why) leaves = absurd leaves
run_ends task left (status.EventsRefused file line why) leaves = absurd leaves
run_ends task left (status.PlanRefused line) leaves = absurd leaves
run_ends task left status.KeeperFault leaves = tt
run_ends task left status.SinkFault leaves = tt
run_ends task left status.NoMemory leaves = tt
run_ends task left (status.NotEmpty name bytes) leaves = tt
run_ends task left status.HistoryFull leaves = tt
run_ends task left (status.RowDamaged name bytes) leaves = tt
run_ends task left (status.ReadFault n) leaves = absurd leaves
run_ends task left (status.TooLong n) leaves = absurd leaves
run_ends task left (status.FileCount n m) leaves = absurd leaves
run_ends task left (status.CollectRefused line first) leaves = absurd leaves
run_ends task left (status.AuditRefused line r) leaves = absurd leaves

-- so is each of a text that needs no keeper
pub text_ends : (IsText : List ℕ → Type 0) (left : Left) (s : Status) → TextLeaves IsText left s → MayEnd s
text_ends IsText left status.Ok leaves = tt
text_ends IsText left status.Usage leaves = absurd leaves
text_ends IsText left (status.NoFile n) leaves = absurd leaves
text_ends IsText left (status.TopologyRefused why) leaves = absurd leaves
text_ends IsText left (status.EventsRefused file line why) leaves = absurd leaves
text_ends IsText left (status.PlanRefused line) leaves = absurd leaves
text_ends IsText left status.KeeperFault leaves = absurd leaves
text_ends IsText left status.SinkFault leaves = tt
text_ends IsText left status.NoMemory leaves = tt
text_ends IsText left (status.NotEmpty name bytes) leaves = absurd leaves
text_ends IsText left status.HistoryFull leaves = absurd leaves
text_ends IsText left (status.RowDamaged name bytes) leaves = absurd leaves
text_ends IsText left (status.ReadFault n) leaves = absurd leaves
text_ends IsText left (status.TooLong n) leaves = absurd leaves
text_ends IsText left (status.FileCount n m) leaves = absurd leaves
text_ends IsText left (status.CollectRefused line first) leaves = absurd leaves
text_ends IsText left (status.AuditRefused line r) leaves = absurd leaves

-- each whole text of a run is told plainly, where a contract can see the rows
abbrev pub IsPlainlyTold : Task → Left → Type 0
IsPlainlyTold task left = (text : List ℕ) → IsWholeText task.wanted task.case.topology left.history text
    → IfSome left.rows.1 (λ _. IsPlainWhole task.wanted task.case left.history text)

-- a law of results is one of whole texts
plain_whole : (wanted : Wanted) (case : CaseShape) (history : List Entry)
    → ((result : List ℕ) → IsResultText case.topology history result → IsPlainText case result)
    → (text : List ℕ) → IsWholeText wanted case.topology history text → IsPlainWhole wanted case history text
plain_whole ResultAlone case history law text whole = law text whole
plain_whole HistoryFirst case history law text whole =
    record { result = whole.result; plain = law whole.result whole.of_history; spelled = whole.spelled }
plain_whole SummaryAlone case history law text whole = tt
plain_whole EachAtOnce case history law text whole = tt

-- the text of a run that came to its end is told plainly
pub told_plainly : (task : Task) (left : Left) → IsWholeRun task left → IsRunnable task.case → length left.history ≤ 2 ^ 32
    → ((c : CaseShape) (h : List Entry) (text : List ℕ) → IsRunnable c → IsFinishedRun c h → IsResultText c.topology h text
    → IsPlainText c text)
    → IsPlainlyTold task left
told_plainly task left run runnable few law = λ text whole. by_rows text whole left.rows.1 run.run.kept run.finished
  where
    by_rows : (text : List ℕ) → IsWholeText task.wanted task.case.topology left.history text → (rows : Option Rows)
        → IfSome rows (IsKeptRun task left.history) → IfSome rows (λ _. IsFinished task.case (run_of task.case.topology left.history))
        → IfSome rows (λ _. IsPlainWhole task.wanted task.case left.history text)
    by_rows text whole None kept ended = tt
    by_rows text whole (Some rows) kept ended = plain_whole task.wanted task.case left.history
        (λ result is. law task.case left.history result runnable (record { legal = kept.legal; finished = ended; few = few }) is) text whole

-- where no result is written at once, nothing is said of their order
no_order : (wanted : Wanted) (before : Before) (shape : Shape) (history : List Entry) (text : List ℕ) → is_at_once wanted ≡ false
    → IsInOrder wanted before shape history text
no_order ResultAlone before shape history text late = tt
no_order HistoryFirst before shape history text late = tt
no_order SummaryAlone before shape history text late = tt
no_order EachAtOnce before shape history text late = absurd (true≢false late)

-- nor of a replay
no_replay : (wanted : Wanted) (before : Before) (routes : RoutesView) (case : CaseShape) (history : List Entry)
    (text : Option (List ℕ) × Option (List ℕ)) (rows : Option Rows) → is_at_once wanted ≡ false
    → IfSome rows (λ _. IsLiveReplay wanted before routes case history text)
no_replay wanted before routes case history text None late = tt
no_replay ResultAlone before routes case history text (Some rows) late = tt
no_replay HistoryFirst before routes case history text (Some rows) late = tt
no_replay SummaryAlone before routes case history text (Some rows) late = tt
no_replay EachAtOnce before routes case history text (Some rows) late = absurd (true≢false late)

-- and where nothing was written, that is the text so far
pub unwritten : (wanted : Wanted) (shape : Shape) (history : List Entry) (text : Option (List ℕ) × Option (List ℕ))
    → is_at_once wanted ≡ false → text.1 ≡ text.0 → IsTextSoFar wanted shape history text
unwritten ResultAlone shape history text late same = same
unwritten HistoryFirst shape history text late same = same
unwritten SummaryAlone shape history text late same = same
unwritten EachAtOnce shape history text late same = absurd (true≢false late)

-- what is written of a run that came to its end is what its status leaves
pub wrote : (task : Task) (left : Left) (s : Status) → is_at_once task.wanted ≡ false → IsWholeRun task left → IsPlainlyTold task left
    → HasText task.wanted task.case.topology left.history left.text.0 left.text.1 s → RunLeaves task left s
wrote task left status.Ok late run plain is = record {
  run = run;
  text = is.text;
  whole = is.whole;
  in_order = no_order task.wanted task.before task.case.topology left.history is.text late;
  written = is.written;
  plain = plain is.text is.whole;
  replayed = no_replay task.wanted task.before task.routes task.case left.history left.text left.rows.1 late;
}
wrote task left status.Usage late run plain is = absurd is
wrote task left (status.NoFile n) late run plain is = absurd is
wrote task left (status.TopologyRefused why) late run plain is = absurd is
wrote task left (status.EventsRefused file line why) late run plain is = absurd is
wrote task left (status.PlanRefused line) late run plain is = absurd is
wrote task left status.KeeperFault late run plain is = absurd is
wrote task left status.SinkFault late run plain is =
    inl (record { run = run; text = is.text; whole = is.whole; part = is.part })
wrote task left status.NoMemory late run plain is = elim is [
  | inl part ↦ inl (inl (record { run = run; text = part.text; whole = part.whole; part = part.part }))
  | inr same ↦ inr (inl (record {
    run = run.run;
    so_far = unwritten task.wanted task.case.topology left.history left.text late same;
  }))
]
wrote task left (status.NotEmpty name bytes) late run plain is = absurd is
wrote task left status.HistoryFull late run plain is = absurd is
wrote task left (status.RowDamaged name bytes) late run plain is = absurd is
wrote task left (status.ReadFault n) late run plain is = absurd is
wrote task left (status.TooLong n) late run plain is = absurd is
wrote task left (status.FileCount n m) late run plain is = absurd is
wrote task left (status.CollectRefused line first) late run plain is = absurd is
wrote task left (status.AuditRefused line r) late run plain is = absurd is

-- so it is where the history is said in other words
pub wrote_as : (task : Task) (left : Left) (history : List Entry) (s : Status) → is_at_once task.wanted ≡ false
    → history ≡ left.history → IsWholeRun task left
    → IsPlainlyTold task left
    → HasText task.wanted task.case.topology history left.text.0 left.text.1 s → RunLeaves task left s
wrote_as task left history s late told run plain is = wrote task left s late run plain
    (subst (λ (h : List Entry). HasText task.wanted task.case.topology h left.text.0 left.text.1 s) told is)

-- what a drain that stopped leaves is what its status leaves
pub stopped : (task : Task) (left : Left) (fault : NodeFault) → IsRun task left
    → IsTextSoFar task.wanted task.case.topology left.history left.text
    → (fault ≡ faults.HistoryFull → length left.history ≡ history_limit)
    → (fault ≡ faults.HistoryFull → IfSome left.rows.1 (λ _. IsShortOf task.routes task.case task.before left.history))
    → ((name : RowName) (bytes : List ℕ) → fault ≡ faults.RowDamaged name bytes
    → (count : ℕ) × IsReadAfter task.before count left.history × IsDamagedRow task.case left.rows.1 count name bytes)
    → RunLeaves task left (of_drain fault)
stopped task left faults.HistoryFull run same full more damaged =
    record { stopped = record { run = run; so_far = same }; full = full refl; more = more refl }
stopped task left faults.KeeperFault run same full more damaged = inl (record { run = run; so_far = same })
stopped task left (faults.RowDamaged name bytes) run same full more damaged =
    let is = damaged name bytes refl in
    record { stopped = record { run = run; so_far = same }; count = is.0; read = is.1; damaged = is.2 }
stopped task left faults.NoMemory run same full more damaged = inr (inl (record { run = run; so_far = same }))

-- what is left where no book was begun is what its status leaves
pub unstarted : (task : Task) (left : Left) (why : StartWhy) → IsUnbegun left → IsNotEmpty left.rows.0 why
    → RunLeaves task left (of_start why)
unstarted task left (starts.NotEmpty name bytes) is first = record { unbegun = is; first = first }
unstarted task left starts.KeeperFault is first = inr is
unstarted task left starts.NoMemory is first = inr (inr is)

-- what a run leaves, said of the same rows before
pub same_run : (task : Task) (before rows after : Option Rows) (text : Option (List ℕ) × Option (List ℕ))
    (history : List Entry) (s : Status)
    → before ≡ rows → RunLeaves task (record { rows = (before, after); text = text; history = history }) s
    → RunLeaves task (record { rows = (rows, after); text = text; history = history }) s
same_run task before rows after text history s told leaves =
    subst (λ r. RunLeaves task (record { rows = (r, after); text = text; history = history }) s) told leaves

-- so it is of the same rows after and the same history
pub same_end : (task : Task) (before after rows : Option Rows) (text : Option (List ℕ) × Option (List ℕ))
    (history other : List Entry) (s : Status)
    → rows ≡ after → other ≡ history → RunLeaves task (record { rows = (before, after); text = text; history = history }) s
    → RunLeaves task (record { rows = (before, rows); text = text; history = other }) s
same_end task before after rows text history other s told same leaves =
    subst (λ r. RunLeaves task (record { rows = (before, r); text = text; history = other }) s) (sym told)
    (subst (λ h. RunLeaves task (record { rows = (before, after); text = text; history = h }) s) (sym same) leaves)

-- where memory ran out before a run was begun, that is what is left
pub unwanted : (task : Task) (left : Left) (s : Status) → s ≡ status.NoMemory → IsUnbegun left
    → RunLeaves task left s
unwanted task left s is unbegun = subst (λ t. RunLeaves task left t) (sym is) (inr (inr unbegun))

-- what is written of a plain count is what its status leaves, where no run was begun
pub counted : (case : CaseShape) (left : Left) (s : Status) → IsUnrun left → HasPlain case left.text.0 left.text.1 s
    → TextLeaves (IsPlainText case) left s
counted case left status.Ok unrun is = record { unrun = unrun; text = is.text; is_text = is.plain; written = is.written }
counted case left status.Usage unrun is = absurd is
counted case left (status.NoFile n) unrun is = absurd is
counted case left (status.TopologyRefused why) unrun is = absurd is
counted case left (status.EventsRefused file line why) unrun is = absurd is
counted case left (status.PlanRefused line) unrun is = absurd is
counted case left status.KeeperFault unrun is = absurd is
counted case left status.SinkFault unrun is = record { unrun = unrun; text = is.text; is_text = is.plain; part = is.part }
counted case left status.NoMemory unrun is = elim is [
  | inl part ↦ inl (record { unrun = unrun; text = part.text; is_text = part.plain; part = part.part })
  | inr same ↦ inr (record { empty = unrun.empty; same_rows = unrun.same_rows; unwritten = same })
]
counted case left (status.NotEmpty name bytes) unrun is = absurd is
counted case left status.HistoryFull unrun is = absurd is
counted case left (status.RowDamaged name bytes) unrun is = absurd is
counted case left (status.ReadFault n) unrun is = absurd is
counted case left (status.TooLong n) unrun is = absurd is
counted case left (status.FileCount n m) unrun is = absurd is
counted case left (status.CollectRefused line first) unrun is = absurd is
counted case left (status.AuditRefused line r) unrun is = absurd is

-- so it is of a text of a call without a task
pub text_written : (IsText : List ℕ → Type 0) (text : List ℕ) (left : Left) (old new : Option (List ℕ)) (s : Status) → IsText text
    → IsUnrun left → left.text ≡ (old, new) → IsWritten text old new s → TextLeaves IsText left s
text_written IsText text left old new s is_text unrun same is =
    by_status s (subst (λ (t : Option (List ℕ) × Option (List ℕ)). IsWritten text t.0 t.1 s) (sym same) is)
  where
    by_status : (s : Status) → IsWritten text left.text.0 left.text.1 s → TextLeaves IsText left s
    by_status status.Ok is = record { unrun = unrun; text = text; is_text = is_text; written = is }
    by_status status.Usage is = absurd is
    by_status (status.NoFile n) is = absurd is
    by_status (status.TopologyRefused why) is = absurd is
    by_status (status.EventsRefused file line why) is = absurd is
    by_status (status.PlanRefused line) is = absurd is
    by_status status.KeeperFault is = absurd is
    by_status status.SinkFault is = record { unrun = unrun; text = text; is_text = is_text; part = is }
    by_status status.NoMemory is = inl (record { unrun = unrun; text = text; is_text = is_text; part = is })
    by_status (status.NotEmpty row bytes) is = absurd is
    by_status status.HistoryFull is = absurd is
    by_status (status.RowDamaged row bytes) is = absurd is
    by_status (status.ReadFault n) is = absurd is
    by_status (status.TooLong n) is = absurd is
    by_status (status.FileCount n m) is = absurd is
    by_status (status.CollectRefused line first) is = absurd is
    by_status (status.AuditRefused line r) is = absurd is

-- where nothing was written no run was begun
pub unbegun_of : (left : Left) (old new : Option (List ℕ)) → IsUnrun left → left.text ≡ (old, new) → new ≡ old → IsUnbegun left
unbegun_of left old new unrun text same = record {
  empty = unrun.empty;
  same_rows = unrun.same_rows;
  unwritten = ap (λ (t : Option (List ℕ) × Option (List ℕ)). t.1) text ∙ same
      ∙ sym (ap (λ (t : Option (List ℕ) × Option (List ℕ)). t.0) text);
}
