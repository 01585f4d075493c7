-- What each status leaves of the history, of the keeper's rows and of the text. Own.
use Rattle.std.specs.Prelude.{◌≡◌, ◌⊎◌, ◌++◌, ℕ, ⊤, List, [], length, Option, Some, IfSome, slice_get}
use Rattle.std.specs.Io.KnownBytes.{append_known}
use Rattle.mw_types.specs.declared.identity.RowName.{RowName}
use Rattle.mw_types.specs.declared.entry.Entry.{Entry}
use Rattle.mw_ports.specs.Sinks.{AppendsPrefix}
use Rattle.topology.specs.Shapes.{Shape}
use Rattle.topology.specs.Folding.{RoutesView}
use Rattle.row_keeper.specs.Rows.{Rows}
use Rattle.run_history.specs.Cases.{CaseShape}
use Rattle.run_history.specs.Runs.{run_of}
use Rattle.run_history.specs.Legal.{IsLegal}
use Rattle.run_history.specs.Fences.{IsFenced}
use Rattle.run_history.specs.Finished.{IsFinished}
use Rattle.run_history.specs.Stored.{stored_rows}
use Rattle.run_history.specs.HistoryLines.{lines_of_history}
use Rattle.run_history.specs.Texts.{IsResultText, as_line, summary_data}
use Rattle.plain_answer.specs.Plain.{IsPlainText}
use Rattle.book.specs.Claims.{IsDamagedRow}
use Rattle.task_runs.specs.declared.status.Status.{Status}
use Rattle.task_runs.specs.declared.status.Status.TheVariants.{KeeperFault, SinkFault, NoMemory, NotEmpty, HistoryFull, RowDamaged}
use Rattle.task_runs.specs.declared.status.Status.TheVariants as status
use Rattle.task_runs.specs.declared.task.Task.{Task}
use Rattle.task_runs.specs.declared.task.Wanted.{Wanted}
use Rattle.task_runs.specs.declared.task.Wanted.TheVariants.{ResultAlone, HistoryFirst, SummaryAlone, EachAtOnce}
use Rattle.task_runs.specs.declared.task.Before.{Before}
use Rattle.task_runs.specs.declared.task.Before.TheVariants.{Steps}
use Rattle.task_runs.specs.Lives.{IsLiveInPart, IsLiveOnce, IsLiveSoFar, IsLiveText, replay_text}
use Rattle.task_runs.specs.Limits.{history_limit}
use Rattle.task_runs.specs.Histories.{GoesAs, IsAllOf, IsReadAfter, IsShortOf}

-- what a call leaves: the keeper's rows and the sink's text, before and after, where a contract can see
-- them, and the history
pub record Left : Type 0 where
  pub rows : Option Rows × Option Rows
  pub text : Option (List ℕ) × Option (List ℕ)
  pub history : List Entry

-- ---- the history and the rows

-- no run was begun: there is no history, the keeper's rows are those handed in, and nothing was written
pub record IsUnbegun (left : Left) : Type 0 where
  pub empty : left.history ≡ []
  pub same_rows : left.rows.1 ≡ left.rows.0
  pub unwritten : left.text.1 ≡ left.text.0

-- rows that a contract can see are those of the history, which is a legal one, and goes as what the task has
-- before its drain does, and as a drain does behind that
pub record IsKeptRun (task : Task) (history : List Entry) (rows : Rows) : Type 0 where
  pub legal : IsLegal task.case history
  pub goes : GoesAs task.routes task.case task.before history
  pub stored : rows ≡ stored_rows (run_of task.case.topology history)

-- a run of the task, as far as it came: it was begun over a keeper without rows
pub record IsRun (task : Task) (left : Left) : Type 0 where
  pub began_empty : IfSome left.rows.0 (λ rows. rows ≡ [])
  pub fenced : IsFenced task.case.topology left.history
  pub kept : IfSome left.rows.1 (IsKeptRun task left.history)

-- a run that came to its end: it is all of what comes before the drain, and the whole drain behind that, and
-- no work is left
pub record IsWholeRun (task : Task) (left : Left) : Type 0 where
  pub run : IsRun task left
  pub whole : IfSome left.rows.1 (λ _. IsAllOf task.routes task.case task.before left.history)
  pub finished : IfSome left.rows.1 (λ _. IsFinished task.case (run_of task.case.topology left.history))

-- ---- the text

-- the text of a history: its lines, and then a result of it
pub record IsLongText (shape : Shape) (history : List Entry) (text : List ℕ) : Type 0 where
  pub result : List ℕ
  pub of_history : IsResultText shape history result
  pub spelled : text ≡ lines_of_history history ++ result

-- the whole text that is wanted of a history: a result of it, or its lines before that, or the summary line
-- alone, or behind the results that were written at once
abbrev pub IsWholeText : Wanted → Shape → List Entry → List ℕ → Type 0
IsWholeText ResultAlone shape history text = IsResultText shape history text
IsWholeText HistoryFirst shape history text = IsLongText shape history text
IsWholeText SummaryAlone shape history text = text ≡ as_line (summary_data history)
IsWholeText EachAtOnce shape history text = IsLiveText shape history text

-- where each result was written at once, and nothing came before the drain, the text has each emission's line
-- once, in the order of their ids; of other texts this says nothing
abbrev pub IsInOrder : Wanted → Before → Shape → List Entry → List ℕ → Type 0
IsInOrder EachAtOnce (Steps []) shape history text = IsLiveOnce shape history text
IsInOrder _ _ shape history text = ⊤

-- where each result was written at once behind the steps of a script, just the text of that replay was written;
-- of other texts this says nothing
abbrev pub IsLiveReplay : Wanted → Before → RoutesView → CaseShape → List Entry
    → Option (List ℕ) × Option (List ℕ) → Type 0
IsLiveReplay EachAtOnce (Steps steps) routes case history text =
    text.1 ≡ append_known text.0 (replay_text routes case steps history)
IsLiveReplay _ _ routes case history text = ⊤

-- the text of a history's lines, and then the plain text of the case
pub record IsLongPlain (case : CaseShape) (history : List Entry) (text : List ℕ) : Type 0 where
  pub result : List ℕ
  pub plain : IsPlainText case result
  pub spelled : text ≡ lines_of_history history ++ result

-- the whole text that is wanted of a history is the plain text of its case, or its lines before that; of the
-- summary line alone, and of results that were written at once, this says nothing
abbrev pub IsPlainWhole : Wanted → CaseShape → List Entry → List ℕ → Type 0
IsPlainWhole ResultAlone case history text = IsPlainText case text
IsPlainWhole HistoryFirst case history text = IsLongPlain case history text
IsPlainWhole SummaryAlone case history text = ⊤
IsPlainWhole EachAtOnce case history text = ⊤

-- what a run has written that stopped: nothing, or the results of its history, where each is written at once
abbrev pub IsTextSoFar : Wanted → Shape → List Entry → Option (List ℕ) × Option (List ℕ) → Type 0
IsTextSoFar EachAtOnce shape history text = IsLiveSoFar shape history text.0 text.1
IsTextSoFar _ shape history text = text.1 ≡ text.0

-- ---- what each status leaves

-- the run came to its end, and its whole text was written
pub record IsWhole (task : Task) (left : Left) : Type 0 where
  pub run : IsWholeRun task left
  pub text : List ℕ
  pub whole : IsWholeText task.wanted task.case.topology left.history text
  pub in_order : IsInOrder task.wanted task.before task.case.topology left.history text
  pub written : left.text.1 ≡ append_known left.text.0 text
  -- nothing of the history but its lines is in it: its result is the plain count
  pub plain : IfSome left.rows.1 (λ _. IsPlainWhole task.wanted task.case left.history text)
  -- which results were written again, and when, is decided by the steps
  pub replayed : IfSome left.rows.1
      (λ _. IsLiveReplay task.wanted task.before task.routes task.case left.history left.text)

-- the run came to its end, and a beginning of its text was written
pub record IsPart (task : Task) (left : Left) : Type 0 where
  pub run : IsWholeRun task left
  pub text : List ℕ
  pub whole : IsWholeText task.wanted task.case.topology left.history text
  pub part : AppendsPrefix text left.text.0 left.text.1

-- the run came so far, and so did its text
pub record IsStopped (task : Task) (left : Left) : Type 0 where
  pub run : IsRun task left
  pub so_far : IsTextSoFar task.wanted task.case.topology left.history left.text

-- the run came so far, where a result could not be written at once: lines were written, and a beginning of
-- more
pub record IsCutOff (task : Task) (left : Left) : Type 0 where
  pub live : task.wanted ≡ EachAtOnce
  pub run : IsRun task left
  pub part : IsLiveInPart task.case.topology left.history left.text.0 left.text.1

-- a beginning of the text was written, of a run that came to its end or was cut off
abbrev pub IsPartOf : Task → Left → Type 0
IsPartOf task left = IsPart task left ⊎ IsCutOff task left

-- the run stopped since its history has as many entries as one may have, and has more to come: each whole
-- run has more than that
pub record IsFull (task : Task) (left : Left) : Type 0 where
  pub stopped : IsStopped task left
  pub full : length left.history ≡ history_limit
  pub more : IfSome left.rows.1 (λ _. IsShortOf task.routes task.case task.before left.history)

-- the run stopped at bytes that the keeper gave, which are those of no row that fits the name; of a keeper
-- whose rows a contract can see none are
pub record IsDamagedAt (task : Task) (left : Left) (name : RowName) (bytes : List ℕ) : Type 0 where
  pub stopped : IsStopped task left
  pub count : ℕ
  pub read : IsReadAfter task.before count left.history
  pub damaged : IsDamagedRow task.case left.rows.1 count name bytes

-- no run was begun, since the keeper has rows; this is the first where a contract can see them
pub record IsHeldBefore (left : Left) (name : RowName) (bytes : List ℕ) : Type 0 where
  pub unbegun : IsUnbegun left
  pub first : IfSome left.rows.0 (λ rows. slice_get rows 0 ≡ Some (name, bytes))

-- what each status leaves once the files are read; the others come before that
abbrev pub RunLeaves : Task → Left → Status → Type 0
RunLeaves task left status.Ok = IsWhole task left
RunLeaves task left SinkFault = IsPartOf task left
RunLeaves task left KeeperFault = IsStopped task left ⊎ IsUnbegun left
RunLeaves task left NoMemory = IsPartOf task left ⊎ (IsStopped task left ⊎ IsUnbegun left)
RunLeaves task left HistoryFull = IsFull task left
RunLeaves task left (RowDamaged name bytes) = IsDamagedAt task left name bytes
RunLeaves task left (NotEmpty name bytes) = IsHeldBefore left name bytes
RunLeaves task left _ = ⊥

-- ---- what each status leaves of a text that needs no keeper

-- no run is begun: there is no history, and the keeper's rows are those handed in
pub record IsUnrun (left : Left) : Type 0 where
  pub empty : left.history ≡ []
  pub same_rows : left.rows.1 ≡ left.rows.0

-- a text of which this is so was written whole
pub record IsTextWritten (IsText : List ℕ → Type 0) (left : Left) : Type 0 where
  pub unrun : IsUnrun left
  pub text : List ℕ
  pub is_text : IsText text
  pub written : left.text.1 ≡ append_known left.text.0 text

-- a beginning of a text of which this is so was written
pub record IsTextBegun (IsText : List ℕ → Type 0) (left : Left) : Type 0 where
  pub unrun : IsUnrun left
  pub text : List ℕ
  pub is_text : IsText text
  pub part : AppendsPrefix text left.text.0 left.text.1

-- what each status leaves of such a text once the files are read; the others come before that, or never
abbrev pub TextLeaves : (List ℕ → Type 0) → Left → Status → Type 0
TextLeaves IsText left status.Ok = IsTextWritten IsText left
TextLeaves IsText left SinkFault = IsTextBegun IsText left
TextLeaves IsText left NoMemory = IsTextBegun IsText left ⊎ IsUnbegun left
TextLeaves IsText left _ = ⊥
