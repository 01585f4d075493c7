-- How the functions behind a run answer.
use Rattle.std.specs.Prelude.{◌≡◌, ◌≤◌, ◌⊎◌, [], ℕ, Bool, false, List, length, Option, IfNone, IfSome}
use Rattle.std.specs.Io.KnownBytes.{append_known}
use Rattle.mw_types.specs.Causes.{Rose}
use Rattle.mw_types.specs.declared.entry.Entry.{Entry}
use Rattle.mw_ports.specs.declared.sink.SinkFault.{SinkFault}
use Rattle.mw_ports.specs.declared.sink.SinkFault.TheVariants as sink
use Rattle.mw_ports.specs.Sinks.{AppendsPrefix}
use Rattle.topology.specs.Shapes.{Shape}
use Rattle.run_history.specs.Cases.{CaseShape}
use Rattle.run_history.specs.Fences.{Begins}
use Rattle.plain_answer.specs.Plain.{IsPlainText}
use Rattle.live_outlet.specs.Outlets.{OutletView}
use Rattle.row_keeper.specs.Rows.{Rows}
use Rattle.book.specs.Books.{BookView}
use Rattle.book.specs.DeskReasons.{IsDamageOf}
use Rattle.book.specs.OwnDesks.{own_view, telling}
use Rattle.node.specs.Answers.{refusal_of}
use Rattle.world.specs.drains.Turns.{HasFailed}
use Rattle.world.specs.drains.DrainTurns.{HasDrained, IsFullBefore}
use Rattle.workers.specs.Rounds.{IsDamageAt, first_claims, rounds_room}
use Rattle.node.specs.declared.outcome.Outcome.{Outcome}
use Rattle.plans.specs.declared.step.Step.{Step}
use Rattle.world.specs.scripts.Stepping.{HasActed, HasFaulted}
use Rattle.world.specs.scripts.WorldStates.{WorldState}
use Rattle.book.specs.declared.refusals.StartWhy.{StartWhy}
use Rattle.book.specs.declared.refusals.StartWhy.TheVariants as starts
use Rattle.node.specs.declared.outcome.NodeFault.{NodeFault}
use Rattle.node.specs.declared.outcome.NodeFault.TheVariants as faults
use Rattle.task_runs.specs.declared.live.LiveFault.{LiveFault}
use Rattle.task_runs.specs.declared.live.LiveFault.TheVariants as lives
use Rattle.task_runs.specs.Lives.{IsLiveInPart, IsLiveSoFar, IsPumpedTo}
use Rattle.task_runs.specs.declared.task.Wanted.{Wanted}
use Rattle.task_runs.specs.declared.task.Before.{Before}
use Rattle.task_runs.specs.declared.task.Before.TheVariants.{Steps, Rounds}
use Rattle.task_runs.specs.declared.task.Task.{Task}
use Rattle.task_runs.specs.Histories.{IsFirstClaimed, IsPlainFront}
use Rattle.task_runs.specs.Answers.{IsWholeText, RunLeaves}
use Rattle.task_runs.specs.declared.status.Status.{Status}
use Rattle.task_runs.specs.declared.status.Status.TheVariants as status

-- the status where a book was not begun
abbrev pub of_start : StartWhy → Status
of_start (starts.NotEmpty name bytes) = status.NotEmpty name bytes
of_start starts.KeeperFault = status.KeeperFault
of_start starts.NoMemory = status.NoMemory

-- the status where a drain did not come to its end
abbrev pub of_drain : NodeFault → Status
of_drain faults.HistoryFull = status.HistoryFull
of_drain faults.KeeperFault = status.KeeperFault
of_drain (faults.RowDamaged name bytes) = status.RowDamaged name bytes
of_drain faults.NoMemory = status.NoMemory

-- the cause of a drain's fault, in the keeper and the history
pub record HasRunCause (old new : BookView) (why : NodeFault) : Type 0 where
  pub keeper : why ≡ faults.KeeperFault → Rose old.faults new.faults
  pub full : why ≡ faults.HistoryFull → length new.history ≡ new.limit
  pub damaged : IsDamageOf (own_view new) (refusal_of why)

-- the status of a sink's fault
abbrev pub of_sink : SinkFault → Status
of_sink sink.Failed = status.SinkFault
of_sink sink.NoMemory = status.NoMemory

-- the status where a run was stopped whose results are written at once
abbrev pub of_live : LiveFault → Status
of_live (lives.Run why) = of_drain why
of_live (lives.Sink why) = of_sink why

-- what such a run has written then: the results of its history, or a part of them where it was the sink that
-- stopped it
abbrev pub IsLiveBehind : LiveFault → Shape → List Entry → Option (List ℕ) → Option (List ℕ) → Type 0
IsLiveBehind (lives.Run why) shape history text grown = IsLiveSoFar shape history text grown
IsLiveBehind (lives.Sink why) shape history text grown = IsLiveInPart shape history text grown

-- the same, where all results of a beginning of the history were written before
abbrev pub StopsLive : LiveFault → Shape → List Entry → List Entry → OutletView → Option (List ℕ)
    → Option (List ℕ) → Type 0
StopsLive fault shape front history old some grown = (once : Bool) (text : Option (List ℕ)) →
    IsPumpedTo shape front once old text some → IsLiveBehind fault shape history text grown

-- the cause of such a fault, in the keeper and the history, or in the sink
abbrev pub HasLiveCause : BookView → BookView → ℕ → ℕ → LiveFault → Type 0
HasLiveCause old new before after (lives.Run why) = HasRunCause old new why
HasLiveCause old new before after (lives.Sink why) = why ≡ sink.Failed → Rose before after

-- the same of one step
abbrev pub StopsStep : LiveFault → Shape → List Entry → List Entry → OutletView → Option (List ℕ)
    → Option (List ℕ) → Type 0
StopsStep fault shape front history old some grown = (text : Option (List ℕ)) →
    IsPumpedTo shape front false old text some → IsLiveBehind fault shape history text grown

-- a step was done as it is in the scripted world
abbrev pub IsStepDone : Step → WorldState → WorldState → Type 0
IsStepDone step old new = (outcome : Outcome) × HasActed step old new outcome

-- what a step leaves of a world where such a fault ends it: it was not done, or its results could not be
-- written
abbrev pub IsStepFault : Step → WorldState → WorldState → LiveFault → Type 0
IsStepFault step old new (lives.Run why) = HasFaulted step old new
IsStepFault step old new (lives.Sink why) = IsStepDone step old new

-- what a turn of a drain leaves of a book where such a fault ends it: nothing was appended, or its results
-- could not be written
abbrev pub IsTurnFault : ℕ → BookView → BookView → LiveFault → Type 0
IsTurnFault from old new (lives.Run why) = HasFailed old new why × IsFullBefore from old why
IsTurnFault from old new (lives.Sink why) = (more : Bool) × HasDrained from old new more

-- the whole text of a history was written
pub record WritesWhole (wanted : Wanted) (shape : Shape) (history : List Entry)
    (old new : Option (List ℕ)) : Type 0 where
  pub text : List ℕ
  pub whole : IsWholeText wanted shape history text
  pub written : new ≡ append_known old text

-- a beginning of the text of a history was written
pub record WritesPart (wanted : Wanted) (shape : Shape) (history : List Entry)
    (old new : Option (List ℕ)) : Type 0 where
  pub text : List ℕ
  pub whole : IsWholeText wanted shape history text
  pub part : AppendsPrefix text old new

-- what is written of a history: its whole text, or a beginning, or nothing where memory ran out
abbrev pub HasText : Wanted → Shape → List Entry → Option (List ℕ) → Option (List ℕ) → Status → Type 0
HasText wanted shape history old new status.Ok = WritesWhole wanted shape history old new
HasText wanted shape history old new status.SinkFault = WritesPart wanted shape history old new
HasText wanted shape history old new status.NoMemory = WritesPart wanted shape history old new ⊎ (new ≡ old)
HasText wanted shape history old new _ = ⊥

-- the whole plain text of a case was written
pub record WritesPlain (case : CaseShape) (old new : Option (List ℕ)) : Type 0 where
  pub text : List ℕ
  pub plain : IsPlainText case text
  pub written : new ≡ append_known old text

-- a beginning of the plain text of a case was written
pub record WritesPlainPart (case : CaseShape) (old new : Option (List ℕ)) : Type 0 where
  pub text : List ℕ
  pub plain : IsPlainText case text
  pub part : AppendsPrefix text old new

-- what is written of a plain count: its whole text, or a beginning, or nothing where memory ran out
abbrev pub HasPlain : CaseShape → Option (List ℕ) → Option (List ℕ) → Status → Type 0
HasPlain case old new status.Ok = WritesPlain case old new
HasPlain case old new status.SinkFault = WritesPlainPart case old new
HasPlain case old new status.NoMemory = WritesPlainPart case old new ⊎ (new ≡ old)
HasPlain case old new _ = ⊥

-- how the writing of a text ended: it was written whole, or a beginning of it
abbrev pub IsWritten : List ℕ → Option (List ℕ) → Option (List ℕ) → Status → Type 0
IsWritten text old new status.Ok = new ≡ append_known old text
IsWritten text old new status.SinkFault = AppendsPrefix text old new
IsWritten text old new status.NoMemory = AppendsPrefix text old new
IsWritten text old new _ = ⊥

-- ---- what rounds leave

-- rounds of a new book have left this history: it has so many entries at most, and begins as rounds do; where
-- no fault ended them all first claims were made, and without an action no other, and each injector has its
-- lines
pub record AreRounds (case : CaseShape) (workers rounds actions : ℕ) (told : Option Rows)
    (fault : Option NodeFault) (history : List Entry) : Type 0 where
  pub room : length history ≤ rounds_room workers rounds actions
  pub first : IsFirstClaimed case workers history
  pub claimed : IfNone fault (Begins (first_claims case workers) history)
  pub plain : IfSome told (λ _. actions ≡ 0 → IfNone fault (IsPlainFront case workers rounds history))

-- they are the rounds that a task has before its drain
abbrev pub AreRoundsOf : CaseShape → Before → Option Rows → Option NodeFault → List Entry → Type 0
AreRoundsOf case (Steps steps) told fault history = ⊥
AreRoundsOf case (Rounds workers rounds actions) told fault history =
    AreRounds case workers rounds (length actions) told fault history

-- what a run leaves that was begun over a keeper without rows, whatever a contract saw of them then
abbrev pub LeavesBegun : Task → Option Rows → Option (List ℕ) × Option (List ℕ) → List Entry → Status → Type 0
LeavesBegun task rows text history status = (began : Option Rows) → IfSome began (λ held. held ≡ []) →
    RunLeaves task (record { rows = (began, rows); text = text; history = history }) status

-- where a fault says that a row is damaged, it is, after some of the entries of a history or all
abbrev pub IsDamageIn : CaseShape → Option Rows → List Entry → NodeFault → Type 0
IsDamageIn case told history why = (count : ℕ) × (count ≤ length history)
    × IsDamageAt case (telling told) count (refusal_of why)
