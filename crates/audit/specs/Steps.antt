-- How far a text has been read, and what becomes of its next line. No public clause cites this module.
use Rattle.std.specs.Prelude.{◌≡◌, ◌⊎◌, ◌<◌, ◌^◌, ◌+◌, ℕ, true, List, [], ◌∷◌, ◌++◌, length, Option, Some, None, ⊤}
use Rattle.mw_types.specs.declared.entry.Entry.{Entry}
use Rattle.run_history.specs.Cases.{CaseShape}
use Rattle.run_history.specs.Inputs.{IsRunnable}
use Rattle.run_history.specs.Runs.{run_of}
use Rattle.run_history.specs.Finished.{IsFinished}
use Rattle.run_history.specs.Texts.{IsResultText}
use Rattle.run_history.specs.HistoryLines.{lines_of_history}
use Rattle.history_laws.specs.Keys.{AreKeyed}
use Rattle.history_laws.specs.Writes.{IsLegalAndFenced}
use Rattle.trace_lines.specs.declared.refusal.AuditWhy.{AuditWhy}
use Rattle.trace_lines.specs.declared.refusal.AuditWhy.TheVariants.{NotALine, Unlawful, NotFinished, BadText}
use Rattle.trace_lines.specs.declared.refusal.AuditRefusal.{AuditRefusal}
use Rattle.trace_lines.specs.declared.refusal.AuditRefusal.TheVariants.{Bad, NoMemory}
use Rattle.trace_lines.specs.Lines.{IsCut, begins_entry, entry_lines_in, lines_in, text_of_entry}
use Rattle.trace_lines.specs.Entries.{IsEntryLine}
use Rattle.trace_lines.specs.Readings.{texts_from}
use Rattle.trace_lines.specs.Values.{AreValued}
use Rattle.audit.specs.Choices.{MayCome}

-- a case is such as a real one is
pub record IsReal (case : CaseShape) : Type 0 where
  pub runnable : IsRunnable case
  pub keyed : AreKeyed case
  pub valued : AreValued case

-- a lawful history of a real case has room for one more entry
pub record HasRoom (case : CaseShape) (history : List Entry) : Type 0 where
  pub real : IsReal case
  pub lawful : IsLegalAndFenced case history
  pub few : length history + 1 < 2 ^ 32

-- ---- the lines of entries

-- a text begins with this line, which is one of an entry, and this is behind it
pub record IsHeadOf (rest line after : List ℕ) : Type 0 where
  pub lines : lines_in rest ≡ line ∷ lines_in after
  pub begins : begins_entry line ≡ true
  pub cut : IsCut rest line after
  pub some : 0 < length rest
  pub shorter : length after < length rest

-- a text begins with the line of an entry, or with none
abbrev pub IsHead : List ℕ → Option (List ℕ × List ℕ) → Type 0
IsHead rest None = entry_lines_in rest ≡ []
IsHead rest (Some head) = IsHeadOf rest head.0 head.1

-- the entry that may come next and whose line this is, or none where there is no such entry
abbrev pub IsNextRead : CaseShape → List Entry → List ℕ → Option Entry → Type 0
IsNextRead case history line None =
    (entry : Entry) → MayCome case history entry → text_of_entry (length history) entry ≡ line → ⊥
IsNextRead case history line (Some entry) =
    MayCome case history entry × (text_of_entry (length history) entry ≡ line)

-- one more entry has come, whose line this is
pub record IsOneMore (history : List Entry) (line : List ℕ) (longer : List Entry) : Type 0 where
  pub entry : Entry
  pub pushed : longer ≡ history ++ entry ∷ []
  pub printed : text_of_entry (length history) entry ≡ line

-- a text has been read up to some rest of it as the lines of a history, of which the last may lack its line feed
pub record IsReadTo (bytes rest : List ℕ) (history : List Entry) : Type 0 where
  pub lines : lines_in bytes ≡ texts_from 0 history ++ lines_in rest
  pub text : (bytes ≡ lines_of_history history ++ rest)
      ⊎ ((bytes ++ 10 ∷ [] ≡ lines_of_history history) × (rest ≡ []))

-- ---- refusals

-- why no entry is read of a line under this number
abbrev pub IsWhyUnread : ℕ → List ℕ → AuditWhy → Type 0
IsWhyUnread n line NotALine = IsEntryLine n line → ⊥
IsWhyUnread n line Unlawful = IsEntryLine n line
IsWhyUnread n line NotFinished = ⊥
IsWhyUnread n line BadText = ⊥

-- a line is refused behind a history, under its number from 1: it is that of no entry that may come next
abbrev pub IsLineRefusal : CaseShape → List Entry → List ℕ → AuditRefusal → Type 0
IsLineRefusal case history line (Bad number why) = (number ≡ length history + 1)
    × IsLegalAndFenced case history × IsNextRead case history line None
    × IsWhyUnread (length history) line why
IsLineRefusal case history line NoMemory = ⊤

-- why what stands behind a history is not its result
abbrev pub IsWhyNotResult : CaseShape → List Entry → List ℕ → AuditWhy → Type 0
IsWhyNotResult case history rest NotALine = ⊥
IsWhyNotResult case history rest Unlawful = ⊥
IsWhyNotResult case history rest NotFinished = IsFinished case (run_of case.topology history) → ⊥
IsWhyNotResult case history rest BadText = IsFinished case (run_of case.topology history)
    × (IsResultText case.topology history rest → ⊥)

-- what stands behind a history is refused, under the number of its first line
abbrev pub IsEndRefusal : CaseShape → List Entry → List ℕ → AuditRefusal → Type 0
IsEndRefusal case history rest (Bad number why) = (number ≡ length history + 1)
    × IsLegalAndFenced case history × IsWhyNotResult case history rest why
IsEndRefusal case history rest NoMemory = ⊤

-- a history is finished, and what stands behind it is its result
pub record IsWholeRun (case : CaseShape) (history : List Entry) (rest : List ℕ) (answered : List Entry)
    : Type 0 where
  pub same : answered ≡ history
  pub lawful : IsLegalAndFenced case history
  pub finished : IsFinished case (run_of case.topology history)
  pub is_result : IsResultText case.topology history rest
