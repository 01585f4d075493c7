-- Which line of a printed text is the first that is wrong, and why. Own.
use Rattle.std.specs.Prelude.{ℕ, ◌-◌, List, ⊤}
use Rattle.mw_types.specs.declared.entry.Entry.{Entry}
use Rattle.run_history.specs.Cases.{CaseShape}
use Rattle.run_history.specs.Runs.{run_of}
use Rattle.run_history.specs.Finished.{IsFinished}
use Rattle.trace_lines.specs.declared.refusal.AuditWhy.{AuditWhy}
use Rattle.trace_lines.specs.declared.refusal.AuditWhy.TheVariants.{NotALine, Unlawful, NotFinished, BadText}
use Rattle.trace_lines.specs.declared.refusal.AuditRefusal.{AuditRefusal}
use Rattle.trace_lines.specs.declared.refusal.AuditRefusal.TheVariants.{Bad, NoMemory}
use Rattle.trace_lines.specs.Entries.{IsEntryLine}
use Rattle.trace_lines.specs.Readings.{IsRunText, IsFirstUnread, IsAllRead}

-- the line of this number, from 1, is the first that is wrong, for this reason: up to it there is no
-- reading, and it is no entry's line under its number, or it is one's; or all lines of entries have a
-- reading, and that is not finished, or is finished and the text is another
abbrev pub IsFirstWrong : CaseShape → List ℕ → ℕ → AuditWhy → Type 0
IsFirstWrong case bytes number NotALine =
    (line : List ℕ) × IsFirstUnread case bytes number line × (IsEntryLine (number - 1) line → ⊥)
IsFirstWrong case bytes number Unlawful =
    (line : List ℕ) × IsFirstUnread case bytes number line × IsEntryLine (number - 1) line
IsFirstWrong case bytes number NotFinished = (history : List Entry)
    × IsAllRead case bytes number history × (IsFinished case (run_of case.topology history) → ⊥)
IsFirstWrong case bytes number BadText = (history : List Entry) × IsAllRead case bytes number history
    × IsFinished case (run_of case.topology history) × (IsRunText case history bytes → ⊥)

-- an audit is refused for the first line that is wrong; want of memory says nothing
abbrev pub IsAuditRefusal : CaseShape → List ℕ → AuditRefusal → Type 0
IsAuditRefusal case bytes (Bad line why) = IsFirstWrong case bytes line why
IsAuditRefusal case bytes NoMemory = ⊤
