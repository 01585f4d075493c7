-- Which history a printed text is of, and how far its lines have one. Own.
use Rattle.std.specs.Prelude.{◌≡◌, ◌+◌, ℕ, List, [], ◌∷◌, ◌++◌, length, map}
use Rattle.std.specs.List.{enumerate_from}
use Rattle.mw_types.specs.declared.entry.Entry.{Entry}
use Rattle.run_history.specs.Cases.{CaseShape}
use Rattle.run_history.specs.Runs.{run_of}
use Rattle.run_history.specs.Finished.{IsFinished}
use Rattle.run_history.specs.Texts.{IsResultText}
use Rattle.run_history.specs.HistoryLines.{lines_of_history}
use Rattle.history_laws.specs.Writes.{IsLegalAndFenced}
use Rattle.trace_lines.specs.Lines.{entry_lines_in, text_of_entry}

-- what the lines of the entries from a commit number on have before their line feeds
abbrev pub texts_from : ℕ → List Entry → List (List ℕ)
texts_from n entries = map (λ (e : ℕ × Entry). text_of_entry e.0 e.1) (enumerate_from n entries)

-- a history is the reading of some lines: it is legal and fenced, and these are its lines
pub record IsReading (case : CaseShape) (history : List Entry) (lines : List (List ℕ)) : Type 0 where
  pub lawful : IsLegalAndFenced case history
  pub printed : texts_from 0 history ≡ lines

-- some history is the reading of these lines
abbrev pub IsRead : CaseShape → List (List ℕ) → Type 0
IsRead case lines = (history : List Entry) × IsReading case history lines

-- the bytes are the text of a lawful run to its end: the lines of its history, and its result behind them
pub record IsRunText (case : CaseShape) (history : List Entry) (bytes : List ℕ) : Type 0 where
  pub lawful : IsLegalAndFenced case history
  pub finished : IsFinished case (run_of case.topology history)
  pub result : List ℕ
  pub is_result : IsResultText case.topology history result
  pub whole : bytes ≡ lines_of_history history ++ result

-- among the lines of entries this one, of this number from 1, is the first up to which there is no reading
pub record IsFirstUnread (case : CaseShape) (bytes : List ℕ) (number : ℕ) (line : List ℕ) : Type 0 where
  pub before : List (List ℕ)
  pub after : List (List ℕ)
  pub stands : entry_lines_in bytes ≡ before ++ line ∷ after
  pub numbered : number ≡ length before + 1
  pub read_before : IsRead case before
  pub unread : IsRead case (before ++ line ∷ []) → ⊥

-- the history is the reading of all lines of entries, and the line behind them has this number, from 1
pub record IsAllRead (case : CaseShape) (bytes : List ℕ) (number : ℕ) (history : List Entry) : Type 0 where
  pub reading : IsReading case history (entry_lines_in bytes)
  pub numbered : number ≡ length (entry_lines_in bytes) + 1
