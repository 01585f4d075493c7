-- Which lines a printed history has. Own.
-- A line ends at a line feed, which the last one may lack; no carriage return is dropped.
use Rattle.std.specs.Prelude.{◌≡◌, ◌⊎◌, ℕ, ◌==◌, nat_eq, Bool, List, [], ◌∷◌, ◌++◌, codes}
use Rattle.std.specs.List.{slice_split, starts_with, take_while}
use Rattle.mw_types.specs.declared.entry.Entry.{Entry}
use Rattle.text_lines.specs.Lines.{without_empty_end}
use Rattle.serde_json.specs.Written.{compact_text}
use Rattle.run_history.specs.HistoryLines.{entry_data}

-- the lines of a text: what stands before each line feed, and what follows the last one where it is not empty
abbrev pub lines_in : List ℕ → List (List ℕ)
lines_in bytes = without_empty_end (slice_split (λ b. b == 10) bytes)

-- a text is this line, its line feed and the rest, or this line alone, which lacks its line feed
abbrev pub IsCut : List ℕ → List ℕ → List ℕ → Type 0
IsCut text line rest = (text ≡ line ++ 10 ∷ rest) ⊎ ((text ≡ line) × (rest ≡ []))

-- how the line of an entry begins
abbrev pub entry_begin : List ℕ
entry_begin = codes "{\"do\":"

-- whether a line begins as that of an entry does
abbrev pub begins_entry : List ℕ → Bool
begins_entry line = starts_with nat_eq line entry_begin

-- the lines at the head of a text that begin so
abbrev pub entry_lines_in : List ℕ → List (List ℕ)
entry_lines_in bytes = take_while begins_entry (lines_in bytes)

-- what the line of an entry under its commit number has before its line feed
abbrev pub text_of_entry : ℕ → Entry → List ℕ
text_of_entry n entry = compact_text (entry_data n entry)
