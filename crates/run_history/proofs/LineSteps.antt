-- The lines of the entries so far, with those of the entries that are left, are all lines.
use Rattle.std.proofs.Common.{◌≡◌, ℕ, List, ◌++◌, drop}
use Rattle.mw_types.specs.declared.entry.Entry.{Entry}
use Rattle.run_history.specs.HistoryLines.{lines_from, lines_of_history}

-- the lines of the entries so far, where with those of the entries that are left they are all lines
abbrev pub AreLinesTo : List Entry → ℕ → List ℕ → Type 0
AreLinesTo history n lines = lines ++ lines_from n (drop n history) ≡ lines_of_history history
