-- The lines of a history with one more entry, and how long they are.
use Rattle.std.proofs.Common.{◌≡◌, ℕ, ◌+◌, ◌*◌, ◌≤◌, true, List, [], ◌∷◌, ◌++◌, length, map, ap, ◌∙◌, arith, append-nil, length-append}
use Rattle.std.specs.List.{enumerate_from, flat_map}
use Rattle.std.proofs.lemmas.List.{map-append}
use Rattle.std.proofs.lemmas.Grind.{flat_map-append}
use Rattle.mw_types.specs.declared.entry.Entry.{Entry}
use Rattle.run_history.specs.HistoryLines.{line_of_entry, lines_from, lines_of_history}
use Rattle.run_history.proofs.Making.{enumerate_from-append, length-numbered}
use Rattle.trace_lines.specs.Lines.{begins_entry, text_of_entry}
use Rattle.trace_lines.specs.Readings.{texts_from}
use Rattle.trace_lines.proofs.Parting.{entry-begins}

-- the lines of entries, and of others behind them
pub texts_from-append : (xs ys : List Entry) → texts_from 0 (xs ++ ys) ≡ texts_from 0 xs ++ texts_from (length xs) ys
texts_from-append xs ys =
    let next : 0 + length xs ≡ length xs = omega arith in
    ap (map (λ (e : ℕ × Entry). text_of_entry e.0 e.1)) (enumerate_from-append 0 xs ys)
    ∙ map-append (λ (e : ℕ × Entry). text_of_entry e.0 e.1) (enumerate_from 0 xs) (enumerate_from (0 + length xs) ys)
    ∙ ap (λ n. texts_from 0 xs ++ texts_from n ys) next

-- the printed lines, and one more
pub lines-push : (history : List Entry) (entry : Entry)
    → lines_of_history (history ++ entry ∷ []) ≡ lines_of_history history ++ (text_of_entry (length history) entry ++ 10 ∷ [])
lines-push history entry =
    let next : 0 + length history ≡ length history = omega arith in
    ap (flat_map (λ (e : ℕ × Entry). line_of_entry e.0 e.1)) (enumerate_from-append 0 history (entry ∷ []))
    ∙ flat_map-append (λ (e : ℕ × Entry). line_of_entry e.0 e.1) (enumerate_from 0 history) (enumerate_from (0 + length history) (entry ∷ []))
    ∙ ap (λ n. lines_of_history history ++ lines_from n (entry ∷ [])) next
    ∙ ap (λ l. lines_of_history history ++ l) (append-nil (line_of_entry (length history) entry))

-- there is a line for each entry
pub texts-many : (history : List Entry) → length (texts_from 0 history) ≡ length history
texts-many history = length-numbered (λ (e : ℕ × Entry). text_of_entry e.0 e.1) 0 history

-- no line of an entry is empty
begun-some : (line : List ℕ) → begins_entry line ≡ true → 1 ≤ length line
begun-some [] begins = absurd (cc)
begun-some (b ∷ bs) begins = omega arith

-- so a history is at most half as long as its print
pub lines-long : (n : ℕ) (history : List Entry) → 2 * length history ≤ length (lines_from n history)
lines-long n [] = omega arith
lines-long n (e ∷ es) =
    let some = begun-some (text_of_entry n e) (entry-begins n e) in
    let feed = length-append (text_of_entry n e) (10 ∷ []) in
    let both = length-append (line_of_entry n e) (lines_from (n + 1) es) in
    let rest = lines-long (n + 1) es in
    omega (arith, some, feed, both, rest)
