-- A printed history is parted into the lines of its entries.
use Rattle.std.proofs.Common.{◌≡◌, ℕ, ◌+◌, ◌<◌, ◌≤◌, ◌^◌, ◌==◌, Bool, true, false, cond, List, [], ◌∷◌, ◌++◌, length, drop, refl, ap, ◌∙◌, arith, append_assoc, append-nil}
use Rattle.std.specs.List.{AllByRecursion, flat_map, slice_split, onto_first, take_while}
use Rattle.std.proofs.lemmas.Bool.{ne_eqb}
use Rattle.std.proofs.lemmas.List.Elements.{All-from_recursion}
use Rattle.std.proofs.lemmas.List.Sums.{take_while-cons}
use Rattle.std.proofs.lemmas.List.Splits.{slice_split_at, length-slice_split}
use Rattle.list_lemmas.proofs.Lists.{each-weaker}
use Rattle.json.specs.Print.{escape_byte}
use Rattle.read_back.specs.Writable.{HasNoControl}
use Rattle.read_back.proofs.Control.{compact_text-no_control}
use Rattle.mw_types.specs.declared.entry.Entry.{Entry}
use Rattle.mw_types.specs.declared.entry.Entry.TheVariants.{Claim, Inject, Handle, Fire, Ack, Purge}
use Rattle.topology.specs.Shapes.{Shape}
use Rattle.text_lines.specs.Lines.{without_empty_end}
use Rattle.run_history.specs.Texts.{ResultLine, as_line, line_data, summary_data, IsResultText}
use Rattle.run_history.specs.HistoryLines.{entry_data, lines_from}
use Rattle.trace_lines.specs.Lines.{lines_in, begins_entry, entry_lines_in, text_of_entry}
use Rattle.trace_lines.specs.Entries.{IsEntry}
use Rattle.trace_lines.specs.Readings.{texts_from}
use Rattle.trace_lines.proofs.Cutting.{without_empty_end-cons}
use Rattle.trace_lines.proofs.Writing.{entry-writable}

-- ---- the lines of entries

-- no byte of an entry's line is below a space
pub entry-no_control : (n : ℕ) (e : Entry) → n < 2 ^ 64 → IsEntry e → HasNoControl (text_of_entry n e)
entry-no_control n e small is = compact_text-no_control (entry_data n e) (entry-writable n e small is)

-- a text without a control byte and a line feed behind it are a line
lines_in-line : (line rest : List ℕ) → HasNoControl line → lines_in (line ++ 10 ∷ rest) ≡ line ∷ lines_in rest
lines_in-line line rest plain =
    ap without_empty_end (slice_split_at (λ b. b == 10) line 10 rest (All-from_recursion (λ b. (b == 10) ≡ false) line
    (each-weaker (λ b. 32 ≤ b) (λ b. (b == 10) ≡ false)
    (λ b high. ne_eqb b 10 (λ (is : b ≡ 10). omega (arith, high, is))) line plain)) refl)
    ∙ without_empty_end-cons line (slice_split (λ b. b == 10) rest) (omega (arith, length-slice_split (λ b. b == 10) rest))

-- printed entries are parted from what stands behind them, and from one another
pub lines_in-from : (n : ℕ) (history : List Entry) (text : List ℕ) → AllByRecursion IsEntry history → n + length history ≤ 2 ^ 64
    → lines_in (lines_from n history ++ text) ≡ texts_from n history ++ lines_in text
lines_in-from n [] text each few = refl
lines_in-from n (e ∷ es) text each few =
    let line = text_of_entry n e in
    let rest = lines_from (n + 1) es in
    ap lines_in (append_assoc (line ++ 10 ∷ []) rest text ∙ append_assoc line (10 ∷ []) (rest ++ text))
    ∙ lines_in-line line (rest ++ text) (entry-no_control n e (omega (arith, few)) each.0)
    ∙ ap (λ lines. line ∷ lines) (lines_in-from (n + 1) es text each.1 (omega (arith, few)))

-- ---- which of them begin as lines of entries

pub take_while-passed : {X : Type 0} (p : X → Bool) (x : X) (xs : List X) → p x ≡ true → take_while p (x ∷ xs) ≡ x ∷ take_while p xs
take_while-passed p x xs passes = take_while-cons p x xs ∙ ap (λ b. cond b (x ∷ take_while p xs) []) passes

pub take_while-failed : {X : Type 0} (p : X → Bool) (x : X) (xs : List X) → p x ≡ false → take_while p (x ∷ xs) ≡ []
take_while-failed p x xs fails = take_while-cons p x xs ∙ ap (λ b. cond b (x ∷ take_while p xs) []) fails

-- the line of an entry does
pub entry-begins : (n : ℕ) (e : Entry) → begins_entry (text_of_entry n e) ≡ true
unfolding escape_byte
entry-begins n (Claim worker interval) = refl
entry-begins n (Inject seq part line item) = refl
entry-begins n (Handle seq row id effects) = refl
entry-begins n (Fire seq row timer mark effects) = refl
entry-begins n (Ack seq row id) = refl
entry-begins n (Purge seq row floor) = refl

-- so the lines of entries stand before those behind them that begin so
pub begin-from : (n : ℕ) (history : List Entry) (lines : List (List ℕ))
    → take_while begins_entry (texts_from n history ++ lines) ≡ texts_from n history ++ take_while begins_entry lines
begin-from n [] lines = refl
begin-from n (e ∷ es) lines =
    take_while-passed begins_entry (text_of_entry n e) (texts_from (n + 1) es ++ lines) (entry-begins n e)
    ∙ ap (λ ls. text_of_entry n e ∷ ls) (begin-from (n + 1) es lines)

-- ---- results

-- a text does not, whose third byte is another
not_begun : (c : ℕ) → ((rest : List ℕ) → begins_entry (123 ∷ 34 ∷ c ∷ rest) ≡ false) → (parts : List (List ℕ)) → 0 < length parts
    → take_while begins_entry (without_empty_end (onto_first 123 (onto_first 34 (onto_first c parts)))) ≡ []
not_begun c other [] some = absurd (omega (arith, some))
not_begun c other (part ∷ []) some = take_while-failed begins_entry (123 ∷ 34 ∷ c ∷ part) [] (other part)
not_begun c other (part ∷ (next ∷ parts)) some =
    take_while-failed begins_entry (123 ∷ 34 ∷ c ∷ part) (without_empty_end (next ∷ parts)) (other part)

-- nor does a text that begins with the line of a result
key-not_begun : (rest : List ℕ) → entry_lines_in (123 ∷ 34 ∷ 107 ∷ rest) ≡ []
key-not_begun rest = not_begun 107 (λ text. refl) (slice_split (λ b. b == 10) rest)
    (omega (arith, length-slice_split (λ b. b == 10) rest))

fired-not_begun : (rest : List ℕ) → entry_lines_in (123 ∷ 34 ∷ 102 ∷ rest) ≡ []
fired-not_begun rest = not_begun 102 (λ text. refl) (slice_split (λ b. b == 10) rest)
    (omega (arith, length-slice_split (λ b. b == 10) rest))

spelled-not_begun : (history : List Entry) (lines : List ResultLine)
    → entry_lines_in (flat_map (λ line. as_line (line_data line)) lines ++ as_line (summary_data history)) ≡ []
unfolding escape_byte
spelled-not_begun history [] = fired-not_begun (drop 3 (as_line (summary_data history)))
spelled-not_begun history (line ∷ lines) =
    key-not_begun (drop 3 (flat_map (λ l. as_line (line_data l)) (line ∷ lines) ++ as_line (summary_data history)))

-- no line of a result begins as the line of an entry
pub result-not_begun : (shape : Shape) (history : List Entry) (text : List ℕ) → IsResultText shape history text → entry_lines_in text ≡ []
result-not_begun shape history text is = ap entry_lines_in is.spelled ∙ spelled-not_begun history is.lines

-- so of a printed history with a result behind it the lines of entries are those of its own
pub entry_lines_in-printed : (shape : Shape) (history : List Entry) (text : List ℕ) → AllByRecursion IsEntry history
    → length history ≤ 2 ^ 64 → IsResultText shape history text → entry_lines_in (lines_from 0 history ++ text) ≡ texts_from 0 history
entry_lines_in-printed shape history text each few is =
    ap (take_while begins_entry) (lines_in-from 0 history text each (omega (arith, few)))
    ∙ begin-from 0 history (lines_in text)
    ∙ ap (λ lines. texts_from 0 history ++ lines) (result-not_begun shape history text is)
    ∙ append-nil (texts_from 0 history)
