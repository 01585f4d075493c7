-- How far a text has been read, line by line, and the first line of which no entry is read.
use Rattle.std.proofs.Common.{◌≡◌, ℕ, ◌+◌, ◌<◌, ◌^◌, List, [], ◌∷◌, ◌++◌, length, inl, inr, refl, sym, ap, subst, ◌∙◌, arith, append_assoc, length-append}
use Rattle.std.specs.Prelude.{◌⊎◌, None}
use Rattle.std.specs.List.{take_while}
use Rattle.mw_types.specs.declared.entry.Entry.{Entry}
use Rattle.run_history.specs.Cases.{CaseShape}
use Rattle.run_history.specs.HistoryLines.{lines_of_history}
use Rattle.history_laws.specs.Writes.{IsLegalAndFenced}
use Rattle.history_laws.proofs.SeenLaws.{IsLegalAndFenced-front}
use Rattle.trace_lines.specs.Lines.{IsCut, begins_entry, lines_in, text_of_entry}
use Rattle.trace_lines.specs.Readings.{texts_from, IsReading, IsFirstUnread}
use Rattle.trace_lines.proofs.OneReading.{comes-next, reading-long, reading-one}
use Rattle.trace_lines.proofs.Parting.{begin-from, take_while-passed}
use Rattle.audit.specs.Choices.{MayCome}
use Rattle.audit.specs.Steps.{IsReal, IsHeadOf, IsNextRead, IsOneMore, IsReadTo}
use Rattle.audit.proofs.Printing.{texts_from-append, lines-push, texts-many, lines-long}

-- ---- how far

-- what has been read is not too long
pub read-few : (bytes rest : List ℕ) (history : List Entry) → IsReadTo bytes rest history → length bytes < 2 ^ 32
    → length history + 1 < 2 ^ 32
read-few bytes rest history is few = by is.text
  where
    by : (bytes ≡ lines_of_history history ++ rest) ⊎ ((bytes ++ 10 ∷ [] ≡ lines_of_history history) × (rest ≡ []))
        → length history + 1 < 2 ^ 32
    by (inl whole) =
        omega (arith, lines-long 0 history, ap length whole, length-append (lines_of_history history) rest, few)
    by (inr ended) = omega (arith, lines-long 0 history, ap length ended.0, length-append bytes (10 ∷ []), few)

-- a line between others
regroup : (front line after : List ℕ) → front ++ (line ++ 10 ∷ after) ≡ (front ++ (line ++ 10 ∷ [])) ++ after
regroup front line after =
    sym (append_assoc front (line ++ 10 ∷ []) after ∙ ap (λ l. front ++ l) (append_assoc line (10 ∷ []) after))

-- one more line has been read
pub read-more : (bytes rest line after : List ℕ) (history longer : List Entry) → IsReadTo bytes rest history
    → IsHeadOf rest line after → IsOneMore history line longer → IsReadTo bytes after longer
read-more bytes rest line after history longer is head one =
    subst (IsReadTo bytes after) (sym one.pushed) (record { lines = lines; text = by is.text head.cut })
  where
    text : List ℕ
    text = text_of_entry (length history) one.entry

    lines : lines_in bytes ≡ texts_from 0 (history ++ one.entry ∷ []) ++ lines_in after
    lines = is.lines
        ∙ ap (λ l. texts_from 0 history ++ l) (head.lines ∙ ap (λ l. l ∷ lines_in after) (sym one.printed))
        ∙ sym (ap (λ l. l ++ lines_in after) (texts_from-append history (one.entry ∷ []))
        ∙ append_assoc (texts_from 0 history) (text ∷ []) (lines_in after))

    by : (bytes ≡ lines_of_history history ++ rest) ⊎ ((bytes ++ 10 ∷ [] ≡ lines_of_history history) × (rest ≡ []))
        → IsCut rest line after
        → (bytes ≡ lines_of_history (history ++ one.entry ∷ []) ++ after)
        ⊎ ((bytes ++ 10 ∷ [] ≡ lines_of_history (history ++ one.entry ∷ [])) × (after ≡ []))
    by (inl whole) (inl cut) = inl (whole
        ∙ ap (λ r. lines_of_history history ++ r) (cut ∙ ap (λ l. l ++ 10 ∷ after) (sym one.printed))
        ∙ regroup (lines_of_history history) text after
        ∙ ap (λ l. l ++ after) (sym (lines-push history one.entry)))
    by (inl whole) (inr last) = inr (
      ap (λ b. b ++ 10 ∷ []) (whole ∙ ap (λ r. lines_of_history history ++ r) (last.0 ∙ sym one.printed))
          ∙ append_assoc (lines_of_history history) text (10 ∷ [])
          ∙ sym (lines-push history one.entry),
      last.1,
    )
    by (inr ended) cut = absurd (omega (arith, head.some, ap length ended.1))

-- ---- the first line of which no entry is read

-- the last entry of some
record HasLast (xs : List Entry) : Type 0 where
  front : List Entry
  last : Entry
  is : xs ≡ front ++ last ∷ []

has-last : (x : Entry) (xs : List Entry) → HasLast (x ∷ xs)
has-last x [] = record { front = []; last = x; is = refl }
has-last x (y ∷ ys) =
    let rest = has-last y ys in record { front = x ∷ rest.front; last = rest.last; is = ap (λ l. x ∷ l) rest.is }

some-last : (xs : List Entry) → 0 < length xs → HasLast xs
some-last [] some = absurd (omega (arith, some))
some-last (x ∷ xs) some = has-last x xs

-- lists that are the same have the same last element behind the same
ended-same : {X : Type 0} (xs ys : List X) (x y : X) → xs ++ x ∷ [] ≡ ys ++ y ∷ [] → (xs ≡ ys) × (x ≡ y)
ended-same [] [] x y e = (refl, cc)
ended-same [] (b ∷ bs) x y e = absurd (omega (arith, ap length e, length-append bs (y ∷ [])))
ended-same (a ∷ more) [] x y e = absurd (omega (arith, ap length e, length-append more (x ∷ [])))
ended-same (a ∷ more) (b ∷ bs) x y e =
    let head : a ≡ b = cc in
    let tail : more ++ x ∷ [] ≡ bs ++ y ∷ [] = cc in
    let rest = ended-same more bs x y tail in
    (λ i. head i ∷ rest.0 i, rest.1)

-- where no entry is read of a line, its line and those before it have no reading
never-read : (case : CaseShape) (history : List Entry) (line : List ℕ) → IsReal case → IsLegalAndFenced case history
    → length history + 1 < 2 ^ 32 → IsNextRead case history line None → (other : List Entry)
    → IsReading case other (texts_from 0 history ++ line ∷ []) → ⊥
never-read case history line real lawful few none other is =
    let many = texts-many history in
    let long : length other ≡ length history + 1 =
    reading-long case (texts_from 0 history ++ line ∷ []) other is ∙ length-append (texts_from 0 history) (line ∷ [])
    ∙ ap (λ n. n + 1) many in
    let last = some-last other (omega (arith, long)) in
    let whole : IsLegalAndFenced case (last.front ++ last.last ∷ []) = subst (IsLegalAndFenced case) last.is is.lawful in
    let lines = ended-same (texts_from 0 last.front) (texts_from 0 history) (text_of_entry (length last.front) last.last) line
    (sym (ap (texts_from 0) last.is ∙ texts_from-append last.front (last.last ∷ [])) ∙ is.printed) in
    let same : last.front ≡ history = reading-one case (texts_from 0 history) last.front history real.runnable real.keyed real.valued
    (omega (arith, many, few)) (record { lawful = IsLegalAndFenced-front case last.front (last.last ∷ []) whole; printed = lines.0 })
    (record { lawful = lawful; printed = refl }) in
    let next = comes-next case last.front last.last [] real.runnable real.keyed real.valued whole
    (omega (arith, ap length last.is, long, few)) in
    none last.last (subst (λ (h : List Entry). MayCome case h last.last) same (record { may = next.may; under = next.under }))
    (ap (λ (h : List Entry). text_of_entry (length h) last.last) (sym same) ∙ lines.1)

-- so it is the first one
pub first-unread : (case : CaseShape) (bytes rest line behind : List ℕ) (history : List Entry) → IsReal case → length bytes < 2 ^ 32
    → IsLegalAndFenced case history → IsReadTo bytes rest history → IsHeadOf rest line behind → IsNextRead case history line None
    → IsFirstUnread case bytes (length history + 1) line
first-unread case bytes rest line behind history real few lawful is head none = record {
  before = texts_from 0 history;
  after = take_while begins_entry (lines_in behind);
  stands = ap (take_while begins_entry) is.lines ∙ begin-from 0 history (lines_in rest)
      ∙ ap (λ l. texts_from 0 history ++ l)
      (ap (take_while begins_entry) head.lines ∙ take_while-passed begins_entry line (lines_in behind) head.begins);
  numbered = ap (λ n. n + 1) (sym (texts-many history));
  read_before = (history, record { lawful = lawful; printed = refl });
  unread = λ read. never-read case history line real lawful (read-few bytes rest history is few) none read.0 read.1;
}
