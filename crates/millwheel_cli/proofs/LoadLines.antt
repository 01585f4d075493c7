-- The lines of load are taken: each is a record or a watermark, and there is room for so many.
use Rattle.std.proofs.Common.{◌≡◌, ◌⊎◌, ◌∙◌, ◌<◌, ◌≤◌, ◌^◌, ◌+◌, ◌-◌, ◌*◌, ◌%◌, ◌==◌, ◌++◌, ℕ, zero, suc, ℤ, pos, Bool, true, false, ◌&&◌, nat_le, get_or, inl, inr, List, [], ◌∷◌, length, map, take, max, codes, decimal, Result, Ok, Err, refl, sym, ap, subst, arith, append_assoc}
use Rattle.std.specs.Prelude.{⊤, IsOk, if◌then◌else◌, slice_index, nat_lt}
use Rattle.std.specs.List.{slice_split, AllByRecursion}
use Rattle.std.proofs.lemmas.Bool.{ne_eqb, false_from_ne_true, ltb-true, and_parts, leb-true}
use Rattle.std.proofs.lemmas.Nat.{mod_below}
use Rattle.std.proofs.lemmas.Fmt.{decimal_is_IsNumeral}
use Rattle.std.proofs.lemmas.Str.Parse.{digit_at}
use Rattle.std.proofs.lemmas.Str.{IsUtf8-from_ascii}
use Rattle.std.proofs.lemmas.Str.Ascii.{IsAscii-nil, IsAscii-cons}
use Rattle.std.proofs.lemmas.List.Elements.{All-from_recursion}
use Rattle.std.proofs.lemmas.List.Splits.{slice_split_at}
use Rattle.list_lemmas.proofs.Lists.{each-append, each-weaker}
use Rattle.text_lines.specs.Lines.{without_empty_end, without_return, lines_of}
use Rattle.injector.specs.ShortForm.{short_line, IsUnescaped}
use Rattle.injector.specs.ShortForm as short
use Rattle.injector.specs.Sources.{Source, SourceLine}
use Rattle.injector.specs.EventLines.{line_reading}
use Rattle.injector.specs.EventFiles.{source_from, source_in, with_line, before, source_line, item_of}
use Rattle.injector.specs.declared.reading.LineKind.{LineKind}
use Rattle.injector.specs.declared.reading.LineKind.TheVariants.{Watermark, Record}
use Rattle.injector.specs.declared.refusal.LineWhy.{LineWhy}
use Rattle.injector.specs.declared.refusal.LinesRefusal.{LinesRefusal}
use Rattle.injector.specs.declared.refusal.LinesRefusal.TheVariants.{Line}
use Rattle.injector.specs.declared.refusal.LineWhy.TheVariants.{TooManyLines}
use Rattle.injector.proofs.ShortForms.{line_reading-short, mark_line-read}
use Rattle.millwheel_cli.specs.Loads.{load_text, record_line, drawn}

-- ---- bytes of lines

-- no byte is below a space, as those are that end lines
abbrev HasNoControl : List ℕ → Type 0
HasNoControl text = AllByRecursion (λ byte. 32 ≤ byte) text

-- a test of a text
abbrev tests : List ℕ → Bool
tests [] = true
tests (x ∷ xs) = nat_le 32 x && tests xs

tested : (xs : List ℕ) → tests xs ≡ true → HasNoControl xs
tested [] passes = tt
tested (x ∷ xs) passes = let both = and_parts _ _ passes in (leb-true 32 x both.0, tested xs both.1)

at_each : (xs : List ℕ) → ((i : ℕ) → i < length xs → 32 ≤ get_or xs i 0) → HasNoControl xs
at_each [] each = tt
at_each (x ∷ xs) each = (each 0 (omega arith), at_each xs (λ i within. each (suc i) (omega (arith, within))))

-- ---- a text of whole lines

-- lines, each with its end
abbrev text_of : List (List ℕ) → List ℕ
text_of [] = []
text_of (line ∷ lines) = line ++ 10 ∷ text_of lines

text_of-append : (xs ys : List (List ℕ)) → text_of (xs ++ ys) ≡ text_of xs ++ text_of ys
text_of-append [] ys = refl
text_of-append (x ∷ xs) ys =
    ap (λ rest. x ++ 10 ∷ rest) (text_of-append xs ys) ∙ sym (append_assoc x (10 ∷ text_of xs) (text_of ys))

-- its parts are the lines, and nothing behind the last end
text_of-parts : (lines : List (List ℕ)) → AllByRecursion HasNoControl lines
    → slice_split (λ b. b == 10) (text_of lines) ≡ lines ++ [] ∷ []
text_of-parts [] each = refl
text_of-parts (line ∷ lines) each =
    slice_split_at (λ b. b == 10) line 10 (text_of lines)
    (All-from_recursion (λ b. (b == 10) ≡ false) line
    (each-weaker (λ byte. 32 ≤ byte) (λ byte. (byte == 10) ≡ false)
    (λ byte high. ne_eqb byte 10 (λ same. omega (arith, high, same))) line each.0)) refl
    ∙ ap (λ parts. line ∷ parts) (text_of-parts lines each.1)

without_empty_end-last : (lines : List (List ℕ)) → without_empty_end (lines ++ [] ∷ []) ≡ lines
without_empty_end-last [] = refl
without_empty_end-last (line ∷ []) = refl
without_empty_end-last (line ∷ (next ∷ lines)) = ap (λ rest. line ∷ rest) (without_empty_end-last (next ∷ lines))

-- no byte of such a line is the carriage return
no_return : (line : List ℕ) (at : ℕ) → HasNoControl line → (slice_index line at == 13) ≡ false
no_return [] at high = refl
no_return (byte ∷ line) zero high = ne_eqb byte 13 (λ same. omega (arith, high.0, same))
no_return (byte ∷ line) (suc at) high = no_return line at high.1

without_return-same : (lines : List (List ℕ)) → AllByRecursion HasNoControl lines → map without_return lines ≡ lines
without_return-same [] each = refl
without_return-same (line ∷ lines) each =
    let itself : without_return line ≡ line =
    ap (λ b. if b then take (length line - 1) line else line) (no_return line (length line - 1) each.0) in
    λ i. itself i ∷ without_return-same lines each.1 i

lines_of-text_of : (lines : List (List ℕ)) → AllByRecursion HasNoControl lines → lines_of (text_of lines) ≡ lines
lines_of-text_of lines each =
    ap (λ parts. map without_return (without_empty_end parts)) (text_of-parts lines each)
    ∙ ap (map without_return) (without_empty_end-last lines)
    ∙ without_return-same lines each

-- ---- lines that are taken

-- each is a watermark, or a record for which there is room
abbrev AreTaken : ℕ → List (List ℕ) → Type 0
AreTaken room [] = ⊤
AreTaken room (line ∷ lines) =
    ((stamp : ℕ) × (line_reading line ≡ Ok (Watermark stamp)) × AreTaken room lines)
    ⊎ ((left : ℕ) × (room ≡ suc left) × (key : List ℕ) × (stamp : ℕ) × (value : ℤ)
    × (line_reading line ≡ Ok (Record key stamp value)) × AreTaken left lines)

more_room : (more room : ℕ) (lines : List (List ℕ)) → AreTaken room lines → AreTaken (more + room) lines
more_room more room [] taken = tt
more_room more room (line ∷ lines) (inl (stamp, reads, rest)) = inl (stamp, reads, more_room more room lines rest)
more_room more room (line ∷ lines) (inr (left, is, key, stamp, value, reads, rest)) =
    inr (more + left, omega (arith, is), key, stamp, value, reads, more_room more left lines rest)

taken-append : (room more : ℕ) (xs ys : List (List ℕ)) → AreTaken room xs → AreTaken more ys → AreTaken (room + more) (xs ++ ys)
taken-append room more [] ys taken others = more_room room more ys others
taken-append room more (x ∷ xs) ys (inl (stamp, reads, rest)) others =
    inl (stamp, reads, taken-append room more xs ys rest others)
taken-append room more (x ∷ xs) ys (inr (left, is, key, stamp, value, reads, rest)) others =
    inr (left + more, omega (arith, is), key, stamp, value, reads, taken-append left more xs ys rest others)

before-ok : (line : SourceLine) (rest : Result Source LinesRefusal) → IsOk rest → IsOk (before line rest)
before-ok line (Ok lines) is = refl
before-ok line (Err why) is = absurd cc

-- so they are read
source-ok : (n room mark : ℕ) (lines : List (List ℕ)) → AreTaken room lines → IsOk (source_from n room mark lines)
source-ok n room mark [] taken = refl
source-ok n room mark (line ∷ lines) (inl (stamp, reads, rest)) =
    subst (λ (said : Result LineKind LineWhy). IsOk (with_line n room mark said (λ left greatest. source_from (n + 1) left greatest lines)))
    (sym reads) (source-ok (n + 1) room (max mark stamp) lines rest)
source-ok n room mark (line ∷ lines) (inr (left, is, key, stamp, value, reads, rest)) =
    subst (λ (r : ℕ). IsOk (with_line n r mark (line_reading line) (λ left greatest. source_from (n + 1) left greatest lines))) (sym is)
    (subst (λ (said : Result LineKind LineWhy).
    IsOk (with_line n (suc left) mark said (λ left greatest. source_from (n + 1) left greatest lines))) (sym reads)
    (subst (λ (none : Bool). IsOk (if none then Err (Line n TooManyLines)
    else before (source_line (item_of mark key stamp value) mark) (source_from (n + 1) (suc left - 1) mark lines)))
    (sym (ne_eqb (suc left) 0 (λ same. omega (arith, same))))
    (subst (λ (r : ℕ). IsOk (before (source_line (item_of mark key stamp value) mark) (source_from (n + 1) r mark lines)))
    (omega arith)
    (before-ok (source_line (item_of mark key stamp value) mark) (source_from (n + 1) left mark lines)
    (source-ok (n + 1) left mark lines rest)))))

-- ---- the lines of load

-- the key of a record
abbrev letter : ℕ → List ℕ
letter number = (97 + number % 26) ∷ []

abbrev record_of : ℕ → ℕ → List ℕ
record_of line number = short_line (letter number) (decimal (10 * line + number % 100))

abbrev mark_of : ℕ → List ℕ
mark_of line = short.mark_line (decimal (10 * (line + 1) + 20))

-- what stands behind a record
abbrev marks_of : Bool → ℕ → List (List ℕ)
marks_of true line = mark_of line ∷ []
marks_of false line = []

abbrev load_lines : ℕ → ℕ → List (List ℕ)
load_lines seed zero = []
load_lines seed (suc n) = load_lines seed n ++ record_of n (drawn seed (suc n)) ∷ marks_of ((n + 1) % 50 == 0) n

record-text : (line number : ℕ) (rest : List ℕ) → record_line line number ++ rest ≡ record_of line number ++ 10 ∷ rest
record-text line number rest =
    let digits = decimal (10 * line + number % 100) in
    ap (λ tail. codes "{\"key\":\"" ++ ((97 + number % 26) ∷ (codes "\",\"ts\":" ++ tail)))
    (append_assoc digits (codes "}\n") rest ∙ sym (append_assoc digits (codes "}") (10 ∷ rest)))

marks-text : (b : Bool) (line : ℕ)
    → (if b then codes "{\"watermark\":" ++ (decimal (10 * (line + 1) + 20) ++ codes "}\n") else []) ≡ text_of (marks_of b line)
marks-text true line =
    ap (λ tail. codes "{\"watermark\":" ++ tail) (sym (append_assoc (decimal (10 * (line + 1) + 20)) (codes "}") (10 ∷ [])))
marks-text false line = refl

load-text : (seed n : ℕ) → load_text seed n ≡ text_of (load_lines seed n)
load-text seed zero = refl
load-text seed (suc n) =
    let drawn_next = drawn seed (suc n) in
    (λ i. load-text seed n i ++ (record_line n drawn_next ++ marks-text ((n + 1) % 50 == 0) n i))
    ∙ ap (λ rest. text_of (load_lines seed n) ++ rest) (record-text n drawn_next (text_of (marks_of ((n + 1) % 50 == 0) n)))
    ∙ sym (text_of-append (load_lines seed n) (record_of n drawn_next ∷ marks_of ((n + 1) % 50 == 0) n))

-- ---- none has a control byte

digits-no_control : (n : ℕ) → n < 2 ^ 64 → HasNoControl (decimal n)
digits-no_control n fits = at_each (decimal n)
    (λ i within. let digit = digit_at _ i (decimal_is_IsNumeral n fits).0.1 within in omega (arith, digit.0))

record-no_control : (line number : ℕ) → line < 2 ^ 18 → HasNoControl (record_of line number)
record-no_control line number few =
    let small = mod_below number 100 (omega arith) in
    let digits = decimal (10 * line + number % 100) in
    let tail = codes "\",\"ts\":" ++ (digits ++ codes "}") in
    let ended : HasNoControl (digits ++ codes "}") =
    each-append (λ byte. 32 ≤ byte) digits (codes "}")
    (digits-no_control (10 * line + number % 100) (omega (arith, few, small))) (tested (codes "}") refl) in
    let stamped : HasNoControl tail =
    each-append (λ byte. 32 ≤ byte) (codes "\",\"ts\":") (digits ++ codes "}") (tested (codes "\",\"ts\":") refl) ended in
    let keyed : HasNoControl (letter number ++ tail) = (omega arith, stamped) in
    each-append (λ byte. 32 ≤ byte) (codes "{\"key\":\"") (letter number ++ tail) (tested (codes "{\"key\":\"") refl) keyed

marks-no_control : (b : Bool) (line : ℕ) → line < 2 ^ 18 → AllByRecursion HasNoControl (marks_of b line)
marks-no_control true line few =
    let digits = decimal (10 * (line + 1) + 20) in
    let ended : HasNoControl (digits ++ codes "}") =
    each-append (λ byte. 32 ≤ byte) digits (codes "}")
    (digits-no_control (10 * (line + 1) + 20) (omega (arith, few))) (tested (codes "}") refl) in
    (each-append (λ byte. 32 ≤ byte) (codes "{\"watermark\":") (digits ++ codes "}") (tested (codes "{\"watermark\":") refl) ended, tt)
marks-no_control false line few = tt

load-no_control : (seed n : ℕ) → n ≤ 2 ^ 18 → AllByRecursion HasNoControl (load_lines seed n)
load-no_control seed zero few = tt
load-no_control seed (suc n) few =
    each-append HasNoControl (load_lines seed n) _ (load-no_control seed n (omega (arith, few)))
    (record-no_control n (drawn seed (suc n)) (omega (arith, few)), marks-no_control ((n + 1) % 50 == 0) n (omega (arith, few)))

-- ---- each is taken

-- a small letter stands for itself
letter-plain : (byte : ℕ) → 97 ≤ byte → byte < 123 → IsUnescaped (byte ∷ [])
letter-plain byte low high =
    let quote : (byte == 34) ≡ false = ne_eqb byte 34 (λ same. omega (arith, low, same)) in
    let slash : (byte == 92) ≡ false = ne_eqb byte 92 (λ same. omega (arith, low, same)) in
    let above : nat_lt byte 32 ≡ false = false_from_ne_true _ (λ is. let below = ltb-true byte 32 is in omega (arith, low, below)) in
    rw (quote, slash, above) refl

record-taken : (line number : ℕ) → line < 2 ^ 18
    → line_reading (record_of line number) ≡ Ok (Record (letter number) (10 * line + number % 100) (pos 1))
record-taken line number few =
    let small = mod_below number 100 (omega arith) in
    let within = mod_below number 26 (omega arith) in
    line_reading-short (record_of line number) (letter number) (10 * line + number % 100) refl
    (letter-plain (97 + number % 26) (omega arith) (omega (arith, within)))
    (IsUtf8-from_ascii (letter number) (IsAscii-cons (97 + number % 26) [] (omega (arith, within)) IsAscii-nil))
    (omega arith, omega arith)
    (omega (arith, few, small))

mark-taken : (line : ℕ) → line < 2 ^ 18 → line_reading (mark_of line) ≡ Ok (Watermark (10 * (line + 1) + 20))
mark-taken line few = mark_line-read (mark_of line) (10 * (line + 1) + 20) refl (omega (arith, few))

marks-taken : (b : Bool) (line : ℕ) → line < 2 ^ 18 → AreTaken 0 (marks_of b line)
marks-taken true line few = inl (10 * (line + 1) + 20, mark-taken line few, tt)
marks-taken false line few = tt

load-taken : (seed n : ℕ) → n ≤ 2 ^ 18 → AreTaken n (load_lines seed n)
load-taken seed zero few = tt
load-taken seed (suc n) few =
    let number = drawn seed (suc n) in
    subst (λ room. AreTaken room (load_lines seed (suc n))) (omega arith)
    (taken-append n 1 (load_lines seed n) (record_of n number ∷ marks_of ((n + 1) % 50 == 0) n)
    (load-taken seed n (omega (arith, few)))
    (inr (
      0,
      refl,
      letter number,
      10 * n + number % 100,
      pos 1,
      record-taken n number (omega (arith, few)),
      marks-taken ((n + 1) % 50 == 0) n (omega (arith, few)),
    )))

-- so the lines of load are a source
pub lines-taken : (seed lines : ℕ) → lines ≤ 2 ^ 18 → IsOk (source_in (2 ^ 18) (load_text seed lines))
lines-taken seed lines few =
    subst (λ (text : List ℕ). IsOk (source_in (2 ^ 18) text)) (sym (load-text seed lines))
    (subst (λ (all : List (List ℕ)). IsOk (source_from 1 (2 ^ 18) 0 all))
    (sym (lines_of-text_of (load_lines seed lines) (load-no_control seed lines few)))
    (source-ok 1 (2 ^ 18) 0 (load_lines seed lines)
    (subst (λ room. AreTaken room (load_lines seed lines)) (omega (arith, few))
    (more_room (2 ^ 18 - lines) lines (load_lines seed lines) (load-taken seed lines few)))))
