-- The first line of a text, and the lines after it.
use Rattle.std.proofs.Common.{◌≡◌, ℕ, ◌+◌, ◌<◌, List, [], ◌∷◌, length, take, drop, refl, ap, ◌∙◌, arith, false}
use Rattle.std.specs.List.{slice_split}
use Rattle.std.proofs.lemmas.Bool.{false_from_ne_true}
use Rattle.std.proofs.lemmas.List.Elements.{All-from_get_or}
use Rattle.std.proofs.lemmas.List.Sums.{position_or_len_is}
use Rattle.std.proofs.lemmas.List.Splits.{slice_split_first, slice_split_none, length-slice_split}
use Rattle.memchr.specs.Find.{Nowhere, NoneBefore, Passes, is_byte}
use Rattle.text_lines.specs.Lines.{last_line, without_empty_end}
use Rattle.trace_lines.specs.Lines.{lines_in}

-- a part before others stays
pub without_empty_end-cons : (part : List ℕ) (parts : List (List ℕ)) → 0 < length parts
    → without_empty_end (part ∷ parts) ≡ part ∷ without_empty_end parts
without_empty_end-cons part [] some = absurd (omega (arith, some))
without_empty_end-cons part (next ∷ parts) some = refl

-- what is not empty is a line
last_line-some : (part : List ℕ) → 0 < length part → last_line part ≡ part ∷ []
last_line-some [] some = absurd (omega (arith, some))
last_line-some (b ∷ bs) some = refl

-- a text with a line feed begins with the line before it
pub lines_in-first : (rest : List ℕ) (at : ℕ) → NoneBefore (Passes (is_byte 10) rest) 0 (length rest) at → Passes (is_byte 10) rest at
    → lines_in rest ≡ take at rest ∷ lines_in (drop (at + 1) rest)
lines_in-first rest at none feed =
    let place = position_or_len_is (is_byte 10) rest at 0 (omega (arith, none.high))
    (λ k below. false_from_ne_true _ (none.before k (omega arith) below)) (λ _. feed) in
    let split : slice_split (is_byte 10) rest ≡ take at rest ∷ slice_split (is_byte 10) (drop (at + 1) rest) =
    rw place at (slice_split_first (is_byte 10) rest 0 (rw place none.high)) in
    ap without_empty_end split
    ∙ without_empty_end-cons (take at rest) (slice_split (is_byte 10) (drop (at + 1) rest))
    (omega (arith, length-slice_split (is_byte 10) (drop (at + 1) rest)))

-- a text with no line feed is one line
pub lines_in-last : (rest : List ℕ) → 0 < length rest → Nowhere (Passes (is_byte 10) rest) 0 (length rest) → lines_in rest ≡ rest ∷ []
lines_in-last rest some none =
    ap without_empty_end (slice_split_none (is_byte 10) rest
    (All-from_get_or (λ b. is_byte 10 b ≡ false) rest 0 (λ k below. false_from_ne_true _ (none k (omega arith) below))))
    ∙ last_line-some rest some
