-- A text that is cut at its first byte of some kind.
use Rattle.std.proofs.Common.{◌≡◌, ℕ, ◌+◌, List, length, take, drop, Some, None, refl, arith}
use Rattle.std.proofs.lemmas.Bool.{false_from_ne_true, le-ltb, lt-ltb}
use Rattle.std.proofs.lemmas.List.Sums.{position_or_len_is}
use Rattle.memchr.specs.Find.{Nowhere, NoneBefore, Passes, is_byte}
use Rattle.text_lines.specs.Words.{cut_at}

-- a text with a byte of the kind is cut there
pub cut_at-first :
    (c : ℕ) (text : List ℕ) (at : ℕ)
    → NoneBefore (Passes (is_byte c) text) 0 (length text) at
    → Passes (is_byte c) text at
    → cut_at (is_byte c) text ≡ Some (take at text, drop (at + 1) text)
cut_at-first c text at none there =
    let place = position_or_len_is (is_byte c) text at 0 (omega (arith, none.high))
    (λ k below. false_from_ne_true _ (none.before k (omega arith) below)) (λ _. there) in
    rw (place, lt-ltb at (length text) none.high) refl

-- a text with none is not
pub cut_at-none :
    (c : ℕ) (text : List ℕ) → Nowhere (Passes (is_byte c) text) 0 (length text) → cut_at (is_byte c) text ≡ None
cut_at-none c text none =
    let place = position_or_len_is (is_byte c) text (length text) 0 (omega arith)
    (λ k below. false_from_ne_true _ (none k (omega arith) below)) (λ past. absurd (omega (arith, past))) in
    rw (place, le-ltb (length text) (length text) (omega arith)) refl
