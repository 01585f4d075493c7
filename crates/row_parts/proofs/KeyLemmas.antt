-- Reading a key.
use Rattle.std.proofs.Common.{◌≡◌, ℕ, ◌≤◌, List, length, take, drop, Bool, true, false, Some, None, refl}
use Rattle.std.specs.Str.{IsUtf8, is_utf8}
use Rattle.std.specs.Int.{w16}
use Rattle.std.proofs.lemmas.Bool.{le-leb}
use Rattle.std.proofs.lemmas.Str.{IsUtf8-from_is_utf8, is_utf8-from_IsUtf8}
use Rattle.row_parts.specs.Reading.{number_at, key_at}

-- the bytes of a text are a key
pub key_read : (bytes rest : List ℕ) (n : ℕ) → number_at w16 bytes ≡ Some (n, rest) → n ≤ 256 → n ≤ length rest → IsUtf8 (take n rest)
    → key_at bytes ≡ Some (take n rest, drop n rest)
unfolding key_at
key_read bytes rest n read short inside text = rw (
  read,
  le-leb n 256 short,
  le-leb n (length rest) inside,
  is_utf8-from_IsUtf8
      (take n rest) text,
) refl

-- bytes that are no text are no key
pub key_damaged : (bytes rest : List ℕ) (n : ℕ) → number_at w16 bytes ≡ Some (n, rest) → n ≤ 256 → n ≤ length rest
    → ¬ (IsUtf8 (take n rest)) → key_at bytes ≡ None
unfolding key_at
key_damaged bytes rest n read short inside text = rw
    (read, le-leb n 256 short, le-leb n (length rest) inside, no_text (take n rest) text (is_utf8 (take n rest)) refl) refl
  where
    no_text : (l : List ℕ) → ¬ (IsUtf8 l) → (b : Bool) → is_utf8 l ≡ b → is_utf8 l ≡ false
    no_text l none true e = absurd (none (IsUtf8-from_is_utf8 l e))
    no_text l none false e = e
