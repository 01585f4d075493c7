-- How a line is cut into words, which single spaces part. Own.
-- Words are cut off one by one, so that the last one may be a text that has spaces itself.
use Rattle.std.specs.Prelude.{ℕ, ◌==◌, Bool, List, length, nat_eq, nat_lt, if◌then◌else◌, Option, Some, None}
use Rattle.std.specs.Cmp.Lexicographic.{pointwise}
use Rattle.std.specs.List.{before_first, after_first, position_or_len}
use Rattle.std.specs.Option.{option_map, option_and_then}

-- whether a word is this one
abbrev pub is_word : List ℕ → List ℕ → Bool
is_word = pointwise nat_eq

-- what stands before the first byte that passes a test, and what stands behind it, where there is such a byte
abbrev pub cut_at : (ℕ → Bool) → List ℕ → Option (List ℕ × List ℕ)
cut_at passes text = if nat_lt (position_or_len passes text) (length text)
    then Some (before_first passes text, after_first passes text) else None

-- whether a byte is a space
abbrev pub is_space : ℕ → Bool
is_space b = b == 32

-- the first word of a text and what follows the space behind it; a text without a space is one word
abbrev pub word_of : List ℕ → Option (List ℕ × List ℕ)
word_of text = cut_at is_space text

-- what both make together, where both are there
abbrev pub both : {X Y Z : Type 0} → (X → Y → Z) → Option X → Option Y → Option Z
both f x y = option_and_then (λ a. option_map (f a) y) x
