-- Which number a word is. Own.
use Rattle.std.specs.Prelude.{ℕ, ◌&&◌, Bool, if◌then◌else◌, List, length, nat_lt, nat_le, Option, Some, None}
use Rattle.std.specs.Option.{option_and_then}
use Rattle.std.specs.Str.{all_ascii_digits}
use Rattle.std.specs.Str.Parse.{digits_value}

-- whether a word is a number: it has one to ten decimal digits, of which the first ones may be zeros
abbrev pub is_number : List ℕ → Bool
is_number word = nat_lt 0 (length word) && (nat_le (length word) 10 && all_ascii_digits word)

-- the number that a word is
abbrev pub number_of : List ℕ → Option ℕ
number_of word = if is_number word then Some (digits_value 10 word) else None

-- the number that a word is, where it is from the one on and below the other
abbrev pub between : ℕ → ℕ → List ℕ → Option ℕ
between low high word =
    option_and_then (λ n. if nat_le low n && nat_lt n high then Some n else None) (number_of word)

-- the number that a word is, where it is below this one
abbrev pub below : ℕ → List ℕ → Option ℕ
below high word = between 0 high word
