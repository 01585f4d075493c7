-- What the digits of a number make, one after another.
use Rattle.std.proofs.Common.{◌≡◌, ◌<◌, ◌≤◌, ◌+◌, ◌-◌, ◌*◌, ◌^◌, ℕ, Bool, true, List, ◌&&◌, drop, length, get_or, ap, ◌∙◌, arith}
use Rattle.std.proofs.lemmas.Grind.{common_steps}
use Rattle.std.specs.Prelude.{if◌then◌else◌, Option, Some, None}
use Rattle.std.specs.Int.{IsInRange}
use Rattle.std.specs.Char.{is_ascii_digit, digit_value}
use Rattle.std.specs.Str.{all_ascii_digits}
use Rattle.std.specs.Str.Parse.{digits_value_after}
use Rattle.std.proofs.Math.Pow.{pow_mono}
use Rattle.std.proofs.lemmas.Nat.{pow-add}
use Rattle.std.proofs.lemmas.List.{drop_more}
use Rattle.std.proofs.lemmas.Str.{digit_value_digit}

-- a number below a power of sixteen stays below the next with one more digit
pub one_more_digit : (n d i : ℕ) → n < 2 ^ (4 * i) → d < 10 → n * 10 + d < 2 ^ (4 * (i + 1))
one_more_digit n d i low digit =
    let same : 4 * (i + 1) ≡ 4 * i + 4 = omega arith in
    let more : 2 ^ (4 * (i + 1)) ≡ 2 ^ (4 * i) * 16 = ap (λ k. 2 ^ k) same ∙ pow-add 2 (4 * i) 4 in
    omega (arith, more, low, digit)

-- a number of at most nine digits is small
pub few_digits : (n i : ℕ) → n < 2 ^ (4 * i) → i < 10 → n < 2 ^ 36
few_digits n i low few =
    let most : 2 ^ (4 * i) ≤ 2 ^ 36 = pow_mono {i = 4 * i} {j = 36} (omega (arith, few)) in
    omega (arith, low, most)

-- what digits make of the number before them
abbrev pub made_of : ℕ → List ℕ → Option ℕ
made_of n ds = if all_ascii_digits ds then Some (digits_value_after 10 n ds) else None

-- what they make where a test was passed before them
abbrev pub made_behind : Bool → ℕ → List ℕ → Option ℕ
made_behind passed n ds = if passed && all_ascii_digits ds then Some (digits_value_after 10 n ds) else None

-- the codes of the ten digits
pub digit_range : (d : ℕ) → is_ascii_digit d ≡ true → IsInRange 48 57 d
digit_range d digit = grind (arith, common_steps)

-- the first of the digits that are left goes into the number before them
pub made_of-first :
    (n : ℕ) (word : List ℕ) (i : ℕ)
    → i < length word
    → is_ascii_digit (get_or word i 0) ≡ true
    → made_of n (drop i word) ≡ made_of (n * 10 + (get_or word i 0 - 48)) (drop (i + 1) word)
made_of-first n word i there digit =
    let d = get_or word i 0 in
    let rest = drop (i + 1) word in
    let range = digit_range d digit in
    let value : digit_value d ≡ d - 48 = omega (arith, digit_value_digit d range, range) in
    ap (made_of n) (drop_more word i 0 there)
    ∙ ap (λ passed. made_behind passed (n * 10 + digit_value d) rest) digit
    ∙ ap (λ v. made_of (n * 10 + v) rest) value
