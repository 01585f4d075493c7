-- The text of a value that can be written has no control byte.
use Rattle.std.proofs.Common.{◌≡◌, ℕ, zero, suc, pos, negsuc, ◌<◌, ◌≤◌, ◌^◌, ◌&&◌, nat_le, Bool, true, false, List, [], ◌∷◌, ◌++◌, length, get_or, decimal, inl, inr, refl, sym, subst, arith}
use Rattle.std.proofs.lemmas.Bool.{and_parts, cases_lt, cases_eq, leb-true}
use Rattle.std.proofs.lemmas.Fmt.{decimal_is_IsNumeral}
use Rattle.std.proofs.lemmas.Str.Parse.{digit_at}
use Rattle.json.specs.Print.{escape_byte, escape, quoted}
use Rattle.json.proofs.Printed.Strings.{escape_byte_plain}
use Rattle.serde_json.specs.Data.{Num, unsigned, negative, float, Data, null, boolean, number, string, array, object}
use Rattle.serde_json.specs.Data.{Items, no_items, item, Members, no_members, member}
use Rattle.serde_json.specs.Written.{number_text, comma_if, compact_text, items_text, members_text}
use Rattle.read_back.specs.Writable.{IsWhole, IsWritable, AreWritable, HaveWritable, HasNoControl}

append-no_control : (xs ys : List ℕ) → HasNoControl xs → HasNoControl ys → HasNoControl (xs ++ ys)
append-no_control [] ys front back = back
append-no_control (x ∷ xs) ys front back = (front.0, append-no_control xs ys front.1 back)

-- ---- texts whose bytes can be computed

-- a test of a text
abbrev tests : List ℕ → Bool
tests [] = true
tests (x ∷ xs) = nat_le 32 x && tests xs

tested : (xs : List ℕ) → tests xs ≡ true → HasNoControl xs
tested [] passes = tt
tested (x ∷ xs) passes = let both = and_parts _ _ passes in (leb-true 32 x both.0, tested xs both.1)

-- a test of the escapes of all bytes below one
abbrev tests_escapes : ℕ → Bool
tests_escapes zero = true
tests_escapes (suc n) = tests (escape_byte n) && tests_escapes n

escape_below : (n : ℕ) → tests_escapes n ≡ true → (byte : ℕ) → byte < n → tests (escape_byte byte) ≡ true
escape_below zero passes byte below = absurd (omega (arith, below))
escape_below (suc n) passes byte below =
    let both = and_parts _ _ passes in
    elim (cases_eq byte n) [
      | inl same ↦ subst (λ b. tests (escape_byte b) ≡ true) (sym same) both.0
      | inr other ↦ escape_below n both.1 byte (omega (arith, below, other))
    ]

ascii_escapes : tests_escapes 128 ≡ true
unfolding escape_byte
ascii_escapes = refl

-- ---- strings

escape_byte-no_control : (byte : ℕ) → HasNoControl (escape_byte byte)
escape_byte-no_control byte = elim (cases_lt byte 128) [
  | inl below ↦ tested (escape_byte byte) (escape_below 128 ascii_escapes byte below)
  | inr above ↦
      let high : 32 ≤ byte = omega (arith, above) in
      let itself = escape_byte_plain byte (λ e. omega (arith, above, e)) (λ e. omega (arith, above, e)) high in
      subst HasNoControl (sym itself) (high, tt)
]

escape-no_control : (text : List ℕ) → HasNoControl (escape text)
escape-no_control [] = tt
escape-no_control (byte ∷ text) =
    append-no_control (escape_byte byte) (escape text) (escape_byte-no_control byte) (escape-no_control text)

quoted-no_control : (text : List ℕ) → HasNoControl (quoted text)
quoted-no_control text =
    (omega arith, append-no_control (escape text) (34 ∷ []) (escape-no_control text) (omega arith, tt))

-- ---- numbers

at_each : (xs : List ℕ) → ((i : ℕ) → i < length xs → 32 ≤ get_or xs i 0) → HasNoControl xs
at_each [] each = tt
at_each (x ∷ xs) each = (each 0 (omega arith), at_each xs (λ i within. each (suc i) (omega (arith, within))))

decimal-no_control : (n : ℕ) → n < 2 ^ 64 → HasNoControl (decimal n)
decimal-no_control n fits = at_each (decimal n)
    (λ i within. let digit = digit_at _ i (decimal_is_IsNumeral n fits).0.1 within in omega (arith, digit.0))

number-no_control : (n : Num) → IsWhole n → HasNoControl (number_text n)
number-no_control (unsigned n) whole = decimal-no_control n whole
number-no_control (negative (pos n)) whole = absurd whole
number-no_control (negative (negsuc n)) whole = (omega arith, decimal-no_control (suc n) (omega (arith, whole)))
number-no_control (float x) whole = absurd whole

-- ---- values

comma-no_control : (later : Bool) (text : List ℕ) → HasNoControl text → HasNoControl (comma_if later ++ text)
comma-no_control true text rest = (omega arith, rest)
comma-no_control false text rest = rest

boolean-no_control : (b : Bool) → HasNoControl (compact_text (boolean b))
boolean-no_control true = tested (compact_text (boolean true)) refl
boolean-no_control false = tested (compact_text (boolean false)) refl

mutual
  pub compact_text-no_control : (d : Data) → IsWritable d → HasNoControl (compact_text d)
  compact_text-no_control null can = tested (compact_text null) refl
  compact_text-no_control (boolean b) can = boolean-no_control b
  compact_text-no_control (number n) can = number-no_control n can
  compact_text-no_control (string text) can = quoted-no_control text
  compact_text-no_control (array items) can = (omega arith, items_text-no_control false items can)
  compact_text-no_control (object members) can = (omega arith, members_text-no_control false members can.1)

  items_text-no_control : (later : Bool) (items : Items) → AreWritable items → HasNoControl (items_text later items)
  items_text-no_control later no_items can = (omega arith, tt)
  items_text-no_control later (item d items) can = comma-no_control later _
      (append-no_control (compact_text d) (items_text true items) (compact_text-no_control d can.0)
      (items_text-no_control true items can.1))

  members_text-no_control : (later : Bool) (members : Members) → HaveWritable members
      → HasNoControl (members_text later members)
  members_text-no_control later no_members can = (omega arith, tt)
  members_text-no_control later (member name d members) can = comma-no_control later _
      (append-no_control (quoted name) (58 ∷ (compact_text d ++ members_text true members)) (quoted-no_control name) (
        omega arith,
        append-no_control (compact_text d) (members_text true members) (compact_text-no_control d can.1)
            (members_text-no_control true members can.2),
      ))
