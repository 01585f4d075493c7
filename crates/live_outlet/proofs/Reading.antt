-- Each live line is guessed as what it tells.
use Rattle.std.proofs.Common.{◌≡◌, ℕ, ℤ, pos, negsuc, ◌+◌, ◌<◌, ◌≤◌, ◌^◌, ◌&&◌, nat_lt, nat_le, List, [], ◌∷◌, length, map, Bool, true, false, cond, Option, Some, None, option_map, option_and_then, codes, IsUtf8, SFits, w64, inl, refl, sym, ap, ◌∙◌, subst, arith, length-append}
use Rattle.std.proofs.lemmas.List.{length-map}
use Rattle.std.specs.Prelude.{IsTrue}
use Rattle.std.specs.List.{list_all}
use Rattle.std.specs.Int.{to_be_bytes, w128}
use Rattle.std.specs.Char.{is_ascii_lowercase}
use Rattle.std.proofs.lemmas.Bool.{and_parts, lt-ltb}
use Rattle.std.proofs.lemmas.Bool.Decides.{nat_tests}
use Rattle.std.proofs.lemmas.Grind.{common_steps}
use Rattle.std.proofs.lemmas.Option.{unwrap_or-slice_get}
use Rattle.std.proofs.lemmas.Str.{is_utf8-from_IsUtf8, IsUtf8-from_ascii}
use Rattle.std.proofs.lemmas.List.Sums.{AllPass-from_list_all}
use Rattle.json.proofs.Printed.Utf8.{IsUtf8-are_ascii, are_ascii}
use Rattle.uuid.specs.Text.{lower}
use Rattle.uuid.proofs.TextLemmas.{hyphenated_ascii}
use Rattle.mw_types.specs.PrintedIds.{id_number, printed_id}
use Rattle.mw_types.specs.declared.identity.RecordId.{RecordId}
use Rattle.topology.specs.Shapes.{Shape, InjectorShape, ComputationShape, parts_of, streams_of, stream_of}
use Rattle.topology.specs.Rules.{is_name_byte, is_name}
use Rattle.serde_json.specs.Data.{depth}
use Rattle.serde_json.specs.Find.{as_i64, of_integer}
use Rattle.serde_json.specs.Read.{read, max_depth}
use Rattle.read_back.specs.Writable.{IsWhole, IsWritable}
use Rattle.read_back.proofs.Utf8.{compact_text-utf8}
use Rattle.read_back.proofs.Reading.{read-compact_text}
use Rattle.json_reading.specs.Texts.{json_of}
use Rattle.live_outlet.specs.LiveLines.{LiveLine, live_data, live_text, IsLive}
use Rattle.live_outlet.specs.Guesses.{key_of, name_of, line_in, line_guessed}
use Rattle.live_outlet.proofs.IdLaws.{print-own}

-- ---- names

-- the stream of a part that is there is a name, where all streams are
pub stream-name : (shape : Shape) (part : ℕ) → IsTrue (list_all is_name (streams_of shape)) → part < parts_of shape
    → IsTrue (is_name (stream_of shape part))
stream-name shape part names there =
    let long : length (streams_of shape) ≡ parts_of shape = long_as shape in
    ap is_name (unwrap_or-slice_get (streams_of shape) part [])
    ∙ AllPass-from_list_all is_name (streams_of shape) names part [] (subst (λ n. part < n) (sym long) there)
  where
    long_as : (shape : Shape) → length (streams_of shape) ≡ parts_of shape
    long_as shape = length-append (map (λ (i : InjectorShape). i.stream) shape.injectors) (map (λ (c : ComputationShape). c.stream) shape.computations)
        ∙ ap (λ n. n + length (map (λ (c : ComputationShape). c.stream) shape.computations)) (length-map shape.injectors (λ (i : InjectorShape). i.stream))
        ∙ ap (λ n. length shape.injectors + n) (length-map shape.computations (λ (c : ComputationShape). c.stream))

-- a byte of a name is below 128
name_byte-ascii : (b : ℕ) → is_name_byte b ≡ true → nat_lt b 128 ≡ true
name_byte-ascii b is = grind (arith, nat_tests, common_steps)

name_bytes-ascii : (bs : List ℕ) → list_all is_name_byte bs ≡ true → are_ascii bs ≡ true
name_bytes-ascii [] each = refl
name_bytes-ascii (b ∷ bs) each =
    let both = and_parts _ _ each in
    ap (λ t. t && are_ascii bs) (name_byte-ascii b both.0) ∙ name_bytes-ascii bs both.1

letter-ascii : (b : ℕ) → is_ascii_lowercase b ≡ true → nat_lt b 128 ≡ true
letter-ascii b is = grind (arith, nat_tests, common_steps)

name-utf8 : (name : List ℕ) → IsTrue (is_name name) → IsUtf8 name
name-utf8 [] is = absurd (cc)
name-utf8 (b ∷ bs) is =
    let all = and_parts (is_ascii_lowercase b && list_all is_name_byte bs) (nat_le (length bs) 63) is in
    let bytes = and_parts (is_ascii_lowercase b) (list_all is_name_byte bs) all.0 in
    IsUtf8-are_ascii (b ∷ bs)
    (ap (λ t. t && are_ascii bs) (letter-ascii b bytes.0) ∙ name_bytes-ascii bs bytes.1)

-- ---- values

-- a number of 64 bits is a whole number
pub value-whole : (v : ℤ) → SFits w64 v → IsWhole (of_integer v)
value-whole (pos n) fits = grind arith
value-whole (negsuc n) fits = grind arith

-- and is read as itself
pub value-own : (v : ℤ) → SFits w64 v → as_i64 (of_integer v) ≡ Some v
value-own (pos n) fits = rw (lt-ltb n (2 ^ 63) (grind arith)) refl
value-own (negsuc n) fits = refl

-- ---- live lines

-- a live line can be written
pub live-writable : (line : LiveLine) → IsLive line → IsWritable (live_data line)
live-writable line is = (
  (refl, (refl, (refl, (refl, (refl, tt))))),
  (
    IsUtf8-are_ascii (codes "id") refl,
    IsUtf8-from_ascii (printed_id line.id) (hyphenated_ascii lower (to_be_bytes w128 (id_number line.id)) (inl refl)),
    (
      IsUtf8-are_ascii (codes "key") refl,
      is.key.text,
      (
        IsUtf8-are_ascii (codes "stream") refl,
        name-utf8 line.stream is.stream,
        (
          IsUtf8-are_ascii (codes "ts") refl,
          is.stamp,
          (IsUtf8-are_ascii (codes "value") refl, value-whole line.value is.value, tt),
        ),
      ),
    ),
  ),
)

-- and nests but once
live-shallow : (line : LiveLine) → depth (live_data line) ≤ max_depth
live-shallow line = omega arith

-- a live line's object gives what it tells
live-own : (line : LiveLine) → IsLive line → line_in (live_data line) ≡ Some line
live-own line is =
    ap (option_and_then (λ id. from_key id (key_of line.key))) (print-own line.id is.id)
    ∙ ap (from_key line.id) (short_key (length line.key) is.key.short)
    ∙ ap (from_stream line.id line.key) (named is.stream)
    ∙ ap (from_value line.id line.key line.stream line.stamp) (value-own line.value is.value)
  where
    from_value : RecordId → List ℕ → List ℕ → ℕ → Option ℤ → Option LiveLine
    from_value id key stream stamp v =
        option_map (λ value. record { id = id; key = key; stream = stream; stamp = stamp; value = value }) v

    from_stream : RecordId → List ℕ → Option (List ℕ) → Option LiveLine
    from_stream id key s = option_and_then
        (λ stream. from_value id key stream line.stamp (as_i64 (of_integer line.value))) s

    from_key : RecordId → Option (List ℕ) → Option LiveLine
    from_key id k = option_and_then (λ key. from_stream id key (name_of line.stream)) k

    short_key : (n : ℕ) → n ≤ 256 → cond (nat_lt 256 n) None (Some line.key) ≡ Some line.key
    short_key n at_most = let none : nat_lt 256 n ≡ false = grind (arith, nat_tests) in rw none refl

    named : IsTrue (is_name line.stream) → name_of line.stream ≡ Some line.stream
    named is = ap (λ (b : Bool). cond b (Some line.stream) None) is

-- a live line's text is JSON, whose value is its object
live-json : (line : LiveLine) → IsLive line → json_of (live_text line) ≡ Some (live_data line)
live-json line is =
    let can = live-writable line is in
    ap (λ (b : Bool). cond b (read (live_text line)) None)
    (is_utf8-from_IsUtf8 (live_text line) (compact_text-utf8 (live_data line) can))
    ∙ read-compact_text (live_data line) can (live-shallow line)

-- so a live line's text is guessed as what it tells
pub line_guessed-own : (line : LiveLine) → IsLive line → line_guessed (live_text line) ≡ Some line
line_guessed-own line is = ap (option_and_then line_in) (live-json line is) ∙ live-own line is
