-- Of which emission a line may tell, by its JSON. No public clause cites this module. Own.
use Rattle.std.specs.Prelude.{ℕ, ◌+◌, ◌-◌, ◌/◌, ◌%◌, ◌^◌, ◌||◌, nat_lt, nat_le, if◌then◌else◌, ℤ, List, length, codes, Option, Some, None, option_map, option_and_then}
use Rattle.std.specs.Int.{from_be_bytes, w128}
use Rattle.uuid.specs.Text.{parsed}
use Rattle.mw_types.specs.declared.identity.RecordId.{RecordId}
use Rattle.topology.specs.Rules.{is_name}
use Rattle.serde_json.specs.Data.{Data}
use Rattle.serde_json.specs.Find.{get, as_number, as_u64, as_i64, as_str}
use Rattle.json_reading.specs.Texts.{json_of}
use Rattle.live_outlet.specs.LiveLines.{LiveLine}

-- the id of a UUID with these halves
abbrev pub id_of_halves : ℕ → ℕ → Option RecordId
id_of_halves high low =
    if nat_lt high 32768 || (nat_le 33280 high || (nat_lt low (2 ^ 63) || nat_le (2 ^ 63 + 2 ^ 32) low)) then None
    else Some (record { commit = low - 2 ^ 63; index = high - 32768 })

-- the id of the bytes of a UUID
abbrev pub id_of : List ℕ → Option RecordId
id_of bytes = id_of_halves (from_be_bytes w128 bytes / 2 ^ 64) (from_be_bytes w128 bytes % 2 ^ 64)

-- the id of which a text may be the print
abbrev pub id_in : List ℕ → Option RecordId
id_in text = option_and_then id_of (parsed text)

-- a text as a key
abbrev pub key_of : List ℕ → Option (List ℕ)
key_of text = if nat_lt 256 (length text) then None else Some text

-- a text as a stream's name
abbrev pub name_of : List ℕ → Option (List ℕ)
name_of text = if is_name text then Some text else None

-- a member that is a text
abbrev pub text_at : List ℕ → Data → Option (List ℕ)
text_at name d = option_and_then as_str (get name d)

-- a member that is an id
abbrev pub id_at : List ℕ → Data → Option RecordId
id_at name d = option_and_then id_in (text_at name d)

-- a member that is a key
abbrev pub key_at : List ℕ → Data → Option (List ℕ)
key_at name d = option_and_then key_of (text_at name d)

-- a member that is a stream's name
abbrev pub name_at : List ℕ → Data → Option (List ℕ)
name_at name d = option_and_then name_of (text_at name d)

-- a member that is an unsigned number of 64 bits
abbrev pub stamp_at : List ℕ → Data → Option ℕ
stamp_at name d = option_and_then as_u64 (option_and_then as_number (get name d))

-- a member that is a signed number of 64 bits
abbrev pub value_at : List ℕ → Data → Option ℤ
value_at name d = option_and_then as_i64 (option_and_then as_number (get name d))

-- the line that a value may be
abbrev pub line_in : Data → Option LiveLine
line_in d =
    option_and_then (λ id. option_and_then (λ key. option_and_then (λ stream. option_and_then (λ stamp. option_map
    (λ value. record { id = id; key = key; stream = stream; stamp = stamp; value = value })
    (value_at (codes "value") d)) (stamp_at (codes "ts") d)) (name_at (codes "stream") d))
    (key_at (codes "key") d)) (id_at (codes "id") d)

-- the line that bytes may be
abbrev pub line_guessed : List ℕ → Option LiveLine
line_guessed bytes = option_and_then line_in (json_of bytes)
