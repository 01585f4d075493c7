-- What one line of an event file says: nothing, a watermark, or a record. Own.
-- A line that is not blank is one JSON object, as `serde_json` reads it.
-- Members that have no name here are ignored.
use Rattle.std.specs.Prelude.{ℕ, ◌==◌, ◌||◌, ◌&&◌, ℤ, pos, List, length, Bool, nat_lt, nat_le, if◌then◌else◌, codes, Option, Some, None, option_and_then, Result, Ok, Err}
use Rattle.std.specs.Option.{option_map_or, ok_or, is_some}
use Rattle.std.specs.List.{list_all}
use Rattle.serde_json.specs.Data.{Data}
use Rattle.serde_json.specs.Find.{get, as_object, as_number, as_str, as_u64, as_i64}
use Rattle.mw_types.specs.declared.TheConstants.{INPUT_MAX}
use Rattle.json_reading.specs.Texts.{json_of}
use Rattle.json_reading.specs.Refusals.{and_then}
use Rattle.injector.specs.declared.refusal.LineWhy.{LineWhy}
use Rattle.injector.specs.declared.refusal.LineWhy.TheVariants.{NotJson, NotObject, BadKey, BadStamp, BadValue}
use Rattle.injector.specs.declared.reading.LineKind.{LineKind}
use Rattle.injector.specs.declared.reading.LineKind.TheVariants.{Blank, Watermark, Record}

-- a line of spaces and tabs alone, or of nothing
abbrev pub is_blank : List ℕ → Bool
is_blank line = list_all (λ b. (b == 32) || (b == 9)) line

-- a text, where it has 1 to 256 bytes
abbrev pub key_within : List ℕ → Option (List ℕ)
key_within text = if nat_lt 0 (length text) && nat_le (length text) 256 then Some text else None

-- a whole number, where it is at most the greatest timestamp of an input
abbrev pub stamp_within : ℕ → Option ℕ
stamp_within n = if nat_le n INPUT_MAX then Some n else None

-- the timestamp that a value is
abbrev pub as_stamp : Data → Option ℕ
as_stamp value = option_and_then stamp_within (option_and_then as_u64 (as_number value))

-- the number of 64 bits that a value is
abbrev pub as_value : Data → Option ℤ
as_value value = option_and_then as_i64 (as_number value)

-- the key of a record line
abbrev pub key_in : Data → Result (List ℕ) LineWhy
key_in line =
    ok_or (option_and_then key_within (option_and_then as_str (get (codes "key") line))) BadKey

-- its timestamp
abbrev pub stamp_in : Data → Result ℕ LineWhy
stamp_in line = ok_or (option_and_then as_stamp (get (codes "ts") line)) BadStamp

-- its value, which is 1 where the line has none
abbrev pub value_in : Data → Result ℤ LineWhy
value_in line =
    option_map_or (λ value. ok_or (as_value value) BadValue) (get (codes "value") line) (Ok (pos 1))

-- a record line, whose key is looked at first, and its value last
abbrev pub record_in : Data → Result LineKind LineWhy
record_in line =
    and_then (key_in line) (λ key.
    and_then (stamp_in line) (λ stamp.
    and_then (value_in line) (λ value. Ok (Record key stamp value))))

-- a watermark line, by its member `watermark`
abbrev pub watermark_in : Data → Result LineKind LineWhy
watermark_in value = and_then (ok_or (as_stamp value) BadStamp) (λ stamp. Ok (Watermark stamp))

-- a line with the member `watermark` is a watermark line, whatever else it has
abbrev pub object_reading : Data → Result LineKind LineWhy
object_reading line = option_map_or watermark_in (get (codes "watermark") line) (record_in line)

-- a line has to be an object
abbrev pub data_reading : Data → Result LineKind LineWhy
data_reading line = if is_some (as_object line) then object_reading line else Err NotObject

-- what a line says, or the first rule that it breaks
abbrev pub line_reading : List ℕ → Result LineKind LineWhy
line_reading line =
    if is_blank line then Ok Blank else option_map_or data_reading (json_of line) (Err NotJson)
