-- How the id of a record is printed.
-- RFC 9562, for a UUID of version 8. Own: of its free bits the first 48 are 0, then come 12 for the place among what the
-- entry made, and 62 for the commit number.
use Rattle.std.specs.Prelude.{ℕ, ◌+◌, ◌*◌, ◌^◌, List}
use Rattle.std.specs.Int.{to_be_bytes, w128}
use Rattle.uuid.specs.Text.{hyphenated_text, lower}
use Rattle.mw_types.specs.declared.identity.RecordId.{RecordId}

-- the id as a number of 128 bits: the version 8 stands before the place, and the variant, binary 10, before the
-- commit number
abbrev pub id_number : RecordId → ℕ
id_number id = (8 * 2 ^ 12 + id.index) * 2 ^ 64 + (2 ^ 63 + id.commit)

-- the number's sixteen bytes in lower-case hexadecimal, with hyphens
abbrev pub printed_id : RecordId → List ℕ
printed_id id = hyphenated_text lower (to_be_bytes w128 (id_number id))
