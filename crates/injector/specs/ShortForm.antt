-- The short form of a record line, a key and a timestamp and nothing else, which can be read without a JSON reader,
-- and that of a watermark line, whose only member is the watermark.
-- No public clause cites this module.
use Rattle.std.specs.Prelude.{◌≡◌, ℕ, ◌++◌, List, codes, true}
use Rattle.std.specs.List.{list_all}
use Rattle.serde_json.specs.Data.{Data, object, member, no_members, string, number, unsigned}
use Rattle.json.specs.Run.{is_plain}

-- the value of a line with a key and a timestamp alone
abbrev pub short_data : List ℕ → ℕ → Data
short_data key stamp =
    object (member (codes "key") (string key) (member (codes "ts") (number (unsigned stamp)) no_members))

-- such a line, with the digits of its timestamp
abbrev pub short_line : List ℕ → List ℕ → List ℕ
short_line key digits = codes "{\"key\":\"" ++ (key ++ (codes "\",\"ts\":" ++ (digits ++ codes "}")))

-- the value of a line with a watermark alone
abbrev pub mark_data : ℕ → Data
mark_data stamp = object (member (codes "watermark") (number (unsigned stamp)) no_members)

-- such a line, with the digits of its watermark
abbrev pub mark_line : List ℕ → List ℕ
mark_line digits = codes "{\"watermark\":" ++ (digits ++ codes "}")

-- each byte of the text stands for itself in JSON
abbrev pub IsUnescaped : List ℕ → Type 0
IsUnescaped text = list_all is_plain text ≡ true
