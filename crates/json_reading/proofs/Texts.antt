-- Which texts are JSON.
use Rattle.std.proofs.Common.{◌≡◌, ℕ, List, Bool, true, false, if◌then◌else◌, Option, Some, None, refl}
use Rattle.std.specs.Str.{IsUtf8, is_utf8}
use Rattle.std.proofs.lemmas.Str.{IsUtf8-from_is_utf8, is_utf8-from_IsUtf8}
use Rattle.serde_json.specs.Data.{Data}
use Rattle.serde_json.specs.Read.{read}
use Rattle.json_reading.specs.Texts.{json_of}

-- a test that only passes where there is nothing lets nothing through
none_behind : {X : Type 0} (test : Bool) (found : Option X) → (test ≡ true → found ≡ None) → (if test then found else None) ≡ None
none_behind true found none = none refl
none_behind false found none = refl

-- what is read of bytes is their value
pub json_of-read :
    (bytes : List ℕ) (value : Data) → IsUtf8 bytes → read bytes ≡ Some value → json_of bytes ≡ Some value
json_of-read bytes value text is = rw (is_utf8-from_IsUtf8 bytes text) is

-- bytes that are no text, or of which nothing is read, have no value
pub json_of-unread : (bytes : List ℕ) → (IsUtf8 bytes → read bytes ≡ None) → json_of bytes ≡ None
json_of-unread bytes none = none_behind (is_utf8 bytes) (read bytes) (λ text. none (IsUtf8-from_is_utf8 bytes text))
