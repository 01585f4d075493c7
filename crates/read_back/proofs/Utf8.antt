-- The text of a value that can be written is UTF-8.
use Rattle.std.proofs.Common.{ℕ, pos, negsuc, suc, Bool, true, false, List, [], ◌∷◌, ◌++◌, decimal, IsUtf8, refl, arith}
use Rattle.std.proofs.lemmas.Str.{IsUtf8-append, IsUtf8-from_ascii}
use Rattle.std.proofs.lemmas.Fmt.{IsAscii-decimal}
use Rattle.json.specs.Print.{quoted}
use Rattle.json.proofs.Printed.Utf8.{IsUtf8-are_ascii, IsUtf8-quoted, IsUtf8-boolean}
use Rattle.serde_json.specs.Data.{Num, unsigned, negative, float, Data, null, boolean, number, string, array, object}
use Rattle.serde_json.specs.Data.{Items, no_items, item, Members, no_members, member}
use Rattle.serde_json.specs.Written.{number_text, comma_if, compact_text, items_text, members_text}
use Rattle.read_back.specs.Writable.{IsWhole, IsWritable, AreWritable, HaveWritable}

-- behind one more byte of ASCII
behind-utf8 : (byte : ℕ) (text : List ℕ) → IsUtf8 (byte ∷ []) → IsUtf8 text → IsUtf8 (byte ∷ text)
behind-utf8 byte text first rest = IsUtf8-append (byte ∷ []) text first rest

comma-utf8 : (later : Bool) (text : List ℕ) → IsUtf8 text → IsUtf8 (comma_if later ++ text)
comma-utf8 true text is = behind-utf8 44 text (IsUtf8-are_ascii (44 ∷ []) refl) is
comma-utf8 false text is = is

number-utf8 : (n : Num) → IsWhole n → IsUtf8 (number_text n)
number-utf8 (unsigned n) whole = IsUtf8-from_ascii (decimal n) (IsAscii-decimal n whole)
number-utf8 (negative (pos n)) whole = absurd whole
number-utf8 (negative (negsuc n)) whole = behind-utf8 45 (decimal (suc n)) (IsUtf8-are_ascii (45 ∷ []) refl)
    (IsUtf8-from_ascii (decimal (suc n)) (IsAscii-decimal (suc n) (omega (arith, whole))))
number-utf8 (float x) whole = absurd whole

mutual
  pub compact_text-utf8 : (d : Data) → IsWritable d → IsUtf8 (compact_text d)
  compact_text-utf8 null can = IsUtf8-are_ascii _ refl
  compact_text-utf8 (boolean b) can = IsUtf8-boolean b
  compact_text-utf8 (number n) can = number-utf8 n can
  compact_text-utf8 (string text) can = IsUtf8-quoted text can
  compact_text-utf8 (array items) can =
      behind-utf8 91 (items_text false items) (IsUtf8-are_ascii (91 ∷ []) refl) (items_text-utf8 false items can)
  compact_text-utf8 (object members) can =
      behind-utf8 123 (members_text false members) (IsUtf8-are_ascii (123 ∷ []) refl) (members_text-utf8 false members can.1)

  items_text-utf8 : (later : Bool) (items : Items) → AreWritable items → IsUtf8 (items_text later items)
  items_text-utf8 later no_items can = IsUtf8-are_ascii (93 ∷ []) refl
  items_text-utf8 later (item d items) can = comma-utf8 later _
      (IsUtf8-append (compact_text d) (items_text true items) (compact_text-utf8 d can.0) (items_text-utf8 true items can.1))

  members_text-utf8 : (later : Bool) (members : Members) → HaveWritable members → IsUtf8 (members_text later members)
  members_text-utf8 later no_members can = IsUtf8-are_ascii (125 ∷ []) refl
  members_text-utf8 later (member name d members) can =
      let rest = compact_text d ++ members_text true members in
      comma-utf8 later _ (IsUtf8-append (quoted name) (58 ∷ rest) (IsUtf8-quoted name can.0)
      (behind-utf8 58 rest (IsUtf8-are_ascii (58 ∷ []) refl)
      (IsUtf8-append (compact_text d) (members_text true members) (compact_text-utf8 d can.1)
      (members_text-utf8 true members can.2))))
