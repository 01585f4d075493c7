-- The text of a value that can be written reads as that value.
use Rattle.std.proofs.Common.{◌≡◌, ℕ, suc, pos, negsuc, ◌<◌, ◌≤◌, ◌^◌, ◌==◌, max, false, cond, List, [], ◌∷◌, drop, get_or, decimal, Some, option_map, option_and_then, sym, ap, ◌∙◌, refl, subst, arith, append-nil}
use Rattle.std.proofs.lemmas.Fmt.{first_decimal}
use Rattle.std.proofs.lemmas.Bool.{ne_eqb}
use Rattle.json.specs.Lex.{tokens}
use Rattle.json.specs.Word.{head, after_whole, after_fraction, after_exponent, after_number}
use Rattle.json.specs.Print.{IsNumber}
use Rattle.json.specs.Json as json
use Rattle.json.specs.Tree as tree
use Rattle.json.proofs.Printed.Decimals.{IsNumber-decimal}
use Rattle.json.proofs.Printed.Tokens.{tokens-print}
use Rattle.json.proofs.Printed.Trees.{value-json_tokens, ArePrintable-json_tokens}
use Rattle.serde_json.specs.Data.{Num, unsigned, negative, float, Data, null, boolean, number, string, array, object}
use Rattle.serde_json.specs.Data.{Items, no_items, item, Members, no_members, member, put, depth, items_depth, members_depth}
use Rattle.serde_json.specs.Read.{of_json, of_items, of_members, read, max_depth}
use Rattle.serde_json.specs.Written.{number_text, outline, items_outline, members_outline, compact_text}
use Rattle.serde_json.proofs.Numbers.{number_of-decimal, number_of-negative}
use Rattle.serde_json.proofs.Texts.{print-outline}
use Rattle.read_back.specs.Writable.{IsWhole, followed_by, StandInOrder, IsWritable, AreWritable, HaveWritable}

-- ---- the numbers of a text are numbers of JSON

no_sign : (digits : List ℕ) → 48 < get_or digits 0 0 → (head digits == 45) ≡ false
no_sign [] first = absurd (omega (arith, first))
no_sign (digit ∷ digits) first = ne_eqb digit 45 (λ (is : digit ≡ 45). omega (arith, first, is))

IsNumber-sign : (n : ℕ) → 0 < n → n < 2 ^ 64 → IsNumber (45 ∷ decimal n)
unfolding after_number
IsNumber-sign n some fits =
    let rest : List ℕ → _ = λ digits. option_and_then after_exponent (option_and_then after_fraction (after_whole digits)) in
    sym (ap (λ signed. rest (cond signed (drop 1 (decimal n)) (decimal n))) (no_sign (decimal n) (first_decimal n some fits)))
    ∙ IsNumber-decimal n fits

IsNumber-number_text : (n : Num) → IsWhole n → IsNumber (number_text n)
IsNumber-number_text (unsigned n) whole = IsNumber-decimal n whole
IsNumber-number_text (negative (pos n)) whole = absurd whole
IsNumber-number_text (negative (negsuc n)) whole = IsNumber-sign (suc n) (omega arith) (omega (arith, whole))
IsNumber-number_text (float x) whole = absurd whole

mutual
  outline-numbers : (d : Data) → IsWritable d → tree.HasNumbers (outline d)
  outline-numbers null can = tt
  outline-numbers (boolean b) can = tt
  outline-numbers (number n) can = IsNumber-number_text n can
  outline-numbers (string text) can = tt
  outline-numbers (array items) can = items-numbers items can
  outline-numbers (object members) can = members-numbers members can.1

  items-numbers : (items : Items) → AreWritable items → tree.ItemsHaveNumbers (items_outline items)
  items-numbers no_items can = tt
  items-numbers (item d items) can = (outline-numbers d can.0, items-numbers items can.1)

  members-numbers : (members : Members) → HaveWritable members → tree.MembersHaveNumbers (members_outline members)
  members-numbers no_members can = tt
  members-numbers (member name d members) can = (outline-numbers d can.1, members-numbers members can.2)

-- ---- an outline is read as its value

of_json-number : (n : Num) → IsWhole n → of_json (json.number (number_text n)) ≡ Some (number n)
of_json-number (unsigned n) whole = ap (option_map number) (number_of-decimal n whole)
of_json-number (negative (pos n)) whole = absurd whole
of_json-number (negative (negsuc n)) whole = ap (option_map number) (number_of-negative n whole)
of_json-number (float x) whole = absurd whole

followed_by-one : (before : Members) (name : List ℕ) (d : Data) (rest : Members)
    → followed_by (followed_by before (member name d no_members)) rest ≡ followed_by before (member name d rest)
followed_by-one no_members name d rest = refl
followed_by-one (member other e before) name d rest = ap (member other e) (followed_by-one before name d rest)

followed_by-none : (before : Members) → followed_by before no_members ≡ before
followed_by-none no_members = refl
followed_by-none (member name d before) = ap (member name d) (followed_by-none before)

mutual
  of_json-outline : (d : Data) → IsWritable d → of_json (outline d) ≡ Some d
  of_json-outline null can = refl
  of_json-outline (boolean b) can = refl
  of_json-outline (number n) can = of_json-number n can
  of_json-outline (string text) can = refl
  of_json-outline (array items) can = ap (option_map array) (of_items-outline items can)
  of_json-outline (object members) can = ap (option_map object) (of_members-outline no_members members can.0 can.1)

  of_items-outline : (items : Items) → AreWritable items → of_items (items_outline items) ≡ Some items
  of_items-outline no_items can = refl
  of_items-outline (item d items) can =
      ap (option_and_then (λ e. option_map (item e) (of_items (items_outline items)))) (of_json-outline d can.0)
      ∙ ap (option_map (item d)) (of_items-outline items can.1)

  of_members-outline : (before members : Members) → StandInOrder before members → HaveWritable members
      → of_members (members_outline members) before ≡ Some (followed_by before members)
  of_members-outline before no_members order can = ap Some (sym (followed_by-none before))
  of_members-outline before (member name d members) order can =
      ap (option_and_then (λ e. of_members (members_outline members) (put name e before))) (of_json-outline d can.1)
      ∙ ap (of_members (members_outline members)) order.0
      ∙ of_members-outline (followed_by before (member name d no_members)) members order.1 can.2
      ∙ ap Some (followed_by-one before name d members)

-- ---- an outline is as deep as its value

mutual
  depth-outline : (d : Data) → tree.depth (outline d) ≡ depth d
  depth-outline null = refl
  depth-outline (boolean b) = refl
  depth-outline (number n) = refl
  depth-outline (string text) = refl
  depth-outline (array items) = ap suc (items_depth-outline items)
  depth-outline (object members) = ap suc (members_depth-outline members)

  items_depth-outline : (items : Items) → tree.items_depth (items_outline items) ≡ items_depth items
  items_depth-outline no_items = refl
  items_depth-outline (item d items) = ap (λ n. max n (tree.items_depth (items_outline items))) (depth-outline d)
      ∙ ap (max (depth d)) (items_depth-outline items)

  members_depth-outline : (members : Members) → tree.members_depth (members_outline members) ≡ members_depth members
  members_depth-outline no_members = refl
  members_depth-outline (member name d members) =
      ap (λ n. max n (tree.members_depth (members_outline members))) (depth-outline d)
      ∙ ap (max (depth d)) (members_depth-outline members)

-- ---- a text is read as its value

pub read-compact_text : (d : Data) → IsWritable d → depth d ≤ max_depth → read (compact_text d) ≡ Some d
read-compact_text d can shallow =
    let all = tree.json_tokens (outline d) in
    let words : tokens (compact_text d) ≡ all = ap tokens (sym (print-outline d))
    ∙ tokens-print all (ArePrintable-json_tokens (outline d) (outline-numbers d can)) in
    let value = value-json_tokens (outline d) max_depth [] (subst (λ n. n ≤ max_depth) (sym (depth-outline d)) shallow) in
    ap (λ ts. option_and_then of_json (option_and_then (λ p. json.if_last p.0 p.1) (json.value max_depth ts)))
    (words ∙ sym (append-nil all))
    ∙ ap (λ o. option_and_then of_json (option_and_then (λ p. json.if_last p.0 p.1) o)) value
    ∙ of_json-outline d can
