-- A line that is in the short form says what its key and its timestamp are, or its watermark.
use Rattle.std.proofs.Common.{◌≡◌, ◌∙◌, ℕ, ◌<◌, ◌≤◌, ◌^◌, ◌++◌, pos, true, List, [], ◌∷◌, length, take, drop, nat_eq, ◌-◌, rules, codes, decimal, Some, Ok, Err, refl, ap, sym, arith, append_assoc}
use Rattle.std.specs.Option.{option_map_or}
use Rattle.std.specs.Str.{IsUtf8}
use Rattle.std.specs.Cmp.Lexicographic.{pointwise, same_text}
use Rattle.std.proofs.lemmas.Bool.{and_parts, or_parts, not-true, eqb-false, ltb-false, le-leb}
use Rattle.std.proofs.lemmas.List.{take-append-drop}
use Rattle.std.proofs.lemmas.Fmt.{IsAscii-decimal}
use Rattle.std.proofs.lemmas.Str.{IsUtf8-append, IsUtf8-from_ascii}
use Rattle.json.specs.Lex.{tokens}
use Rattle.json.specs.Print.{ArePrintable, escape, escape_byte}
use Rattle.json.specs.Run.{is_stop}
use Rattle.json.specs.Tree.{json_tokens}
use Rattle.json.specs.Json as json
use Rattle.json.proofs.Printed.Decimals.{IsNumber-decimal}
use Rattle.json.proofs.Printed.Strings.{escape_byte_plain}
use Rattle.json.proofs.Printed.Tokens.{tokens-print}
use Rattle.json.proofs.Printed.Trees.{value-json_tokens}
use Rattle.json.proofs.Printed.Utf8.{IsUtf8-are_ascii}
use Rattle.serde_json.specs.Read.{read, of_json}
use Rattle.serde_json.specs.Written.{outline, compact_text}
use Rattle.serde_json.proofs.Numbers.{number_of-decimal}
use Rattle.serde_json.proofs.Texts.{print-outline}
use Rattle.mw_types.specs.declared.TheConstants.{INPUT_MAX}
use Rattle.json_reading.specs.Texts.{json_of}
use Rattle.json_reading.proofs.Texts.{json_of-read}
use Rattle.injector.specs.EventLines.{key_within, data_reading, line_reading}
use Rattle.injector.specs.ShortForm.{short_data, short_line, mark_data, mark_line, IsUnescaped}
use Rattle.injector.specs.declared.refusal.LineWhy.TheVariants.{NotJson}
use Rattle.injector.specs.declared.reading.LineKind.TheVariants.{Record, Watermark}

-- a text that needs no escape is printed as it is
escape-unescaped : (text : List ℕ) → IsUnescaped text → escape text ≡ text
escape-unescaped [] unescaped = refl
escape-unescaped (x ∷ xs) unescaped =
    let p = and_parts _ _ unescaped in
    let stop = or_parts _ _ (not-true (is_stop x) p.0) in
    let quote = or_parts _ _ stop.0 in
    ap (λ first. first ++ escape xs) (escape_byte_plain x (eqb-false x 34 quote.0) (eqb-false x 92 quote.1) (ltb-false x 32 stop.1))
    ∙ ap (λ rest. x ∷ rest) (escape-unescaped xs p.1)

-- the line is the compact text of its value
compact_text-short :
    (key : List ℕ) (stamp : ℕ) → IsUnescaped key → compact_text (short_data key stamp) ≡ short_line key (decimal stamp)
unfolding escape_byte
compact_text-short key stamp unescaped = rw (escape-unescaped key unescaped, append_assoc key (34 ∷ [])) refl

-- and is read as that value
read-short :
    (key : List ℕ) (stamp : ℕ)
    → stamp < 2 ^ 64
    → read (compact_text (short_data key stamp)) ≡ Some (short_data key stamp)
unfolding ArePrintable
read-short key stamp fits =
    let j = outline (short_data key stamp) in
    let printable : ArePrintable (json_tokens j) = (tt, (tt, (tt, (tt, (IsNumber-decimal stamp fits, (tt, tt)))))) in
    let told : tokens (compact_text (short_data key stamp)) ≡ json_tokens j =
    ap tokens (sym (print-outline (short_data key stamp))) ∙ tokens-print (json_tokens j) printable in
    let value : json.value 127 (json_tokens j) ≡ Some (j, []) = value-json_tokens j 127 [] (omega arith) in
    let held : of_json j ≡ Some (short_data key stamp) = rw (number_of-decimal stamp fits) refl in
    rw (told, value) held

-- it is text where its key is
IsUtf8-short : (key : List ℕ) (stamp : ℕ) → IsUtf8 key → stamp < 2 ^ 64 → IsUtf8 (short_line key (decimal stamp))
IsUtf8-short key stamp text fits =
    IsUtf8-append _ _ (IsUtf8-are_ascii (codes "{\"key\":\"") refl)
    (IsUtf8-append key _ text
    (IsUtf8-append _ _ (IsUtf8-are_ascii (codes "\",\"ts\":") refl)
    (IsUtf8-append _ _ (IsUtf8-from_ascii _ (IsAscii-decimal stamp fits)) (IsUtf8-are_ascii (codes "}") refl))))

-- a text of 1 to 256 bytes is a key
key_within-some : (text : List ℕ) → 0 < length text → length text ≤ 256 → key_within text ≡ Some text
key_within-some text some short = search (arith, rules)

-- what such a line says
pub line_reading-short :
    (line key : List ℕ) (stamp : ℕ)
    → line ≡ short_line key (decimal stamp)
    → IsUnescaped key
    → IsUtf8 key
    → (0 < length key) × (length key ≤ 256)
    → stamp ≤ INPUT_MAX
    → line_reading line ≡ Ok (Record key stamp (pos 1))
line_reading-short line key stamp is unescaped text within bounded =
    let fits : stamp < 2 ^ 64 = omega (arith, bounded) in
    let held : json_of (short_line key (decimal stamp)) ≡ Some (short_data key stamp) =
    json_of-read _ _ (IsUtf8-short key stamp text fits)
    (ap read (sym (compact_text-short key stamp unescaped)) ∙ read-short key stamp fits) in
    let says : data_reading (short_data key stamp) ≡ Ok (Record key stamp (pos 1)) =
    rw (key_within-some key within.0 within.1, le-leb stamp INPUT_MAX bounded) refl in
    ap line_reading is
    ∙ ap (λ found. option_map_or data_reading found (Err NotJson)) held
    ∙ says

-- a watermark line is the compact text of its value
compact_text-mark : (stamp : ℕ) → compact_text (mark_data stamp) ≡ mark_line (decimal stamp)
unfolding escape_byte
compact_text-mark stamp = refl

-- and is read as that value
read-mark : (stamp : ℕ) → stamp < 2 ^ 64 → read (compact_text (mark_data stamp)) ≡ Some (mark_data stamp)
unfolding ArePrintable
read-mark stamp fits =
    let j = outline (mark_data stamp) in
    let printable : ArePrintable (json_tokens j) = (tt, (tt, (IsNumber-decimal stamp fits, (tt, tt)))) in
    let told : tokens (compact_text (mark_data stamp)) ≡ json_tokens j =
    ap tokens (sym (print-outline (mark_data stamp))) ∙ tokens-print (json_tokens j) printable in
    let value : json.value 127 (json_tokens j) ≡ Some (j, []) = value-json_tokens j 127 [] (omega arith) in
    let held : of_json j ≡ Some (mark_data stamp) = rw (number_of-decimal stamp fits) refl in
    rw (told, value) held

-- it is text
IsUtf8-mark : (stamp : ℕ) → stamp < 2 ^ 64 → IsUtf8 (mark_line (decimal stamp))
IsUtf8-mark stamp fits =
    IsUtf8-append _ _ (IsUtf8-are_ascii (codes "{\"watermark\":") refl)
    (IsUtf8-append _ _ (IsUtf8-from_ascii _ (IsAscii-decimal stamp fits)) (IsUtf8-are_ascii (codes "}") refl))

-- what such a line says
pub mark_line-read :
    (line : List ℕ) (stamp : ℕ)
    → line ≡ mark_line (decimal stamp)
    → stamp ≤ INPUT_MAX
    → line_reading line ≡ Ok (Watermark stamp)
mark_line-read line stamp is bounded =
    let fits : stamp < 2 ^ 64 = omega (arith, bounded) in
    let held : json_of (mark_line (decimal stamp)) ≡ Some (mark_data stamp) =
    json_of-read _ _ (IsUtf8-mark stamp fits) (ap read (sym (compact_text-mark stamp)) ∙ read-mark stamp fits) in
    let says : data_reading (mark_data stamp) ≡ Ok (Watermark stamp) = rw (le-leb stamp INPUT_MAX bounded) refl in
    ap line_reading is
    ∙ ap (λ found. option_map_or data_reading found (Err NotJson)) held
    ∙ says

-- what is read of a record line by its parts
pub short_reading-is :
    (line key digits text record_key : List ℕ) (stamp : ℕ)
    → line ≡ short_line key digits
    → digits ≡ decimal stamp
    → text ≡ key
    → IsUnescaped text
    → IsUtf8 text
    → record_key ≡ text
    → (0 < length record_key) × (length record_key ≤ 256)
    → stamp ≤ INPUT_MAX
    → line_reading line ≡ Ok (Record record_key stamp (pos 1))
short_reading-is line key digits text record_key stamp is spelt same unescaped utf8 held within bounded =
    line_reading-short line record_key stamp
    (is ∙ ap (λ k. short_line k digits) (sym (held ∙ same)) ∙ ap (λ d. short_line record_key d) spelt)
    (rw held unescaped)
    (rw held utf8)
    within
    bounded

-- what `strip_prefix` says of bytes
pub prefix-is :
    (text front rest : List ℕ)
    → pointwise nat_eq (take (length front) text) front ≡ true
    → rest ≡ drop (length front) text
    → text ≡ front ++ rest
prefix-is text front rest same is =
    sym (take-append-drop (length front) text)
    ∙ ap (λ b. b ++ drop (length front) text) (same_text _ _ (sym same))
    ∙ ap (λ b. front ++ b) (sym is)

-- what `strip_suffix` says of bytes
pub suffix-is :
    (text back rest : List ℕ)
    → pointwise nat_eq (drop (length text - length back) text) back ≡ true
    → rest ≡ take (length text - length back) text
    → text ≡ rest ++ back
suffix-is text back rest same is =
    sym (take-append-drop (length text - length back) text)
    ∙ ap (λ b. take (length text - length back) text ++ b) (same_text _ _ (sym same))
    ∙ ap (λ b. b ++ back) (sym is)

-- a line that is cut four times in this way is in the short form
pub short_line-parts :
    (line rest key behind after digits : List ℕ)
    → line ≡ codes "{\"key\":\"" ++ rest
    → rest ≡ key ++ behind
    → behind ≡ codes "\",\"ts\":" ++ after
    → after ≡ digits ++ codes "}"
    → line ≡ short_line key digits
short_line-parts line rest key behind after digits a b c d =
    a ∙ ap (λ l. codes "{\"key\":\"" ++ l) (b ∙ ap (λ l. key ++ l) (c ∙ ap (λ l. codes "\",\"ts\":" ++ l) d))

-- what `split_at` says of bytes
pub split-is :
    (text front back : List ℕ) (at : ℕ)
    → front ≡ take at text
    → back ≡ drop at text
    → text ≡ front ++ back
split-is text front back at before after =
    sym (take-append-drop at text)
    ∙ ap (λ b. b ++ drop at text) (sym before)
    ∙ ap (λ b. front ++ b) (sym after)
