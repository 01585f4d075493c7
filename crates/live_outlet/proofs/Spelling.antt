-- Which lines are live lines, by what is read of them.
use Rattle.std.proofs.Common.{◌≡◌, ℕ, ℤ, pos, negsuc, ◌<◌, ◌≤◌, ◌^◌, ◌&&◌, nat_lt, nat_le, nat_eq, List, length, Bool, true, false, cond, Option, Some, None, option_and_then, SFits, w64, refl, sym, ap, ◌∙◌, arith}
use Rattle.std.specs.Cmp.Lexicographic.{pointwise, bytes_decides}
use Rattle.std.proofs.lemmas.Bool.{and_parts, lt-ltb}
use Rattle.std.proofs.lemmas.Bool.Decides.{nat_tests}
use Rattle.std.proofs.lemmas.Str.{is_utf8-from_IsUtf8, IsUtf8-from_is_utf8}
use Rattle.mw_types.specs.declared.identity.RecordId.{RecordId}
use Rattle.list_lemmas.proofs.Lists.{some_same, none_some}
use Rattle.live_outlet.specs.LiveLines.{LiveLine, live_text, IsLive}
use Rattle.live_outlet.specs.Guesses.{line_guessed}
use Rattle.live_outlet.specs.Collecting.{is_long, is_live, id_spelt, told_id}
use Rattle.live_outlet.proofs.Reading.{line_guessed-own}

both : (a b : Bool) → a ≡ true → b ≡ true → (a && b) ≡ true
both a b e f = ap (λ t. t && b) e ∙ f

le-yes : (n k : ℕ) → n ≤ k → nat_le n k ≡ true
le-yes n k is = grind (arith, nat_tests)

lt-is : (n k : ℕ) → nat_lt n k ≡ true → n < k
lt-is n k is = grind (arith, nat_tests)

le-is : (n k : ℕ) → nat_le n k ≡ true → n ≤ k
le-is n k is = grind (arith, nat_tests)

long-yes : (v : ℤ) → SFits w64 v → is_long v ≡ true
long-yes (pos n) fits = lt-ltb n (2 ^ 63) (grind arith)
long-yes (negsuc n) fits = lt-ltb n (2 ^ 63) (grind arith)

long-is : (v : ℤ) → is_long v ≡ true → SFits w64 v
long-is (pos n) is = let low = lt-is n (2 ^ 63) is in grind arith
long-is (negsuc n) is = let low = lt-is n (2 ^ 63) is in grind arith

-- the test passes what is live
live-yes : (line : LiveLine) → IsLive line → is_live line ≡ true
live-yes line is =
    both _ _ (lt-ltb line.id.commit (2 ^ 32) is.id.commit)
    (both _ _ (lt-ltb line.id.index 512 is.id.index)
    (both _ _ (le-yes (length line.key) 256 is.key.short)
    (both _ _ (is_utf8-from_IsUtf8 line.key is.key.text)
    (both _ _ is.stream
    (both _ _ (lt-ltb line.stamp (2 ^ 64) is.stamp) (long-yes line.value is.value))))))

-- and nothing else
live-is : (line : LiveLine) → is_live line ≡ true → IsLive line
live-is line is =
    let a = and_parts _ _ is in
    let b = and_parts _ _ a.1 in
    let c = and_parts _ _ b.1 in
    let d = and_parts _ _ c.1 in
    let e = and_parts _ _ d.1 in
    let f = and_parts _ _ e.1 in record {
      id = record { commit = lt-is _ _ a.0; index = lt-is _ _ b.0 };
      key = record { short = le-is _ _ c.0; text = IsUtf8-from_is_utf8 line.key d.0 };
      stream = e.0;
      stamp = lt-is _ _ f.0;
      value = long-is line.value f.1;
    }

-- a live line is spelt by its own text
pub id_spelt-some : (text : List ℕ) (line : LiveLine) → IsLive line → live_text line ≡ text → Some line.id ≡ id_spelt text line
id_spelt-some text line is same =
    sym (ap (λ (b : Bool). cond b (Some line.id) None) (both _ _ (live-yes line is) ((bytes_decides (live_text line) text).1 same)))

-- each live line is told
pub told_id-own : (line : LiveLine) → IsLive line → told_id (live_text line) ≡ Some line.id
told_id-own line is =
    ap (option_and_then (id_spelt (live_text line))) (line_guessed-own line is) ∙ sym (id_spelt-some (live_text line) line is refl)

-- what is told is a live line's
pub told_id-is : (text : List ℕ) (id : RecordId) → told_id text ≡ Some id
    → (line : LiveLine) × IsLive line × (line.id ≡ id) × (live_text line ≡ text)
told_id-is text id told = of_guess (line_guessed text) told
  where
    of_test : (line : LiveLine) (b : Bool) → (b ≡ true → IsLive line × (live_text line ≡ text)) → cond b (Some line.id) None ≡ Some id
        → (line : LiveLine) × IsLive line × (line.id ≡ id) × (live_text line ≡ text)
    of_test line true holds is = let h = holds refl in (line, h.0, some_same line.id id is, h.1)
    of_test line false holds is = absurd (none_some id is)

    of_guess : (o : Option LiveLine) → option_and_then (id_spelt text) o ≡ Some id
        → (line : LiveLine) × IsLive line × (line.id ≡ id) × (live_text line ≡ text)
    of_guess None is = absurd (none_some id is)
    of_guess (Some line) is = of_test line (is_live line && pointwise nat_eq (live_text line) text) (λ yes.
        let parts = and_parts (is_live line) (pointwise nat_eq (live_text line) text) yes in
        (live-is line parts.0, (bytes_decides (live_text line) text).0 parts.1)) is
