-- A live line's text begins no other live line's text.
use Rattle.std.proofs.Common.{◌≡◌, ℕ, ℤ, suc, pos, negsuc, ◌<◌, ◌≤◌, ◌^◌, Bool, true, false, List, [], ◌∷◌, ◌++◌, get_or, drop, codes, decimal, SFits, w64, sym, ap, ◌∙◌, arith, append_assoc, append-nil}
use Rattle.std.specs.List.{AllByRecursion}
use Rattle.std.proofs.lemmas.List.{append_cancel_left}
use Rattle.std.proofs.lemmas.List.Elements.{All-from_get_or, recursion_from_All}
use Rattle.std.proofs.lemmas.Fmt.{decimal_is_IsNumeral}
use Rattle.std.proofs.lemmas.Str.Parse.{digit_at}
use Rattle.json.specs.Text.{content, plain}
use Rattle.json.specs.Print.{escape, quoted}
use Rattle.json.proofs.Printed.Strings.{content-escape}
use Rattle.serde_json.specs.Data.{string, number, unsigned, Members, no_members, member}
use Rattle.mw_types.specs.PrintedIds.{printed_id}
use Rattle.serde_json.specs.Find.{of_integer}
use Rattle.serde_json.specs.Written.{number_text, members_text}
use Rattle.list_lemmas.proofs.Lists.{some_same}
use Rattle.live_outlet.specs.LiveLines.{LiveLine, live_text, IsLive}

-- ---- texts

-- what stands behind the end of a string
string_same : (s t r u : List ℕ) → escape s ++ 34 ∷ r ≡ escape t ++ 34 ∷ u → r ≡ u
string_same s t r u same =
    let text : s ≡ t = some_same s t (sym (content-escape s r) ∙ ap (content plain) same ∙ content-escape t u) in
    ap (drop 1) (append_cancel_left (escape s) (34 ∷ r) (34 ∷ u) (same ∙ ap (λ (x : List ℕ). escape x ++ 34 ∷ u) (sym text)))

quoted_same : (s t r u : List ℕ) → quoted s ++ r ≡ quoted t ++ u → r ≡ u
quoted_same s t r u same =
    string_same s t r u
    (sym (append_assoc (escape s) (34 ∷ []) r) ∙ ap (drop 1) same ∙ append_assoc (escape t) (34 ∷ []) u)

-- a member and what stands behind it
opened : (k d m r : List ℕ) → (quoted k ++ 58 ∷ (d ++ m)) ++ r ≡ quoted k ++ 58 ∷ (d ++ (m ++ r))
opened k d m r = append_assoc (quoted k) (58 ∷ (d ++ m)) r ∙ ap (λ l. quoted k ++ 58 ∷ l) (append_assoc d m r)

-- what stands behind the name of a member
member_same : (k d e m n r u : List ℕ) → (quoted k ++ 58 ∷ (d ++ m)) ++ r ≡ (quoted k ++ 58 ∷ (e ++ n)) ++ u
    → d ++ (m ++ r) ≡ e ++ (n ++ u)
member_same k d e m n r u same =
    ap (drop 1) (quoted_same k k (58 ∷ (d ++ (m ++ r))) (58 ∷ (e ++ (n ++ u))) (sym (opened k d m r) ∙ same ∙ opened k e n u))

-- what stands behind a member that is a text
text_same : (later : Bool) (k s t : List ℕ) (ms ns : Members) (r u : List ℕ)
    → members_text later (member k (string s) ms) ++ r ≡ members_text later (member k (string t) ns) ++ u
    → members_text true ms ++ r ≡ members_text true ns ++ u
text_same false k s t ms ns r u same =
    quoted_same s t _ _ (member_same k (quoted s) (quoted t) (members_text true ms) (members_text true ns) r u same)
text_same true k s t ms ns r u same =
    quoted_same s t _ _ (member_same k (quoted s) (quoted t) (members_text true ms) (members_text true ns) r u (ap (drop 1) same))

-- ---- numbers

-- a digit or a minus sign
abbrev IsOfNumber : ℕ → Type 0
IsOfNumber byte = (45 ≤ byte) × (byte ≤ 57)

-- what stands behind the first byte that is of no number
digits_same : (xs ys r u : List ℕ) (c : ℕ) → AllByRecursion IsOfNumber xs → AllByRecursion IsOfNumber ys → (IsOfNumber c → ⊥)
    → xs ++ c ∷ r ≡ ys ++ c ∷ u → r ≡ u
digits_same [] [] r u c one other none same = ap (drop 1) same
digits_same [] (y ∷ ys) r u c one other none same =
    let first : c ≡ y = ap (λ (l : List ℕ). get_or l 0 0) same in
    absurd (none (omega (arith, first, other.0.0), omega (arith, first, other.0.1)))
digits_same (x ∷ xs) [] r u c one other none same =
    let first : x ≡ c = ap (λ (l : List ℕ). get_or l 0 0) same in
    absurd (none (omega (arith, first, one.0.0), omega (arith, first, one.0.1)))
digits_same (x ∷ xs) (y ∷ ys) r u c one other none same = digits_same xs ys r u c one.1 other.1 none (ap (drop 1) same)

-- what stands behind a later member that is a number
number_same : (k xs ys m n r u : List ℕ) (c : ℕ) → AllByRecursion IsOfNumber xs → AllByRecursion IsOfNumber ys → (IsOfNumber c → ⊥)
    → (44 ∷ (quoted k ++ 58 ∷ (xs ++ c ∷ m))) ++ r ≡ (44 ∷ (quoted k ++ 58 ∷ (ys ++ c ∷ n))) ++ u → m ++ r ≡ n ++ u
number_same k xs ys m n r u c one other none same =
    digits_same xs ys (m ++ r) (n ++ u) c one other none (member_same k xs ys (c ∷ m) (c ∷ n) r u (ap (drop 1) same))

decimal-of_number : (n : ℕ) → n < 2 ^ 64 → AllByRecursion IsOfNumber (decimal n)
decimal-of_number n fits = recursion_from_All IsOfNumber (decimal n) (All-from_get_or IsOfNumber (decimal n) 0 (λ i within.
    let digit = digit_at _ i (decimal_is_IsNumeral n fits).0.1 within in (omega (arith, digit.0), omega (arith, digit.1))))

integer-of_number : (v : ℤ) → SFits w64 v → AllByRecursion IsOfNumber (number_text (of_integer v))
integer-of_number (pos n) fits = decimal-of_number n (grind arith)
integer-of_number (negsuc n) fits = ((omega arith, omega arith), decimal-of_number (suc n) (grind arith))

-- ---- live lines

-- the members of a live line, from one on
abbrev from_value : LiveLine → Members
from_value line = member (codes "value") (number (of_integer line.value)) no_members

abbrev from_stamp : LiveLine → Members
from_stamp line = member (codes "ts") (number (unsigned line.stamp)) (from_value line)

abbrev from_stream : LiveLine → Members
from_stream line = member (codes "stream") (string line.stream) (from_stamp line)

abbrev from_key : LiveLine → Members
from_key line = member (codes "key") (string line.key) (from_stream line)

-- what stands in a live line behind its timestamp, and behind the comma there
abbrev behind_stamp : LiveLine → List ℕ
behind_stamp line = quoted (codes "value") ++ 58 ∷ (number_text (of_integer line.value) ++ 125 ∷ [])

-- what begins a live line's text and is one itself is all of it
pub no_more : (one other : LiveLine) (more : List ℕ) → IsLive one → IsLive other → live_text one ++ more ≡ live_text other → more ≡ []
no_more one other more is live begins =
    let same : live_text one ++ more ≡ live_text other ++ [] = begins ∙ sym (append-nil (live_text other)) in
    let key = text_same false (codes "id") (printed_id one.id) (printed_id other.id) (from_key one) (from_key other) more []
    (ap (drop 1) same) in
    let stream = text_same true (codes "key") one.key other.key (from_stream one) (from_stream other) more [] key in
    let stamp = text_same true (codes "stream") one.stream other.stream (from_stamp one) (from_stamp other) more [] stream in
    let value : behind_stamp one ++ more ≡ behind_stamp other ++ [] =
    number_same (codes "ts") (decimal one.stamp) (decimal other.stamp) (behind_stamp one) (behind_stamp other) more [] 44
    (decimal-of_number one.stamp is.stamp) (decimal-of_number other.stamp live.stamp) comma stamp in
    number_same (codes "value") (number_text (of_integer one.value)) (number_text (of_integer other.value)) [] [] more [] 125
    (integer-of_number one.value is.value) (integer-of_number other.value live.value) brace
    (ap (λ (l : List ℕ). 44 ∷ l) value)
  where
    comma : IsOfNumber 44 → ⊥
    comma of = omega (arith, of.0)

    brace : IsOfNumber 125 → ⊥
    brace of = omega (arith, of.1)
