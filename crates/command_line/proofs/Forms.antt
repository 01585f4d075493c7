-- The forms of a word, by the grammar and by `clap`.
use Rattle.std.proofs.Common.{◌≡◌, ◌∙◌, ◌⊎◌, ◌==◌, ◌+◌, ◌&&◌, ◌||◌, inl, inr, Bool, true, false, not, cond, ℕ, suc, arith, List, [], ◌∷◌, Option, Some, None, refl, sym, ap, subst, length, take, drop, option_map, codes, nat_lt}
use Rattle.std.proofs.lemmas.Bool.Decides.{eqb_tells, nat_tests}
use Rattle.std.proofs.lemmas.List.{take_all}
use Rattle.std.specs.Cmp.Lexicographic.{same_text}
use Rattle.std.specs.List.{position_or_len}
use Rattle.std.specs.Prelude.{option_and_then}
use Rattle.std.specs.Str.{bytes_eq}
use Rattle.clap.specs.Lexer.{has_byte, long_of}
use Rattle.clap.specs.Walk.{Rule, Text, arg_by_long}
use Rattle.text_lines.specs.Words.{is_word}
use Rattle.command_line.specs.Words.{after_word, assigned, first_value, is_dashed, is_end, line_after, with_option, with_positionals}
use Rattle.command_line.specs.Clap.{is_short}
use Rattle.command_line.specs.declared.line.Line.{Line}
use Rattle.command_line.proofs.Rules.{Asked, plan, workers, rounds, keep, trace, plan_id, workers_id, rounds_id, keep_id, trace_id, history, live, Flag, history_flag, live_flag, flag_name, name_of, rule_of, rules}
use Rattle.command_line.proofs.Lines.{flagged, given, value_of, with_value}
use Rattle.command_line.proofs.Steps.{IsPlain, end_word}

-- ---- the forms of a word

pub data Form (word : Text) : Type 0 where
  a_plain : IsPlain word → is_dashed word ≡ false → Form word
  an_end : word ≡ end_word → Form word
  a_long : (x : ℕ) (xs : Text) → word ≡ 45 ∷ (45 ∷ (x ∷ xs)) → Form word
  a_short : is_short word ≡ true → bytes_eq word end_word ≡ false → Form word

form_double : (cs : Text) → Form (45 ∷ (45 ∷ cs))
form_double [] = an_end refl
form_double (x ∷ xs) = a_long x xs refl

form_dashed : (cs : Text) → Form (45 ∷ cs)
form_dashed [] = a_short refl refl
form_dashed (d ∷ ds) = elim (eqb_tells d 45) [
  | inl t ↦ subst (λ c. Form (45 ∷ (c ∷ ds))) (sym t.1) (form_double ds)
  | inr t ↦ a_short (ap not t.0) (ap (λ b. b && bytes_eq ds []) t.0)
]

pub form_of : (word : Text) → Form word
form_of [] = a_plain (record { no_end = refl; no_long = refl; no_short = refl }) refl
form_of (c ∷ cs) = elim (eqb_tells c 45) [
  | inl t ↦ subst (λ d. Form (d ∷ cs)) (sym t.1) (form_dashed cs)
  | inr t ↦ a_plain (record { no_end = rw t.0 refl; no_long = rw t.0 refl; no_short = rw t.0 refl }) t.0
]

-- ---- a word that is cut at its first `=`

abbrev pub dashed : Text → Text
dashed name = 45 ∷ (45 ∷ name)

abbrev pub is_equals : ℕ → Bool
is_equals c = c == 61

any_is : (xs : Text) → has_byte 61 xs ≡ nat_lt (position_or_len (λ x. x == 61) xs) (length xs)
any_is [] = refl
any_is (x ∷ xs) = go (x == 61) (any_is xs)
  where
    go : (b : Bool) → has_byte 61 xs ≡ nat_lt (position_or_len (λ y. y == 61) xs) (length xs)
        → (b || has_byte 61 xs) ≡ nat_lt (cond (not b) (1 + position_or_len (λ y. y == 61) xs) 0) (suc (length xs))
    go true ih = grind (arith, nat_tests)
    go false ih = ih ∙ grind (arith, nat_tests)

-- a word behind its first n bytes and one more, where it has more than n
abbrev pub cut_by : Bool → Text → ℕ → Option (Text × Text)
cut_by b text n = cond b (Some (dashed (take n text), drop (n + 1) text)) None

-- a word cut behind k bytes
abbrev cut_at : Text → ℕ → Option (Text × Text)
cut_at word k = cond (nat_lt k (length word)) (Some (take k word, drop (k + 1) word)) None

two_more : (n : ℕ) → 1 + (1 + n) ≡ suc (suc n)
two_more n = omega arith

two_before : (n : ℕ) → suc (suc n) + 1 ≡ suc (suc (n + 1))
two_before n = omega arith

two_apart : (n m : ℕ) → nat_lt (suc (suc n)) (suc (suc m)) ≡ nat_lt n m
two_apart n m = grind (arith, nat_tests)

cut_dashed : (text : Text) (n : ℕ) → cut_at (dashed text) (1 + (1 + n)) ≡ cut_by (nat_lt n (length text)) text n
cut_dashed text n =
    ap (cut_at (dashed text)) (two_more n)
    ∙ ap (λ k. cond (nat_lt (suc (suc n)) (suc (suc (length text)))) (Some (dashed (take n text), drop k (dashed text))) None) (two_before n)
    ∙ ap (λ b. cut_by b text n) (two_apart n (length text))

assigned_is : (text : Text) → assigned (dashed text) ≡ cut_by (has_byte 61 text) text (position_or_len (λ x. x == 61) text)
assigned_is text =
    cut_dashed text (position_or_len (λ x. x == 61) text)
    ∙ ap (λ b. cut_by b text (position_or_len (λ x. x == 61) text)) (sym (any_is text))

pub data Cut (text : Text) : Type 0 where
  whole : long_of (dashed text) ≡ Some (text, None) → assigned (dashed text) ≡ None → Cut text
  parts : (name v : Text) → long_of (dashed text) ≡ Some (name, Some v) → assigned (dashed text) ≡ Some (dashed name, v)
      → has_byte 61 text ≡ true → Cut text

abbrev place : Text → ℕ
place text = position_or_len (λ x. x == 61) text

-- a word with no `=` is its own name
name_whole : (text : Text) → has_byte 61 text ≡ false → take (place text) text ≡ text
name_whole text none =
    let past : nat_lt (place text) (length text) ≡ false = sym (any_is text) ∙ none in
    take_all (place text) text (grind (arith, nat_tests))

long_as : (x : ℕ) (xs : Text) (b : Bool) → has_byte 61 (x ∷ xs) ≡ b
    → long_of (dashed (x ∷ xs)) ≡ Some (take (place (x ∷ xs)) (x ∷ xs), cond b (Some (drop (place (x ∷ xs) + 1) (x ∷ xs))) None)
long_as x xs b is = ap (λ b. Some (take (place (x ∷ xs)) (x ∷ xs), cond b (Some (drop (place (x ∷ xs) + 1) (x ∷ xs))) None)) is

assigned_as : (text : Text) (b : Bool) → has_byte 61 text ≡ b → assigned (dashed text) ≡ cut_by b text (place text)
assigned_as text b is = assigned_is text ∙ ap (λ b. cut_by b text (place text)) is

named_whole : (text name : Text) → name ≡ text → ◌≡◌ {A = Option (Text × Option Text)} (Some (name, None)) (Some (text, None))
named_whole text name same = ap (λ t. Some (t, None)) same

pub cut_of : (x : ℕ) (xs : Text) → Cut (x ∷ xs)
cut_of x xs = go (has_byte 61 (x ∷ xs)) refl
  where
    go : (b : Bool) → has_byte 61 (x ∷ xs) ≡ b → Cut (x ∷ xs)
    go true e = parts (take (place (x ∷ xs)) (x ∷ xs)) (drop (place (x ∷ xs) + 1) (x ∷ xs)) (long_as x xs true e) (assigned_as (x ∷ xs) true e) e
    go false e = whole (long_as x xs false e ∙ named_whole (x ∷ xs) _ (name_whole (x ∷ xs) e)) (assigned_as (x ∷ xs) false e)

-- ---- the name of a word

pub text_tells : (xs ys : Text) → (xs ≡ ys) ⊎ ((bytes_eq xs ys ≡ false) × (bytes_eq ys xs ≡ false))
text_tells xs ys = go (bytes_eq xs ys) refl (bytes_eq ys xs) refl
  where
    go : (a : Bool) → bytes_eq xs ys ≡ a → (b : Bool) → bytes_eq ys xs ≡ b
        → (xs ≡ ys) ⊎ ((bytes_eq xs ys ≡ false) × (bytes_eq ys xs ≡ false))
    go true e b f = inl (same_text xs ys (sym e))
    go false e true f = inl (sym (same_text ys xs (sym f)))
    go false e false f = inr (e, f)

-- a name is no flag's
pub record NamesNoFlag (name : Text) : Type 0 where
  pub no_history : is_word (dashed name) (codes "--history") ≡ false
  pub no_live : is_word (dashed name) (codes "--live") ≡ false

-- no argument has the name
pub record IsUnknown (name : Text) : Type 0 where
  pub not_found : arg_by_long rules name ≡ None
  pub no_option : (v : Text) (line : Line) → with_option (dashed name) v line ≡ None
  pub no_flag : NamesNoFlag name

pub data Named (name : Text) : Type 0 where
  asks : (x : Asked) → name ≡ name_of x → Named name
  a_flag : (f : Flag) → name ≡ flag_name f → Named name
  unknown : IsUnknown name → Named name

abbrev Apart : Text → Text → Type 0
Apart xs ys = (bytes_eq xs ys ≡ false) × (bytes_eq ys xs ≡ false)

abbrev found_by : Bool → Bool → Bool → Bool → Bool → Bool → Bool → Option Rule
found_by a b c d e f g = cond (a || false) (Some (rule_of plan_id)) (cond (b || false) (Some (rule_of workers_id))
    (cond (c || false) (Some (rule_of rounds_id))
    (cond (d || false) (Some (rule_of keep_id))
    (cond (e || false) (Some (rule_of trace_id)) (cond (f || false) (Some (rule_of history))
    (cond (g || false) (Some (rule_of live)) None))))))

abbrev pub set_by : Bool → Bool → Bool → Bool → Bool → Text → Line → Option Line
set_by a b c d e v line = cond a (option_map (λ u. record line { plan = u }) (first_value v line.plan))
    (cond b (option_map (λ u. record line { workers = u }) (first_value v line.workers))
    (cond c (option_map (λ u. record line { rounds = u }) (first_value v line.rounds))
    (cond d (option_map (λ u. record line { keep = u }) (first_value v line.keep))
    (cond e (option_map (λ u. record line { trace = u }) (first_value v line.trace)) None))))

unknown_is : (name : Text) → Apart name (codes "plan") → Apart name (codes "workers") → Apart name (codes "rounds")
    → Apart name (codes "keep") → Apart name (codes "trace") → Apart name (codes "history")
    → Apart name (codes "live")
    → IsUnknown name
unfolding rules
unknown_is name a b c d e f g = record {
  not_found = λ i. found_by (a.1 i) (b.1 i) (c.1 i) (d.1 i) (e.1 i) (f.1 i) (g.1 i);
  no_option = λ v line i. set_by (a.0 i) (b.0 i) (c.0 i) (d.0 i) (e.0 i) v line;
  no_flag = record { no_history = f.0; no_live = g.0 };
}

pub named : (name : Text) → Named name
named name = elim (text_tells name (codes "plan")) [
  | inl e ↦ asks plan e
  | inr a ↦ elim (text_tells name (codes "workers")) [
    | inl e ↦ asks workers e
    | inr b ↦ elim (text_tells name (codes "rounds")) [
      | inl e ↦ asks rounds e
      | inr c ↦ elim (text_tells name (codes "keep")) [
        | inl e ↦ asks keep e
        | inr d ↦ elim (text_tells name (codes "trace")) [
          | inl e ↦ asks trace e
          | inr e ↦ elim (text_tells name (codes "history")) [
            | inl f ↦ a_flag history_flag f
            | inr f ↦ elim (text_tells name (codes "live")) [
              | inl g ↦ a_flag live_flag g
              | inr g ↦ unknown (unknown_is name a b c d e f g)
            ]
          ]
        ]
      ]
    ]
  ]
]

-- ---- the grammar, a word at a time

pub option_first : (x : Asked) (v : Text) (line : Line) → value_of x line ≡ None
    → with_option (dashed (name_of x)) v line ≡ Some (with_value x v line)
option_first plan v line absent = ap (λ o. option_map (λ u. record line { plan = u }) (first_value v o)) absent
option_first workers v line absent = ap (λ o. option_map (λ u. record line { workers = u }) (first_value v o)) absent
option_first rounds v line absent = ap (λ o. option_map (λ u. record line { rounds = u }) (first_value v o)) absent
option_first keep v line absent = ap (λ o. option_map (λ u. record line { keep = u }) (first_value v o)) absent
option_first trace v line absent = ap (λ o. option_map (λ u. record line { trace = u }) (first_value v o)) absent

pub option_again : (x : Asked) (v had : Text) (line : Line) → value_of x line ≡ Some had → with_option (dashed (name_of x)) v line ≡ None
option_again plan v had line given = ap (λ o. option_map (λ u. record line { plan = u }) (first_value v o)) given
option_again workers v had line given = ap (λ o. option_map (λ u. record line { workers = u }) (first_value v o)) given
option_again rounds v had line given = ap (λ o. option_map (λ u. record line { rounds = u }) (first_value v o)) given
option_again keep v had line given = ap (λ o. option_map (λ u. record line { keep = u }) (first_value v o)) given
option_again trace v had line given = ap (λ o. option_map (λ u. record line { trace = u }) (first_value v o)) given

-- a flag is set where it was not given before
pub flag_first : (f : Flag) (line : Line)
    → after_word (dashed (flag_name f)) None line ≡ option_map (λ l. (l, None)) (cond (given f line) None (Some (flagged f line)))
flag_first history_flag line = refl
flag_first live_flag line = refl

-- and takes no value
pub flag_alone : (f : Flag) (v : Text) (line : Line) → with_option (dashed (flag_name f)) v line ≡ None
flag_alone history_flag v line = refl
flag_alone live_flag v line = refl

pub next_word : (word : Text) (words : List Text) (waiting : Option Text) (line : Line) (next : Line × Option Text)
    → is_end word waiting ≡ false
    → after_word word waiting line ≡ Some next → line_after (word ∷ words) waiting line ≡ line_after words next.1 next.0
unfolding line_after
next_word word words waiting line next no_end after =
    ap (λ b. cond b (Some (with_positionals words line))
    (option_and_then (λ n. line_after words n.1 n.0) (after_word word waiting line))) no_end
    ∙ ap (option_and_then (λ n. line_after words n.1 n.0)) after

pub no_word : (word : Text) (words : List Text) (waiting : Option Text) (line : Line) → is_end word waiting ≡ false
    → after_word word waiting line ≡ None
    → line_after (word ∷ words) waiting line ≡ None
unfolding line_after
no_word word words waiting line no_end after =
    ap (λ b. cond b (Some (with_positionals words line))
    (option_and_then (λ n. line_after words n.1 n.0) (after_word word waiting line))) no_end
    ∙ ap (option_and_then (λ n. line_after words n.1 n.0)) after

-- an option that there is not is refused at the next word
pub never_read : (words : List Text) (name : Text) (line : Line) → ((v : Text) → with_option name v line ≡ None)
    → line_after words (Some name) line ≡ None
unfolding line_after
never_read [] name line none = refl
never_read (word ∷ words) name line none = go (is_dashed word)
  where
    go : (b : Bool) → option_and_then (λ (n : Line × Option Text). line_after words n.1 n.0)
        (cond b None (option_map (λ l. (l, None)) (with_option name word line))) ≡ None
    go true = refl
    go false = ap (λ (o : Option Line). option_and_then (λ (n : Line × Option Text). line_after words n.1 n.0)
        (option_map (λ l. (l, None)) o)) (none word)
