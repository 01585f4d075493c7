-- No line of the grammar has a word that begins with one `-` alone before its first `--`.
use Rattle.std.proofs.Common.{◌≡◌, ◌∙◌, ◌&&◌, ◌||◌, ◌+◌, inl, inr, Bool, true, false, true≢false, not, cond, ℕ, zero, suc, arith, List, [], ◌∷◌, Option, Some, None, refl, sym, ap, ap₂, subst, option_map, take, drop, length, nat_lt, codes}
use Rattle.std.proofs.lemmas.Bool.Decides.{eqb_tells}
use Rattle.std.specs.List.{position_or_len}
use Rattle.std.specs.Prelude.{option_and_then}
use Rattle.std.specs.Str.{bytes_eq}
use Rattle.clap.specs.Walk.{Text}
use Rattle.text_lines.specs.Words.{is_word}
use Rattle.command_line.specs.Words.{after_word, assigned, is_dashed, is_end, is_equals, line_after, with_dashed, with_history, with_live, with_option, with_positionals}
use Rattle.command_line.specs.Clap.{has_short, is_short}
use Rattle.command_line.specs.declared.line.Line.{Line}
use Rattle.command_line.proofs.Forms.{never_read, set_by}

-- no option has a name that begins with one `-` alone
no_option : (name : Text) → is_dashed name ≡ false → (v : Text) (line : Line) → with_option (45 ∷ name) v line ≡ None
no_option [] no_dash v line = refl
no_option (c ∷ cs) no_dash v line =
    λ i. set_by (no_dash i && bytes_eq cs (codes "plan")) (no_dash i && bytes_eq cs (codes "workers"))
    (no_dash i && bytes_eq cs (codes "rounds"))
    (no_dash i && bytes_eq cs (codes "keep")) (no_dash i && bytes_eq cs (codes "trace")) v line

-- nor has a flag
no_history : (name : Text) → is_dashed name ≡ false → is_word (45 ∷ name) (codes "--history") ≡ false
no_history [] no_dash = refl
no_history (c ∷ cs) no_dash = ap (λ b. b && bytes_eq cs (codes "history")) no_dash

no_live : (name : Text) → is_dashed name ≡ false → is_word (45 ∷ name) (codes "--live") ≡ false
no_live [] no_dash = refl
no_live (c ∷ cs) no_dash = ap (λ b. b && bytes_eq cs (codes "live")) no_dash

no_end : (name : Text) → is_dashed name ≡ false → is_word (45 ∷ name) (codes "--") ≡ false
no_end [] no_dash = refl
no_end (c ∷ cs) no_dash = ap (λ b. b && bytes_eq cs []) no_dash

front : (n : ℕ) (cs : Text) → is_dashed cs ≡ false → is_dashed (take n cs) ≡ false
front zero cs no_dash = refl
front (suc n) [] no_dash = refl
front (suc n) (c ∷ cs) no_dash = no_dash

short_after : (cs : Text) (words : List Text) (line : Line) → is_dashed cs ≡ false
    → option_and_then (λ (n : Line × Option Text). line_after words n.1 n.0) (with_dashed (45 ∷ cs) (assigned (45 ∷ cs)) line) ≡ None
short_after cs words line no_dash = go (nat_lt (position_or_len is_equals (45 ∷ cs)) (length (45 ∷ cs)))
  where
    n : ℕ
    n = position_or_len is_equals cs

    one : take (1 + n) (45 ∷ cs) ≡ 45 ∷ take n cs
    one = let is : 1 + n ≡ suc n = omega arith in ap (λ k. take k (45 ∷ cs)) is

    go : (b : Bool) → option_and_then (λ (m : Line × Option Text). line_after words m.1 m.0)
        (with_dashed (45 ∷ cs) (cond b (Some (take (1 + n) (45 ∷ cs), drop (1 + n + 1) (45 ∷ cs))) None) line) ≡ None
    go true = ap (λ name. option_and_then (λ (m : Line × Option Text). line_after words m.1 m.0)
        (option_map (λ l. (l, None)) (with_option name (drop (1 + n + 1) (45 ∷ cs)) line))) one
        ∙ ap (λ o. option_and_then (λ (m : Line × Option Text). line_after words m.1 m.0) (option_map (λ (l : Line). (l, None)) o))
        (no_option (take n cs) (front n cs no_dash) (drop (1 + n + 1) (45 ∷ cs)) line)
    go false = never_read words (45 ∷ cs) line (λ v. no_option cs no_dash v line)

short_refused : (cs : Text) (words : List Text) (waiting : Option Text) (line : Line) → is_dashed cs ≡ false
    → line_after ((45 ∷ cs) ∷ words) waiting line ≡ None
unfolding line_after
short_refused cs words (Some name) line no_dash = refl
short_refused cs words None line no_dash =
    ap (λ b. cond b (Some (with_positionals words line))
    (option_and_then (λ (n : Line × Option Text). line_after words n.1 n.0) (after_word (45 ∷ cs) None line))) (no_end cs no_dash)
    ∙ ap₂ (λ a b. option_and_then (λ (n : Line × Option Text). line_after words n.1 n.0)
    (cond a (option_map (λ l. (l, None)) (with_history line)) (cond b (option_map (λ l. (l, None)) (with_live line))
    (with_dashed (45 ∷ cs) (assigned (45 ∷ cs)) line)))) (no_history cs no_dash) (no_live cs no_dash)
    ∙ short_after cs words line no_dash

-- a word before the first `--` that is short, or is followed by such a one
refused_here : (word : Text) (words : List Text) (waiting : Option Text) (line : Line) → is_short word ≡ true
    → line_after (word ∷ words) waiting line ≡ None
refused_here [] words waiting line short = absurd (true≢false (sym short))
refused_here (c ∷ cs) words waiting line short = elim (eqb_tells c 45) [
  | inl t ↦ subst (λ d. line_after ((d ∷ cs) ∷ words) waiting line ≡ None) (sym t.1)
      (short_refused cs words waiting line (undashed (is_dashed cs) (ap (λ b. b && not (is_dashed cs)) (sym t.0) ∙ short)))
  | inr t ↦ absurd (true≢false (sym (ap (λ b. b && not (is_dashed cs)) (sym t.0) ∙ short)))
]
  where
    undashed : (b : Bool) → not b ≡ true → b ≡ false
    undashed true e = absurd (true≢false (sym e))
    undashed false e = refl

pub short_is_none : (words : List Text) (waiting : Option Text) (line : Line) → has_short words ≡ true
    → line_after words waiting line ≡ None
unfolding line_after
short_is_none [] waiting line has = absurd (true≢false (sym has))
short_is_none (word ∷ words) waiting line has = go (is_word word (codes "--")) refl (is_short word) refl (λ w l. short_is_none words w l)
  where
    no_end_here : (w : Option Text) → is_word word (codes "--") ≡ false → is_end word w ≡ false
    no_end_here None e = e
    no_end_here (Some name) e = refl

    after : (o : Option (Line × Option Text)) → ((w : Option Text) (l : Line) → has_short words ≡ true → line_after words w l ≡ None)
        → has_short words ≡ true
        → option_and_then (λ (n : Line × Option Text). line_after words n.1 n.0) o ≡ None
    after None ih rest = refl
    after (Some n) ih rest = ih n.1 n.0 rest

    go : (a : Bool) → is_word word (codes "--") ≡ a → (b : Bool) → is_short word ≡ b
        → ((w : Option Text) (l : Line) → has_short words ≡ true → line_after words w l ≡ None)
        → line_after (word ∷ words) waiting line ≡ None
    go true e b f ih = absurd (true≢false (sym (ap (λ b. cond b false (is_short word || has_short words)) (sym e) ∙ has)))
    go false e true f ih = refused_here word words waiting line f
    go false e false f ih =
        let rest : has_short words ≡ true = ap (λ b. b || has_short words) (sym f)
        ∙ ap (λ b. cond b false (is_short word || has_short words)) (sym e) ∙ has in
        ap (λ b. cond b (Some (with_positionals words line))
        (option_and_then (λ (n : Line × Option Text). line_after words n.1 n.0) (after_word word waiting line)))
        (no_end_here waiting e)
        ∙ after (after_word word waiting line) ih rest
