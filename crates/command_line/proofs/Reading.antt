-- `clap`, beside the rule on short words, takes exactly the lines of the grammar, and finds in them what they say.
use Rattle.std.proofs.Common.{◌≡◌, ◌∙◌, ◌++◌, ◌||◌, inl, inr, Bool, true, false, true≢false, not, cond, ℕ, List, [], ◌∷◌, Option, Some, None, refl, sym, ap, ap₂, subst, option_map, codes, append-nil, append_assoc}
use Rattle.std.specs.Str.{bytes_eq}
use Rattle.clap.specs.Lexer.{has_byte, long_of}
use Rattle.clap.specs.Walk.{Row, Rule, Text, Waiting, Walk, walked, arg_by_long, idle, option, settled_rows, used, nothing_held, rows_after}
use Rattle.clap.specs.Faults.{built_fault, fault_of, level_fault, long_fault, settle_fault, turn_fault, use_fault}
use Rattle.clap.specs.Kinds.{or_else}
use Rattle.clap.specs.Simple.{App, matches_of, names_of}
use Rattle.clap.proofs.FaultLemmas.{leaf_fault}
use Rattle.clap.specs.declared.error.kind.ErrorKind.TheVariants as kind
use Rattle.text_lines.specs.Words.{is_word}
use Rattle.command_line.specs.Words.{after_word, assigned, is_dashed, line_after, line_of, no_words, with_dashed, with_history, with_live, with_option, with_positionals}
use Rattle.command_line.specs.Clap.{has_short, is_short, mill_app}
use Rattle.command_line.specs.declared.line.Line.{Line}
use Rattle.command_line.proofs.Rules.{Asked, Id, mode, args, plan, workers, rounds, keep, trace, plan_id, workers_id, rounds_id, keep_id, trace_id, history, live, Flag, history_flag, live_flag, built_is, by_long, by_long-flag, flag_name, flag_with, name_of, rule_of, rules, shape, text_of}
use Rattle.command_line.proofs.Rules as ours
use Rattle.command_line.proofs.Lines.{Holds, flagged, given, value_of, with_ps, with_value}
use Rattle.command_line.proofs.Steps.{Fails, IsPlain, Pending, Reads, ReadsAt, at, at_end, at_word, begun_turn, begun_walked, end_turn, end_walked, end_word, fails_first, fails_then, fault_from, flag_turn, flag_walked, given_turn, given_walked, held, id_next, is_free, long_fails, long_settles, past_word, place, plain_turn, plain_walked, trailing_turn, trailing_walked, value_fault, value_taken, value_turn, value_walked, wait_is_free, wait_next}
use Rattle.command_line.proofs.States.{Stands, end_reads, flag_fails, flag_passes, flag_says, option_fails, option_passes, option_says, pending_fails, pending_stands, positional_stands, waiting_fails}
use Rattle.command_line.proofs.Forms.{Cut, Form, NamesNoFlag, IsUnknown, Named, a_flag, a_long, a_plain, a_short, an_end, asks, cut_of, dashed, flag_alone, flag_first, form_of, named, never_read, next_word, no_word, option_again, option_first, parts, text_tells, unknown, whole}

-- ---- behind `--`

place_more : (ps : List Text) (word : Text) → place (ps ++ word ∷ []) ≡ 2
place_more [] word = refl
place_more (p ∷ ps) word = refl

-- a walk from another place of the next positional
at_place : (line : Option Line) (rows : List Row) (pending : Pending) (waiting : Waiting) (p q : ℕ) (t : Bool) (words : List Text) → p ≡ q
    → ReadsAt line (at rows pending waiting p t) words
    → ReadsAt line (at rows pending waiting q t) words
at_place line rows pending waiting p q t words same reads =
    subst (λ k. ReadsAt line (at rows pending waiting k t) words) same reads

pub trailing_reads : (words : List Text) (rows : List Row) (pending : Pending) (waiting : Waiting) (ps : List Text) (line : Line)
    → Stands rows pending (with_ps ps line)
    → ReadsAt (Some (with_ps (ps ++ words) line)) (at rows pending waiting (place ps) true) words
trailing_reads [] rows pending waiting ps line stands =
    subst (λ xs. ReadsAt (Some (with_ps xs line)) (at rows pending waiting (place ps) true) [])
    (sym (append-nil ps)) (end_reads rows pending waiting (place ps) true (with_ps ps line) stands)
trailing_reads (word ∷ words) rows pending waiting ps line stands =
    let e = settled_rows rules pending rows in
    let after = Some (text_of (id_next ps), word ∷ []) in
    let next = at_place (Some (with_ps ((ps ++ word ∷ []) ++ words) line)) e after (wait_next ps) (place (ps ++ word ∷ [])) 2 true words
    (place_more ps word)
    (trailing_reads words e after (wait_next ps) (ps ++ word ∷ []) line (positional_stands ps line e word stands.says)) in
    subst (λ xs. ReadsAt (Some (with_ps xs line)) (at rows pending waiting (place ps) true) (word ∷ words))
    (append_assoc ps (word ∷ []) words)
    (past_word (Some (with_ps ((ps ++ word ∷ []) ++ words) line)) (at rows pending waiting (place ps) true)
    (at e after (wait_next ps) 2 true) word words
    (trailing_turn rows pending waiting (place ps) word ∙ value_fault ps (held rows pending) ∙ stands.passes)
    (trailing_walked rows pending waiting (place ps) word ∙ value_walked ps rows pending waiting true word) next)

-- ---- what cannot be settled is refused, whatever follows

trailing_fails : (words : List Text) (rows : List Row) (pending : Pending) (waiting : Waiting) (ps : List Text)
    → Fails (settle_fault rules false (held rows pending))
    → Fails (fault_from (at rows pending waiting (place ps) true) words)
trailing_fails [] rows pending waiting ps fails = at_end (at rows pending waiting (place ps) true) fails
trailing_fails (word ∷ words) rows pending waiting ps fails =
    at_word (at rows pending waiting (place ps) true) word words
    (subst Fails (sym (trailing_turn rows pending waiting (place ps) word ∙ value_fault ps (held rows pending))) fails)

-- the rule on short words, at one word and those behind it
no_short_here : (word : Text) (words : List Text) → bytes_eq word end_word ≡ false → has_short (word ∷ words) ≡ false
    → (is_short word || has_short words) ≡ false
no_short_here word words no_end none = ap (λ b. cond b false (is_short word || has_short words)) (sym no_end) ∙ none

no_short_then : (word : Text) (words : List Text) → bytes_eq word end_word ≡ false → has_short (word ∷ words) ≡ false
    → has_short words ≡ false
no_short_then word words no_end none = go (is_short word) (no_short_here word words no_end none)
  where
    go : (b : Bool) → (b || has_short words) ≡ false → has_short words ≡ false
    go true e = absurd (true≢false e)
    go false e = e

short_here : (word : Text) (words : List Text) → is_short word ≡ true → bytes_eq word end_word ≡ false
    → has_short (word ∷ words) ≡ false → ⊥
short_here word words short no_end none = true≢false (ap (λ b. b || has_short words) (sym short) ∙ no_short_here word words no_end none)

long_refused : (x : ℕ) (xs : Text) (rows : List Row) (pending : Pending) (waiting : Waiting) (p : ℕ)
    → Fails (settle_fault rules false (held rows pending))
    → Fails (turn_fault shape [] (at rows pending waiting p false) (dashed (x ∷ xs)))
long_refused x xs rows pending waiting p fails = go (cut_of x xs)
  where
    go : Cut (x ∷ xs) → Fails (turn_fault shape [] (at rows pending waiting p false) (dashed (x ∷ xs)))
    go (whole is none) = long_fails (dashed (x ∷ xs)) (x ∷ xs) None refl is rows pending waiting p
        (long_settles (arg_by_long rules (x ∷ xs)) None (held rows pending) fails)
    go (parts name v is cut has) =
        long_fails (dashed (x ∷ xs)) name (Some v) refl is rows pending waiting p
        (long_settles (arg_by_long rules name) (Some v) (held rows pending) fails)

never_settles : (words : List Text) (rows : List Row) (pending : Pending) (waiting : Waiting) (ps : List Text) → is_free waiting ≡ true
    → has_short words ≡ false
    → Fails (settle_fault rules false (held rows pending)) → Fails (fault_from (at rows pending waiting (place ps) false) words)
never_settles [] rows pending waiting ps free none fails = at_end (at rows pending waiting (place ps) false) fails
never_settles (word ∷ words) rows pending waiting ps free none fails = go (form_of word)
  where
    go : Form word → Fails (fault_from (at rows pending waiting (place ps) false) (word ∷ words))
    go (a_plain plain no_dash) =
        at_word (at rows pending waiting (place ps) false) word words
        (subst Fails (sym (plain_turn rows pending waiting (place ps) word free plain ∙ value_fault ps (held rows pending))) fails)
    go (an_end is) =
        subst (λ w. Fails (fault_from (at rows pending waiting (place ps) false) (w ∷ words))) (sym is)
        (past_word None (at rows pending waiting (place ps) false) (at rows pending waiting (place ps) true) end_word words
        (end_turn rows pending waiting (place ps)) (end_walked rows pending waiting (place ps))
        (trailing_fails words rows pending waiting ps fails))
    go (a_long x xs is) =
        subst (λ w. Fails (fault_from (at rows pending waiting (place ps) false) (w ∷ words))) (sym is)
        (at_word (at rows pending waiting (place ps) false) (dashed (x ∷ xs)) words
        (long_refused x xs rows pending waiting (place ps) fails))
    go (a_short short no_end) = absurd (short_here word words short no_end none)

-- ---- the words from here on

-- the walk where no option waits for its value, and where one does
abbrev pub from_line : List Row → Pending → Waiting → Line → Walk
from_line rows pending waiting line = at rows pending waiting (place line.positionals) false

abbrev pub from_option : Asked → List Row → Line → Walk
from_option x rows line = at rows (Some (name_of x, [])) (option (name_of x)) (place line.positionals) false

-- these words are read from there as the grammar says
abbrev pub ReadsFree : List Text → List Row → Pending → Waiting → Line → Type 0
ReadsFree words rows pending waiting line = ReadsAt (line_after words None line) (from_line rows pending waiting line) words

abbrev pub ReadsBegun : List Text → Asked → List Row → Line → Type 0
ReadsBegun words x rows line = ReadsAt (line_after words (Some (dashed (name_of x))) line) (from_option x rows line) words

-- the words are read as the grammar says, where no option waits for its value and where one does
pub record ReadsOn (words : List Text) : Type 0 where
  pub free : (rows : List Row) (pending : Pending) (waiting : Waiting) (line : Line) → Stands rows pending line → is_free waiting ≡ true
      → ReadsFree words rows pending waiting line
  pub begun : (x : Asked) (rows : List Row) (line : Line) → Holds rows line
      → ReadsBegun words x rows line

-- an option takes no place of a positional
same_place : (x : Asked) (v : Text) (line : Line) → place (with_value x v line).positionals ≡ place line.positionals
same_place plan v line = refl
same_place workers v line = refl
same_place rounds v line = refl
same_place keep v line = refl
same_place trace v line = refl

-- nor does a flag
same_place-flag : (f : Flag) (line : Line) → place (flagged f line).positionals ≡ place line.positionals
same_place-flag history_flag line = refl
same_place-flag live_flag line = refl

no_flag_name : (x : Asked) → NamesNoFlag (name_of x)
no_flag_name plan = record { no_history = refl; no_live = refl }
no_flag_name workers = record { no_history = refl; no_live = refl }
no_flag_name rounds = record { no_history = refl; no_live = refl }
no_flag_name keep = record { no_history = refl; no_live = refl }
no_flag_name trace = record { no_history = refl; no_live = refl }

-- a text with `=` is another than one without
other_parts : (text name : Text) → has_byte 61 text ≡ true → has_byte 61 name ≡ false → bytes_eq text name ≡ false
other_parts text name has none = elim (text_tells text name) [
  | inl e ↦ absurd (true≢false (sym has ∙ ap (has_byte 61) e ∙ none))
  | inr apart ↦ apart.0
]

no_flag_parts : (text : Text) → has_byte 61 text ≡ true → NamesNoFlag text
no_flag_parts text has = record {
  no_history = other_parts text (codes "history") has refl;
  no_live = other_parts text (codes "live") has refl;
}

-- what comes of a line that the grammar equals to another
as_line : (a b : Option Line) (w : Walk) (words : List Text) → a ≡ b → ReadsAt b w words → ReadsAt a w words
as_line a b w words same reads = subst (λ line. ReadsAt line w words) (sym same) reads

module _ (words : List Text) (rows : List Row) (pending : Pending) (waiting : Waiting) (line : Line)
    (stands : Stands rows pending line) where
  end_read : ReadsFree (end_word ∷ words) rows pending waiting line
  unfolding line_after
  end_read =
      let ps = line.positionals in
      past_word (Some (with_positionals words line)) (at rows pending waiting (place ps) false)
      (at rows pending waiting (place ps) true) end_word words
      (end_turn rows pending waiting (place ps)) (end_walked rows pending waiting (place ps))
      (trailing_reads words rows pending waiting ps line stands)

module _ (words : List Text) (on : ReadsOn words) (rows : List Row) (pending : Pending) (waiting : Waiting) (line : Line)
    (stands : Stands rows pending line)
    (free : is_free waiting ≡ true) where
  plain_read : (word : Text) → IsPlain word → is_dashed word ≡ false → ReadsFree (word ∷ words) rows pending waiting line
  plain_read word plain no_dash =
      let ps = line.positionals in
      let more = with_positionals (word ∷ []) line in
      let after = Some (text_of (id_next ps), word ∷ []) in
      let here = at rows pending waiting (place ps) false in
      let there = at_place (line_after words None more) (settled_rows rules pending rows) after (wait_next ps)
      (place (ps ++ word ∷ [])) 2 false words (place_more ps word)
      (on.free (settled_rows rules pending rows) after (wait_next ps) more
      (positional_stands ps line (settled_rows rules pending rows) word stands.says) (wait_is_free ps)) in
      let said : after_word word None line ≡ Some (more, None) =
      ap (λ b. cond (not b) (Some (with_positionals (word ∷ []) line, None))
      (cond (is_word word (codes "--history")) (option_map (λ l. (l, None)) (with_history line))
      (cond (is_word word (codes "--live")) (option_map (λ l. (l, None)) (with_live line))
      (with_dashed word (assigned word) line)))) no_dash in
      as_line (line_after (word ∷ words) None line) (line_after words None more) here (word ∷ words)
      (next_word word words None line (more, None) plain.no_end said)
      (past_word (line_after words None more) here (at (settled_rows rules pending rows) after (wait_next ps) 2 false) word words
      (plain_turn rows pending waiting (place ps) word free plain ∙ value_fault ps (held rows pending) ∙ stands.passes)
      (plain_walked rows pending waiting (place ps) word free plain ∙ value_walked ps rows pending waiting false word) there)

  -- a word that begins with `--`, by the name that it has
  module _ (x : ℕ) (xs : Text) where
    refused : line_after (dashed (x ∷ xs) ∷ words) None line ≡ None
        → Fails (turn_fault shape [] (from_line rows pending waiting line) (dashed (x ∷ xs)))
        → ReadsFree (dashed (x ∷ xs) ∷ words) rows pending waiting line
    refused none fails =
        let here = from_line rows pending waiting line in
        as_line (line_after (dashed (x ∷ xs) ∷ words) None line) None here (dashed (x ∷ xs) ∷ words) none
        (at_word here (dashed (x ∷ xs)) words fails)

    passed : (next : Line) (said : Option Text) (after : Walk) → after_word (dashed (x ∷ xs)) None line ≡ Some (next, said)
        → turn_fault shape [] (from_line rows pending waiting line) (dashed (x ∷ xs)) ≡ []
        → walked rules [] (from_line rows pending waiting line) (dashed (x ∷ xs)) ≡ after
        → ReadsAt (line_after words said next) after words
        → ReadsFree (dashed (x ∷ xs) ∷ words) rows pending waiting line
    passed next said after says turn is reads =
        let here = from_line rows pending waiting line in
        as_line (line_after (dashed (x ∷ xs) ∷ words) None line) (line_after words said next) here (dashed (x ∷ xs) ∷ words)
        (next_word (dashed (x ∷ xs)) words None line (next, said) refl says)
        (past_word (line_after words said next) here after (dashed (x ∷ xs)) words turn is reads)

    by_parts : (o : Option (Text × Text)) → NamesNoFlag (x ∷ xs) → assigned (dashed (x ∷ xs)) ≡ o
        → after_word (dashed (x ∷ xs)) None line ≡ with_dashed (dashed (x ∷ xs)) o line
    by_parts o no_flag is =
        ap₂ (λ a b. cond a (option_map (λ l. (l, None)) (with_history line)) (cond b (option_map (λ l. (l, None)) (with_live line))
        (with_dashed (dashed (x ∷ xs)) (assigned (dashed (x ∷ xs))) line))) no_flag.no_history no_flag.no_live
        ∙ ap (λ o. with_dashed (dashed (x ∷ xs)) o line) is

    -- with no `=`
    module _ (is_long : long_of (dashed (x ∷ xs)) ≡ Some (x ∷ xs, None)) (no_parts : assigned (dashed (x ∷ xs)) ≡ None) where
      begun_read : (y : Asked) → x ∷ xs ≡ name_of y → ReadsFree (dashed (x ∷ xs) ∷ words) rows pending waiting line
      begun_read y same =
          let p = place line.positionals in
          let found : arg_by_long rules (x ∷ xs) ≡ Some (rule_of (ours.option y)) = ap (arg_by_long rules) same ∙ by_long y in
          let no_flag : NamesNoFlag (x ∷ xs) = subst NamesNoFlag (sym same) (no_flag_name y) in
          let after = at (settled_rows rules pending rows) (Some (name_of y, [])) (option (name_of y)) p false in
          passed line (Some (dashed (x ∷ xs))) after (by_parts None no_flag no_parts)
          (begun_turn (dashed (x ∷ xs)) (x ∷ xs) refl is_long rows pending waiting p y found ∙ ap (λ k. or_else k []) stands.passes)
          (begun_walked (dashed (x ∷ xs)) (x ∷ xs) refl is_long rows pending waiting p y found)
          (as_line (line_after words (Some (dashed (x ∷ xs))) line) (line_after words (Some (dashed (name_of y))) line) after words
          (ap (λ t. line_after words (Some (dashed t)) line) same) (on.begun y (settled_rows rules pending rows) line stands.says))

      flag_read : (f : Flag) → x ∷ xs ≡ flag_name f → ReadsFree (dashed (x ∷ xs) ∷ words) rows pending waiting line
      flag_read f same = go (given f line) refl
        where
          found : arg_by_long rules (x ∷ xs) ≡ Some (flag_with (flag_name f))
          found = ap (arg_by_long rules) same ∙ by_long-flag f

          says : (b : Bool) → given f line ≡ b
              → after_word (dashed (x ∷ xs)) None line ≡ option_map (λ l. (l, None)) (cond b None (Some (flagged f line)))
          says b is = ap (λ t. after_word (dashed t) None line) same ∙ flag_first f line
              ∙ ap (λ b. option_map (λ l. (l, None)) (cond b None (Some (flagged f line)))) is

          turn : turn_fault shape [] (from_line rows pending waiting line) (dashed (x ∷ xs))
              ≡ or_else (or_else (settle_fault rules false (held rows pending))
              (use_fault false (flag_with (flag_name f)) [] (settled_rows rules pending rows))) []
          turn = flag_turn (dashed (x ∷ xs)) (x ∷ xs) refl is_long rows pending waiting (place line.positionals) (flag_name f) found

          go : (b : Bool) → given f line ≡ b → ReadsFree (dashed (x ∷ xs) ∷ words) rows pending waiting line
          go true is =
              let uses = use_fault false (flag_with (flag_name f)) [] (settled_rows rules pending rows) in
              let settle = settle_fault rules false (held rows pending) in
              refused (no_word (dashed (x ∷ xs)) words None line refl (says true is))
              (subst Fails (sym turn)
              (fails_first (or_else settle uses) []
              (fails_then settle uses (flag_fails (settled_rows rules pending rows) line f stands.says is))))
          go false is =
              let rows' = used (flag_with (flag_name f)) [] (settled_rows rules pending rows) in
              let more = flagged f line in
              passed more None (at rows' None idle (place line.positionals) false) (says false is)
              (turn ∙ ap₂ (λ a b. or_else (or_else a b) []) stands.passes
              (flag_passes (settled_rows rules pending rows) line f stands.says is))
              (flag_walked (dashed (x ∷ xs)) (x ∷ xs) refl is_long rows pending waiting (place line.positionals) (flag_name f) found)
              (at_place (line_after words None more) rows' None idle (place more.positionals) (place line.positionals) false words
              (same_place-flag f line)
              (on.free rows' None idle more
              (record { says = flag_says (settled_rows rules pending rows) line f stands.says is; passes = refl }) refl))

      unknown_read : IsUnknown (x ∷ xs) → ReadsFree (dashed (x ∷ xs) ∷ words) rows pending waiting line
      unknown_read none =
          let no_such : Fails (kind.UnknownArgument ∷ []) = λ e. cc in
          refused
          (next_word (dashed (x ∷ xs)) words None line (line, Some (dashed (x ∷ xs))) refl (by_parts None none.no_flag no_parts)
          ∙ never_read words (dashed (x ∷ xs)) line (λ v. none.no_option v line))
          (long_fails (dashed (x ∷ xs)) (x ∷ xs) None refl is_long rows pending waiting (place line.positionals)
          (subst (λ o. Fails (long_fault rules false o None (held rows pending))) (sym none.not_found) no_such))

    -- with its value behind the first `=`
    module _ (name v : Text) (is_long : long_of (dashed (x ∷ xs)) ≡ Some (name, Some v)) (is_cut : assigned (dashed (x ∷ xs))
        ≡ Some (dashed name, v))
        (no_flag : NamesNoFlag (x ∷ xs)) where
      given_read : (y : Asked) → name ≡ name_of y → ReadsFree (dashed (x ∷ xs) ∷ words) rows pending waiting line
      given_read y same = go (value_of y line) refl
        where
          found : arg_by_long rules name ≡ Some (rule_of (ours.option y))
          found = ap (arg_by_long rules) same ∙ by_long y

          says : (o : Option Line) → with_option (dashed (name_of y)) v line ≡ o
              → after_word (dashed (x ∷ xs)) None line ≡ option_map (λ l. (l, None)) o
          says o is = by_parts (Some (dashed name, v)) no_flag is_cut
              ∙ ap (λ t. option_map (λ l. (l, None)) (with_option (dashed t) v line)) same ∙ ap (option_map (λ l. (l, None))) is

          turn : turn_fault shape [] (from_line rows pending waiting line) (dashed (x ∷ xs))
              ≡ or_else (or_else (settle_fault rules false (held rows pending))
              (use_fault false (rule_of (ours.option y)) (v ∷ []) (settled_rows rules pending rows))) []
          turn = given_turn (dashed (x ∷ xs)) name v refl is_long rows pending waiting (place line.positionals) y found

          go : (o : Option Text) → value_of y line ≡ o → ReadsFree (dashed (x ∷ xs) ∷ words) rows pending waiting line
          go None is =
              let rows' = used (rule_of (ours.option y)) (v ∷ []) (settled_rows rules pending rows) in
              let more = with_value y v line in
              passed more None (at rows' None idle (place line.positionals) false) (says (Some more) (option_first y v line is))
              (turn ∙ ap₂ (λ a b. or_else (or_else a b) []) stands.passes
              (option_passes (settled_rows rules pending rows) line y v stands.says is))
              (given_walked (dashed (x ∷ xs)) name v refl is_long rows pending waiting (place line.positionals) y found)
              (at_place (line_after words None more) rows' None idle (place more.positionals) (place line.positionals) false words
              (same_place y v line)
              (on.free rows' None idle more
              (record { says = option_says (settled_rows rules pending rows) line y v stands.says is; passes = refl }) refl))
          go (Some had) is =
              let uses = use_fault false (rule_of (ours.option y)) (v ∷ []) (settled_rows rules pending rows) in
              let settle = settle_fault rules false (held rows pending) in
              refused (no_word (dashed (x ∷ xs)) words None line refl (says None (option_again y v had line is)))
              (subst Fails (sym turn)
              (fails_first (or_else settle uses) []
              (fails_then settle uses (option_fails (settled_rows rules pending rows) line y v stands.says had is))))

      none_read : with_option (dashed name) v line ≡ None → (o : Option Rule) → arg_by_long rules name ≡ o
          → Fails (long_fault rules false o (Some v) (held rows pending))
          → ReadsFree (dashed (x ∷ xs) ∷ words) rows pending waiting line
      none_read none o found fails =
          refused
          (no_word (dashed (x ∷ xs)) words None line refl (by_parts (Some (dashed name, v)) no_flag is_cut
          ∙ ap (option_map (λ l. (l, None))) none))
          (long_fails (dashed (x ∷ xs)) name (Some v) refl is_long rows pending waiting (place line.positionals)
          (subst (λ o. Fails (long_fault rules false o (Some v) (held rows pending))) (sym found) fails))

    long_read : ReadsFree (dashed (x ∷ xs) ∷ words) rows pending waiting line
    long_read = go (cut_of x xs)
      where
        no_such : Fails (kind.UnknownArgument ∷ [])
        no_such = λ e. cc

        too_many : Fails (kind.TooManyValues ∷ [])
        too_many = λ e. cc

        at_name : (o : Option Text) → Named (x ∷ xs) → long_of (dashed (x ∷ xs)) ≡ Some (x ∷ xs, None) → assigned (dashed (x ∷ xs)) ≡ None
            → ReadsFree (dashed (x ∷ xs) ∷ words) rows pending waiting line
        at_name o (asks y same) is none = begun_read is none y same
        at_name o (a_flag f same) is none = flag_read is none f same
        at_name o (unknown none_such) is none = unknown_read is none none_such

        at_parts : (name v : Text) → Named name → long_of (dashed (x ∷ xs)) ≡ Some (name, Some v)
            → assigned (dashed (x ∷ xs)) ≡ Some (dashed name, v)
            → NamesNoFlag (x ∷ xs)
            → ReadsFree (dashed (x ∷ xs) ∷ words) rows pending waiting line
        at_parts name v (asks y same) is cut no_flag = given_read name v is cut no_flag y same
        at_parts name v (a_flag f same) is cut no_flag =
            none_read name v is cut no_flag (ap (λ t. with_option (dashed t) v line) same ∙ flag_alone f v line)
            (Some (flag_with (flag_name f))) (ap (arg_by_long rules) same ∙ by_long-flag f) too_many
        at_parts name v (unknown none_such) is cut no_flag =
            none_read name v is cut no_flag (none_such.no_option v line) None none_such.not_found no_such

        go : Cut (x ∷ xs) → ReadsFree (dashed (x ∷ xs) ∷ words) rows pending waiting line
        go (whole is none) = at_name None (named (x ∷ xs)) is none
        go (parts name v is cut has) = at_parts name v (named name) is cut (no_flag_parts (x ∷ xs) has)

-- ---- one more word

free_read : (word : Text) (words : List Text) → (has_short words ≡ false → ReadsOn words) → has_short (word ∷ words) ≡ false
    → (rows : List Row) (pending : Pending)
    (waiting : Waiting) (line : Line) → Stands rows pending line → is_free waiting ≡ true
    → ReadsFree (word ∷ words) rows pending waiting line
free_read word words on none rows pending waiting line stands free = go (form_of word)
  where
    go : Form word → ReadsFree (word ∷ words) rows pending waiting line
    go (a_plain plain no_dash) =
        plain_read words (on (no_short_then word words plain.no_end none)) rows pending waiting line stands free word plain no_dash
    go (an_end is) =
        subst (λ w. ReadsFree (w ∷ words) rows pending waiting line) (sym is)
        (end_read words rows pending waiting line stands)
    go (a_long x xs is) =
        let no_end : bytes_eq word end_word ≡ false = ap (λ w. bytes_eq w end_word) is in
        subst (λ w. ReadsFree (w ∷ words) rows pending waiting line) (sym is)
        (long_read words (on (no_short_then word words no_end none)) rows pending waiting line stands free x xs)
    go (a_short short no_end) = absurd (short_here word words short no_end none)

-- where an option waits, a word that begins with `-` is no value of it
dashed_refused : (word : Text) (words : List Text) (x : Asked) (line : Line) → is_dashed word ≡ true
    → line_after (word ∷ words) (Some (dashed (name_of x))) line ≡ None
dashed_refused word words x line is =
    no_word word words (Some (dashed (name_of x))) line refl
    (ap (λ b. cond b None (option_map (λ l. (l, None)) (with_option (dashed (name_of x)) word line))) is)

value_read : (word : Text) (words : List Text) → IsPlain word → is_dashed word ≡ false → has_short words ≡ false → ReadsOn words
    → (x : Asked) (rows : List Row) (line : Line) → Holds rows line
    → ReadsBegun (word ∷ words) x rows line
value_read word words plain no_dash none on x rows line holds = go (value_of x line) refl
  where
    says : (o : Option Line) → with_option (dashed (name_of x)) word line ≡ o
        → after_word word (Some (dashed (name_of x))) line ≡ option_map (λ l. (l, None)) o
    says o is = ap (λ b. cond b None (option_map (λ l. (l, None)) (with_option (dashed (name_of x)) word line))) no_dash
        ∙ ap (option_map (λ l. (l, None))) is

    past : (o : Option Line) → line_after (word ∷ words) (Some (dashed (name_of x))) line ≡ o
        → ReadsAt o (at rows (Some (name_of x, word ∷ [])) idle (place line.positionals) false) words
        → ReadsBegun (word ∷ words) x rows line
    past o is reads =
        let here = from_option x rows line in
        as_line (line_after (word ∷ words) (Some (dashed (name_of x))) line) o here (word ∷ words) is
        (past_word o here (at rows (Some (name_of x, word ∷ [])) idle (place line.positionals) false) word words
        (value_turn word rows x (place line.positionals) plain) (value_taken word rows x (place line.positionals) plain) reads)

    go : (o : Option Text) → value_of x line ≡ o
        → ReadsBegun (word ∷ words) x rows line
    go None is =
        let more = with_value x word line in
        let after = Some (name_of x, word ∷ []) in
        past (line_after words None more)
        (next_word word words (Some (dashed (name_of x))) line (more, None) refl (says (Some more) (option_first x word line is)))
        (at_place (line_after words None more) rows after idle (place more.positionals) (place line.positionals) false words
        (same_place x word line)
        (on.free rows after idle more (pending_stands rows line x word holds is) refl))
    go (Some had) is =
        past None (no_word word words (Some (dashed (name_of x))) line refl (says None (option_again x word had line is)))
        (never_settles words rows (Some (name_of x, word ∷ [])) idle line.positionals refl none
        (pending_fails rows line x word holds had is))

begun_value : (word : Text) (words : List Text) → (has_short words ≡ false → ReadsOn words) → has_short (word ∷ words) ≡ false
    → (x : Asked) (rows : List Row) (line : Line) → Holds rows line
    → ReadsBegun (word ∷ words) x rows line
begun_value word words on none x rows line holds = go (form_of word)
  where
    pending : Option (Text × List Text)
    pending = Some (name_of x, [])

    no_value : (w : Text) → is_dashed w ≡ true → Fails (fault_from (from_option x rows line) (w ∷ words))
        → ReadsBegun (w ∷ words) x rows line
    no_value w is fails =
        as_line (line_after (w ∷ words) (Some (dashed (name_of x))) line) None (from_option x rows line) (w ∷ words)
        (dashed_refused w words x line is) fails

    go : Form word
        → ReadsBegun (word ∷ words) x rows line
    go (a_plain plain no_dash) =
        let rest = no_short_then word words plain.no_end none in
        value_read word words plain no_dash rest (on rest) x rows line holds
    go (an_end is) =
        let here = from_option x rows line in
        subst (λ w. ReadsBegun (w ∷ words) x rows line) (sym is)
        (no_value end_word refl
        (past_word None here (at rows (Some (name_of x, [])) (option (name_of x)) (place line.positionals) true) end_word words
        (end_turn rows (Some (name_of x, [])) (option (name_of x)) (place line.positionals))
        (end_walked rows (Some (name_of x, [])) (option (name_of x)) (place line.positionals))
        (trailing_fails words rows (Some (name_of x, [])) (option (name_of x)) line.positionals (waiting_fails rows x))))
    go (a_long y ys is) =
        let here = from_option x rows line in
        subst (λ w. ReadsBegun (w ∷ words) x rows line) (sym is)
        (no_value (dashed (y ∷ ys)) refl (at_word here (dashed (y ∷ ys)) words
        (long_refused y ys rows (Some (name_of x, [])) (option (name_of x)) (place line.positionals) (waiting_fails rows x))))
    go (a_short short no_end) = absurd (short_here word words short no_end none)

-- ---- all the words

nothing_read : ReadsOn []
unfolding line_after
nothing_read = record {
  free = λ rows pending waiting line stands free. end_reads rows pending waiting (place line.positionals) false line stands;
  begun = λ x rows line holds. at_end (from_option x rows line) (waiting_fails rows x);
}

reads_on : (words : List Text) → has_short words ≡ false → ReadsOn words
reads_on [] none = nothing_read
reads_on (word ∷ words) none =
    record { free = free_read word words (reads_on words) none; begun = begun_value word words (reads_on words) none }

no_rows : Holds [] no_words
no_rows mode = refl
no_rows args = refl
no_rows plan_id = refl
no_rows workers_id = refl
no_rows rounds_id = refl
no_rows keep_id = refl
no_rows trace_id = refl
no_rows history = refl
no_rows live = refl

-- where no short word stands before the first `--`, `clap` takes the words that are a line, and finds that line
pub clap_reads : (words : List Text) → has_short words ≡ false
    → Reads (line_of words) (fault_of mill_app words) (matches_of mill_app words)
clap_reads words none =
    let fault_is : fault_of mill_app words ≡ level_fault shape [] nothing_held words false [] =
    ap (λ a. built_fault a nothing_held words) built_is ∙ leaf_fault (record { top = shape; subs = [] }) nothing_held words refl in
    let rows_are : matches_of mill_app words ≡ rows_after rules [] words =
    ap (λ (a : App). rows_after a.top.rules (names_of a) words) built_is in
    subst (λ kinds. Reads (line_of words) kinds (matches_of mill_app words)) (sym fault_is)
    (subst (λ rows. Reads (line_of words) (level_fault shape [] nothing_held words false []) rows) (sym rows_are)
    ((reads_on words none).free [] None idle no_words (record { says = no_rows; passes = refl }) refl))
