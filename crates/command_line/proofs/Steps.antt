-- The walk of `clap` over the words, a word at a time.
use Rattle.std.proofs.Common.{◌≡◌, ◌∙◌, ◌&&◌, Bool, true, false, true≢false, cond, ℕ, List, [], ◌∷◌, Option, Some, None, refl, sym, ap, ap₂, subst, is_some, codes}
use Rattle.std.specs.List.{fold}
use Rattle.std.specs.Option.{option_map_or}
use Rattle.std.specs.Str.{bytes_eq}
use Rattle.clap.specs.Lexer.{long_of, short_of}
use Rattle.clap.specs.Walk.{Held, Outcome, Row, Rule, Step, Text, Waiting, Walk, after_flag, after_step, arg_by_id, arg_by_index, arg_by_long, finished, has_row, idle, is_pending, long_or_other, long_met, long_word, option, option_word, plain_word, positional, positional_held, pushed, reacted, done, waits, settled, settled_rows, short_or_plain, takes_several, takes_values, to_positional, trailing, used, used_by_id, value, walk_from, walked, with_default, word_met, nothing_held}
use Rattle.clap.specs.Faults.{check_fault, defaults_fault, long_fault, option_fault, react_fault, positional_fault, settle_fault, step_fault, stray_fault, turn_fault, use_fault, walk_fault, word_fault}
use Rattle.clap.specs.Kinds.{Kinds, or_else}
use Rattle.clap.specs.declared.error.kind.ErrorKind.TheVariants as kind
use Rattle.command_line.specs.Clap.{IsLineIn}
use Rattle.command_line.specs.declared.line.Line.{Line}
use Rattle.command_line.proofs.Rules.{Asked, Id, mode, args, by_id, by_long, first_place, flag_with, name_of, rule_of, rules, second_place, shape, text_of}
use Rattle.command_line.proofs.Rules as ours

-- ---- kinds of error

abbrev pub Fails : Kinds → Type 0
Fails kinds = kinds ≡ [] → ⊥

pub fails_first : (a b : Kinds) → Fails a → Fails (or_else a b)
fails_first [] b h e = h refl
fails_first (k ∷ ks) b h e = h e

pub fails_then : (a b : Kinds) → Fails b → Fails (or_else a b)
fails_then [] b h e = h e
fails_then (k ∷ ks) b h e = cc

-- ---- the walk

-- the argument whose values are being read, with those that it has
abbrev pub Pending : Type 0
Pending = Option (Text × List Text)

abbrev pub held : List Row → Pending → Held
held rows pending = record { rows = rows; pending = pending; skip = 0 }

-- where the walk stands between two words
abbrev pub at : List Row → Pending → Waiting → ℕ → Bool → Walk
at rows pending waiting position is_trailing =
    record { held = held rows pending; waiting = waiting; position = position; is_trailing = is_trailing; stopped = None }

abbrev pub end_of : Walk → List Text → Held
end_of w words = (fold (walked rules []) w words).held

abbrev pub fault_at_end : Held → Kinds
fault_at_end h = or_else (settle_fault rules false h)
    (or_else (defaults_fault (settled rules h).rows rules) (check_fault shape (finished rules h) false))

-- the kinds that the words from here on bring
abbrev pub fault_from : Walk → List Text → Kinds
fault_from w words = or_else (walk_fault shape [] w words) (fault_at_end (end_of w words))

-- the rows after these words
abbrev pub rows_from : Walk → List Text → List Row
rows_from w words = finished rules (end_of w words)

-- the words are refused, or the line is found
abbrev pub Reads : Option Line → Kinds → List Row → Type 0
Reads None kinds rows = Fails kinds
Reads (Some line) kinds rows = (kinds ≡ []) × IsLineIn rows line

abbrev pub ReadsAt : Option Line → Walk → List Text → Type 0
ReadsAt line w words = Reads line (fault_from w words) (rows_from w words)

pub past_word : (line : Option Line) (w next : Walk) (word : Text) (words : List Text) → turn_fault shape [] w word ≡ []
    → walked rules [] w word ≡ next
    → Reads line (fault_from next words) (rows_from next words) → Reads line (fault_from w (word ∷ words)) (rows_from w (word ∷ words))
unfolding walk_fault
past_word line w next word words none is reads =
    let rest : Reads line (fault_from (walked rules [] w word) words) (rows_from (walked rules [] w word) words) =
    subst (λ v. Reads line (fault_from v words) (rows_from v words)) (sym is) reads in
    let same : fault_from w (word ∷ words) ≡ fault_from (walked rules [] w word) words =
    ap (λ k. or_else (or_else k (walk_fault shape [] (walked rules [] w word) words))
    (fault_at_end (end_of (walked rules [] w word) words))) none in
    subst (λ k. Reads line k (rows_from w (word ∷ words))) (sym same) rest

pub at_word : (w : Walk) (word : Text) (words : List Text) → Fails (turn_fault shape [] w word) → Fails (fault_from w (word ∷ words))
unfolding walk_fault
at_word w word words fails =
    fails_first (walk_fault shape [] w (word ∷ words)) (fault_at_end (end_of w (word ∷ words)))
    (fails_first (turn_fault shape [] w word) (walk_fault shape [] (walked rules [] w word) words) fails)

-- where an argument cannot take the values that it has, the end of the words is refused
pub at_end : (w : Walk) → Fails (settle_fault rules false w.held) → Fails (fault_from w [])
unfolding walk_fault
at_end w fails = fails_first (settle_fault rules false w.held)
    (or_else (defaults_fault (settled rules w.held).rows rules) (check_fault shape (finished rules w.held) false)) fails

-- ---- the forms of a word

abbrev pub end_word : Text
end_word = 45 ∷ 45 ∷ []

-- a word that is no flag, and is not `--`
pub record IsPlain (word : Text) : Type 0 where
  pub no_end : bytes_eq word end_word ≡ false
  pub no_long : long_of word ≡ None
  pub no_short : short_of word ≡ None

-- no option waits for a value
abbrev pub is_free : Waiting → Bool
is_free idle = true
is_free (option id) = false
is_free positional = true

plain_met : (rows : List Row) (pending : Pending) (waiting : Waiting) (p : ℕ) (word : Text) → is_free waiting ≡ true → IsPlain word
    → word_met rules [] false waiting p word (held rows pending) ≡ (held rows pending, value)
plain_met rows pending idle p word free plain = rw (plain.no_end, plain.no_long, plain.no_short) refl
plain_met rows pending (option id) p word free plain = absurd (true≢false (sym free))
plain_met rows pending positional p word free plain = rw (plain.no_end, plain.no_long, plain.no_short) refl

plain_passes : (h : Held) (waiting : Waiting) (word : Text) → IsPlain word → word_fault shape [] false waiting word h ≡ []
plain_passes h idle word plain = rw (plain.no_end, plain.no_long, plain.no_short) refl
plain_passes h (option id) word plain = rw (plain.no_end, plain.no_long, plain.no_short) refl
plain_passes h positional word plain = rw (plain.no_end, plain.no_long, plain.no_short) refl

pub plain_turn : (rows : List Row) (pending : Pending) (waiting : Waiting) (p : ℕ) (word : Text) → is_free waiting ≡ true → IsPlain word
    → turn_fault shape [] (at rows pending waiting p false) word ≡ step_fault shape p (held rows pending) value
plain_turn rows pending waiting p word free plain =
    ap₂ (λ k (met : Held × Step). or_else k (step_fault shape p met.0 met.1)) (plain_passes (held rows pending) waiting word plain)
    (plain_met rows pending waiting p word free plain)

pub plain_walked : (rows : List Row) (pending : Pending) (waiting : Waiting) (p : ℕ) (word : Text) → is_free waiting ≡ true → IsPlain word
    → walked rules [] (at rows pending waiting p false) word
    ≡ to_positional rules (arg_by_index rules p) word (at rows pending waiting p false) (held rows pending)
unfolding walked
plain_walked rows pending waiting p word free plain =
    ap (λ (met : Held × Step). after_step rules word (at rows pending waiting p false) met.0 met.1)
    (plain_met rows pending waiting p word free plain)

-- after `--` each word goes to a positional
pub trailing_turn : (rows : List Row) (pending : Pending) (waiting : Waiting) (p : ℕ) (word : Text)
    → turn_fault shape [] (at rows pending waiting p true) word ≡ step_fault shape p (held rows pending) value
trailing_turn rows pending waiting p word = refl

pub trailing_walked : (rows : List Row) (pending : Pending) (waiting : Waiting) (p : ℕ) (word : Text)
    → walked rules [] (at rows pending waiting p true) word
    ≡ to_positional rules (arg_by_index rules p) word (at rows pending waiting p true) (held rows pending)
unfolding walked
trailing_walked rows pending waiting p word = refl

-- `--`
pub end_turn : (rows : List Row) (pending : Pending) (waiting : Waiting) (p : ℕ)
    → turn_fault shape [] (at rows pending waiting p false) end_word ≡ []
end_turn rows pending idle p = refl
end_turn rows pending (option id) p = refl
end_turn rows pending positional p = refl

pub end_walked : (rows : List Row) (pending : Pending) (waiting : Waiting) (p : ℕ)
    → walked rules [] (at rows pending waiting p false) end_word ≡ at rows pending waiting p true
unfolding walked
end_walked rows pending idle p = refl
end_walked rows pending (option id) p = refl
end_walked rows pending positional p = refl

-- ---- a word for a positional

no_several : (b : Bool) (k : Kinds) → cond (b && false) [] k ≡ k
no_several true k = refl
no_several false k = refl

held_alone : (b : Bool) (h k : Held) → cond (b && false) h k ≡ k
held_alone true h k = refl
held_alone false h k = refl

place_fault : (p : ℕ) (a : Rule) (h : Held) → arg_by_index rules p ≡ Some a → takes_several a ≡ false
    → step_fault shape p h value ≡ settle_fault rules false h
place_fault p a h at_p alone =
    ap (λ o. option_map_or (λ x. positional_fault rules false x h) o (stray_fault shape)) at_p
    ∙ ap (λ b. cond (is_pending a h.pending && b) [] (settle_fault rules false h)) alone
    ∙ no_several (is_pending a h.pending) (settle_fault rules false h)

-- where the next positional goes
abbrev pub place : List Text → ℕ
place [] = 1
place (p ∷ ps) = 2

pub value_fault : (ps : List Text) (h : Held) → step_fault shape (place ps) h value ≡ settle_fault rules false h
value_fault [] h = place_fault 1 (rule_of mode) h first_place refl
value_fault (p ∷ ps) h = place_fault 2 (rule_of args) h second_place refl

abbrev pub id_next : List Text → Id
id_next [] = mode
id_next (p ∷ ps) = args

abbrev pub wait_next : List Text → Waiting
wait_next [] = idle
wait_next (p ∷ ps) = positional

pub wait_is_free : (ps : List Text) → is_free (wait_next ps) ≡ true
wait_is_free [] = refl
wait_is_free (p ∷ ps) = refl

abbrev stood : Text → Text → Waiting → Bool → Held → Walk
stood id word waiting t h = record { held = pushed id word h; waiting = waiting; position = 2; is_trailing = t; stopped = None }

pub value_walked : (ps : List Text) (rows : List Row) (pending : Pending) (waiting : Waiting) (t : Bool) (word : Text)
    → to_positional rules (arg_by_index rules (place ps)) word (at rows pending waiting (place ps) t) (held rows pending)
    ≡ at (settled_rows rules pending rows) (Some (text_of (id_next ps), word ∷ [])) (wait_next ps) 2 t
value_walked [] rows pending waiting t word =
    ap (λ o. to_positional rules o word (at rows pending waiting 1 t) (held rows pending)) first_place ∙ go t
  where
    go : (t : Bool) → to_positional rules (Some (rule_of mode)) word (at rows pending waiting 1 t) (held rows pending)
        ≡ at (settled_rows rules pending rows) (Some (codes "mode", word ∷ [])) idle 2 t
    go true = ap (stood (codes "mode") word idle true)
        (held_alone (is_pending (rule_of mode) pending) (held rows pending) (settled rules (held rows pending)))
    go false = ap (stood (codes "mode") word idle false)
        (held_alone (is_pending (rule_of mode) pending) (held rows pending) (settled rules (held rows pending)))
value_walked (p ∷ ps) rows pending waiting t word =
    ap (λ o. to_positional rules o word (at rows pending waiting 2 t) (held rows pending)) second_place ∙ go t
  where
    go : (t : Bool) → to_positional rules (Some (rule_of args)) word (at rows pending waiting 2 t) (held rows pending)
        ≡ at (settled_rows rules pending rows) (Some (codes "args", word ∷ [])) positional 2 t
    go true = ap (stood (codes "args") word positional true)
        (held_alone (is_pending (rule_of args) pending) (held rows pending) (settled rules (held rows pending)))
    go false = ap (stood (codes "args") word positional false)
        (held_alone (is_pending (rule_of args) pending) (held rows pending) (settled rules (held rows pending)))

-- ---- a word that begins with `--`

-- an option that is met, with a value in its word or none
abbrev pub option_met_as : Asked → Option Text → Held → Held × Outcome
option_met_as x (Some v) h = (reacted rules (rule_of (ours.option x)) (v ∷ []) h, done)
option_met_as x None h = (record (settled rules h) { pending = Some (name_of x, []) }, waits (name_of x))

option_is_met : (x : Asked) (v : Option Text) (h : Held) → long_met rules (Some (rule_of (ours.option x))) v h ≡ option_met_as x v h
option_is_met ours.plan (Some v) h = refl
option_is_met ours.plan None h = refl
option_is_met ours.workers (Some v) h = refl
option_is_met ours.workers None h = refl
option_is_met ours.rounds (Some v) h = refl
option_is_met ours.rounds None h = refl
option_is_met ours.keep (Some v) h = refl
option_is_met ours.keep None h = refl
option_is_met ours.trace (Some v) h = refl
option_is_met ours.trace None h = refl

abbrev pub option_fault_as : Asked → Option Text → Held → Kinds
option_fault_as x (Some v) h =
    or_else (settle_fault rules false h) (use_fault false (rule_of (ours.option x)) (v ∷ []) (settled rules h).rows)
option_fault_as x None h = settle_fault rules false h

option_fault_is : (x : Asked) (v : Option Text) (h : Held)
    → long_fault rules false (Some (rule_of (ours.option x))) v h ≡ option_fault_as x v h
option_fault_is ours.plan (Some v) h = refl
option_fault_is ours.plan None h = refl
option_fault_is ours.workers (Some v) h = refl
option_fault_is ours.workers None h = refl
option_fault_is ours.rounds (Some v) h = refl
option_fault_is ours.rounds None h = refl
option_fault_is ours.keep (Some v) h = refl
option_fault_is ours.keep None h = refl
option_fault_is ours.trace (Some v) h = refl
option_fault_is ours.trace None h = refl

module _ (word name : Text) (v : Option Text) (no_end : bytes_eq word end_word ≡ false) (is_long : long_of word ≡ Some (name, v)) where
  word_is_met : (h : Held) (waiting : Waiting) (p : ℕ) → word_met rules [] false waiting p word h ≡ long_word rules waiting word name v h
  word_is_met h idle p = rw (no_end, is_long) refl
  word_is_met h (option id) p = rw (no_end, is_long) refl
  word_is_met h positional p = rw (no_end, is_long) refl

  word_fails_as : (h : Held) (waiting : Waiting)
      → word_fault shape [] false waiting word h ≡ long_fault rules false (arg_by_long rules name) v h
  word_fails_as h idle = rw (no_end, is_long) refl
  word_fails_as h (option id) = rw (no_end, is_long) refl
  word_fails_as h positional = rw (no_end, is_long) refl

  pub long_fails : (rows : List Row) (pending : Pending) (waiting : Waiting) (p : ℕ)
      → Fails (long_fault rules false (arg_by_long rules name) v (held rows pending))
      → Fails (turn_fault shape [] (at rows pending waiting p false) word)
  long_fails rows pending waiting p fails =
      let h = held rows pending in
      let met = word_met rules [] false waiting p word h in
      fails_first (word_fault shape [] false waiting word h) (step_fault shape p met.0 met.1)
      (subst Fails (sym (word_fails_as h waiting)) fails)

  -- what the word comes to, by the argument that it names
  module _ (rows : List Row) (pending : Pending) (waiting : Waiting) (p : ℕ) (a : Rule) (next : Held) (after : Waiting)
      (found : arg_by_long rules name ≡ Some a)
      (met_is : after_flag rules waiting word (long_met rules (Some a) v (held rows pending)).0
      (long_met rules (Some a) v (held rows pending)).1 ≡ (next, Rattle.clap.specs.Walk.next after)) where
    met_as : word_met rules [] false waiting p word (held rows pending) ≡ (next, Rattle.clap.specs.Walk.next after)
    met_as = word_is_met (held rows pending) waiting p
        ∙ ap (λ o. after_flag rules waiting word (long_met rules o v (held rows pending)).0 (long_met rules o v (held rows pending)).1)
        found ∙ met_is

    pub long_turn : (k : Kinds) → long_fault rules false (Some a) v (held rows pending) ≡ k
        → turn_fault shape [] (at rows pending waiting p false) word ≡ or_else k []
    long_turn k is =
        ap₂ (λ k (met : Held × Step). or_else k (step_fault shape p met.0 met.1))
        (word_fails_as (held rows pending) waiting ∙ ap (λ o. long_fault rules false o v (held rows pending)) found ∙ is) met_as

    pub long_walked : walked rules [] (at rows pending waiting p false) word ≡ record {
      held = next;
      waiting = after;
      position =
          p;
      is_trailing = false;
      stopped = None;
    }
    unfolding walked
    long_walked = ap (λ (met : Held × Step). after_step rules word (at rows pending waiting p false) met.0 met.1) met_as

-- an option with its value
module _ (word name v : Text) (no_end : bytes_eq word end_word ≡ false) (is_long : long_of word ≡ Some (name, Some v))
    (rows : List Row) (pending : Pending) (waiting : Waiting) (p : ℕ) (x : Asked) (found : arg_by_long rules name
    ≡ Some (rule_of (ours.option x))) where
  given_met : after_flag rules waiting word (long_met rules (Some (rule_of (ours.option x))) (Some v) (held rows pending)).0
      (long_met rules (Some (rule_of (ours.option x))) (Some v) (held rows pending)).1
      ≡ (reacted rules (rule_of (ours.option x)) (v ∷ []) (held rows pending), Rattle.clap.specs.Walk.next idle)
  given_met = ap (λ (m : Held × Outcome). after_flag rules waiting word m.0 m.1) (option_is_met x (Some v) (held rows pending))

  pub given_turn : turn_fault shape [] (at rows pending waiting p false) word
      ≡ or_else (or_else (settle_fault rules false (held rows pending))
      (use_fault false (rule_of (ours.option x)) (v ∷ []) (settled_rows rules pending rows))) []
  given_turn = long_turn word name (Some v) no_end is_long rows pending waiting p (rule_of (ours.option x))
      (reacted rules (rule_of (ours.option x)) (v ∷ []) (held rows pending)) idle found given_met
      (option_fault_as x (Some v) (held rows pending)) (option_fault_is x (Some v) (held rows pending))

  pub given_walked : walked rules [] (at rows pending waiting p false) word
      ≡ at (used (rule_of (ours.option x)) (v ∷ []) (settled_rows rules pending rows)) None idle p false
  given_walked = long_walked word name (Some v) no_end is_long rows pending waiting p (rule_of (ours.option x))
      (reacted rules (rule_of (ours.option x)) (v ∷ []) (held rows pending)) idle found given_met

-- an option that waits for its value
module _ (word name : Text) (no_end : bytes_eq word end_word ≡ false) (is_long : long_of word ≡ Some (name, None))
    (rows : List Row) (pending : Pending) (waiting : Waiting) (p : ℕ) where
  module _ (x : Asked) (found : arg_by_long rules name ≡ Some (rule_of (ours.option x))) where
    begun_met : after_flag rules waiting word (long_met rules (Some (rule_of (ours.option x))) None (held rows pending)).0
        (long_met rules (Some (rule_of (ours.option x))) None (held rows pending)).1
        ≡ (held (settled_rows rules pending rows) (Some (name_of x, [])), Rattle.clap.specs.Walk.next (option (name_of x)))
    begun_met = ap (λ (m : Held × Outcome). after_flag rules waiting word m.0 m.1) (option_is_met x None (held rows pending))

    pub begun_turn : turn_fault shape [] (at rows pending waiting p false) word ≡ or_else (settle_fault rules false (held rows pending)) []
    begun_turn = long_turn word name None no_end is_long rows pending waiting p (rule_of (ours.option x))
        (held (settled_rows rules pending rows) (Some (name_of x, []))) (option (name_of x)) found begun_met
        (option_fault_as x None (held rows pending)) (option_fault_is x None (held rows pending))

    pub begun_walked : walked rules [] (at rows pending waiting p false) word
        ≡ at (settled_rows rules pending rows) (Some (name_of x, [])) (option (name_of x)) p false
    begun_walked = long_walked word name None no_end is_long rows pending waiting p (rule_of (ours.option x))
        (held (settled_rows rules pending rows) (Some (name_of x, []))) (option (name_of x)) found begun_met

  -- a flag
  module _ (id : Text) (found : arg_by_long rules name ≡ Some (flag_with id)) where
    pub flag_turn : turn_fault shape [] (at rows pending waiting p false) word
        ≡ or_else (or_else (settle_fault rules false (held rows pending))
        (use_fault false (flag_with id) [] (settled_rows rules pending rows))) []
    flag_turn = long_turn word name None no_end is_long rows pending waiting p (flag_with id)
        (reacted rules (flag_with id) [] (held rows pending)) idle found refl
        (or_else (settle_fault rules false (held rows pending))
        (use_fault false (flag_with id) [] (settled_rows rules pending rows))) refl

    pub flag_walked : walked rules [] (at rows pending waiting p false) word
        ≡ at (used (flag_with id) [] (settled_rows rules pending rows)) None idle p false
    flag_walked = long_walked word name None no_end is_long rows pending waiting p (flag_with id)
        (reacted rules (flag_with id) [] (held rows pending)) idle found refl

-- while an option has no value, another flag is refused
pub long_settles : (found : Option Rule) (v : Option Text) (h : Held) → Fails (settle_fault rules false h)
    → Fails (long_fault rules false found v h)
long_settles None v h fails = λ e. cc
long_settles (Some a) v h fails = go (takes_values a) v
  where
    go : (b : Bool) (v : Option Text)
        → Fails (cond b (option_fault rules false a v h) (cond (is_some v) (kind.TooManyValues ∷ []) (react_fault rules false a [] h)))
    go true None = fails
    go true (Some v) = fails_first (settle_fault rules false h) (use_fault false a (v ∷ []) (settled rules h).rows) fails
    go false None = fails_first (settle_fault rules false h) (use_fault false a [] (settled rules h).rows) fails
    go false (Some v) = λ e. cc

abbrev taken : Option Rule → Asked → Text → List Row → Held × Step
taken o x word rows =
    let after = option_word o (name_of x) word (held rows (Some (name_of x, []))) in
    (after.0, Rattle.clap.specs.Walk.next after.1)

-- the value of an option, in a word of its own
module _ (word : Text) (rows : List Row) (x : Asked) (p : ℕ) (plain : IsPlain word) where
  value_met : word_met rules [] false (option (name_of x)) p word (held rows (Some (name_of x, [])))
      ≡ (held rows (Some (name_of x, word ∷ [])), Rattle.clap.specs.Walk.next idle)
  value_met = rw (plain.no_end, plain.no_long, plain.no_short) (ap (λ o. taken o x word rows) (by_id (ours.option x)) ∙ full x)
    where
      full : (x : Asked) → ◌≡◌ {A = Held × Step} (taken (Some (rule_of (ours.option x))) x word rows)
          (held rows (Some (name_of x, word ∷ [])), Rattle.clap.specs.Walk.next idle)
      full ours.plan = refl
      full ours.workers = refl
      full ours.rounds = refl
      full ours.keep = refl
      full ours.trace = refl

  pub value_turn : turn_fault shape [] (at rows (Some (name_of x, [])) (option (name_of x)) p false) word ≡ []
  value_turn = ap₂ (λ k (met : Held × Step). or_else k (step_fault shape p met.0 met.1))
      (plain_passes (held rows (Some (name_of x, []))) (option (name_of x)) word plain) value_met

  pub value_taken : walked rules [] (at rows (Some (name_of x, [])) (option (name_of x)) p false) word
      ≡ at rows (Some (name_of x, word ∷ [])) idle p false
  unfolding walked
  value_taken = ap (λ (met : Held × Step). after_step rules word
      (at rows (Some (name_of x, [])) (option (name_of x)) p false) met.0 met.1) value_met
