-- What a line and what `clap` holds have in common between two words.
use Rattle.std.proofs.Common.{◌≡◌, ◌∙◌, ◌++◌, ◌&&◌, ◌||◌, Bool, ℕ, true, false, cond, List, [], ◌∷◌, Option, Some, None, refl, sym, ap, subst, is_some, codes}
use Rattle.std.specs.List.{fold}
use Rattle.std.specs.Option.{option_map_or, unwrap_or}
use Rattle.std.specs.Str.{bytes_eq}
use Rattle.clap.specs.Walk.{Row, Rule, Text, Waiting, default_rows, finished, has_row, is_empty, reading_by, settled_rows, used, used_by_id, with_default, with_values, without}
use Rattle.clap.specs.Faults.{check_fault, defaults_fault, given_default_fault, repeat_fault, settle_fault, use_fault, walk_fault}
use Rattle.clap.specs.Kinds.{or_else}
use Rattle.clap.specs.declared.builder.value_parser.Reading.TheVariants as reading
use Rattle.clap.specs.declared.parser.matches.ValueSource.TheVariants as source
use Rattle.clap.specs.declared.error.kind.ErrorKind.TheVariants as kind
use Rattle.command_line.specs.declared.line.Line.{Line}
use Rattle.command_line.proofs.Rules.{Asked, plan, workers, rounds, keep, trace, Id, mode, args, plan_id, workers_id, rounds_id, keep_id, trace_id, history, live, Flag, history_flag, live_flag, by_id, flag, flag_name, flag_with, name_of, option, rule_of, rules, shape, text_of}
use Rattle.command_line.proofs.Rows.{Values, has_row-seen, more, seen, seen-other, seen-more}
use Rattle.command_line.proofs.Lines.{Finds, Holds, args_held, IsNoFlag, flag_held, flag_text, flag_values, flagged, given, line_found, mode_held, option_held, shown, single, some_shown, value_of, wanted, wanted_flag, wanted_option, with_ps, with_value}
use Rattle.command_line.proofs.Steps.{Fails, Pending, Reads, at, fault_from, held, id_next, rows_from}

-- the rows, with what is pending, say what the line says, and nothing that is pending is refused
pub record Stands (rows : List Row) (pending : Pending) (line : Line) : Type 0 where
  pub says : Holds (settled_rows rules pending rows) line
  pub passes : settle_fault rules false (held rows pending) ≡ []

pub row_is : (rows : List Row) (line : Line) (i : Id) → Holds rows line → has_row (text_of i) rows ≡ is_some (wanted line i)
row_is rows line i holds = has_row-seen (text_of i) rows ∙ ap is_some (holds i) ∙ sym (some_shown (wanted line i))

some_single : (o : Option Text) → is_some (single o) ≡ is_some o
some_single None = refl
some_single (Some v) = refl

flag_row : (rows : List Row) (line : Line) (f : Flag) → Holds rows line → has_row (flag_name f) rows ≡ is_some (flag_values (given f line))
flag_row rows line f holds = row_is rows line (flag f) holds ∙ ap is_some (wanted_flag f line)

option_row : (rows : List Row) (line : Line) (x : Asked) → Holds rows line → has_row (name_of x) rows ≡ is_some (value_of x line)
option_row rows line x holds = row_is rows line (option x) holds ∙ ap is_some (wanted_option x line) ∙ some_single (value_of x line)

-- ---- an argument that is used again

absent_passes : (id : Text) (rows : List Row) → has_row id rows ≡ false → or_else (repeat_fault false id rows) [] ≡ []
absent_passes id rows absent = ap (λ b. or_else (cond (b && true) (kind.ArgumentConflict ∷ []) []) []) absent

repeat_fails : (id : Text) (rows : List Row) → has_row id rows ≡ true → Fails (or_else (repeat_fault false id rows) [])
repeat_fails id rows given =
    let is : or_else (repeat_fault false id rows) [] ≡ kind.ArgumentConflict ∷ [] =
    ap (λ b. or_else (cond (b && true) (kind.ArgumentConflict ∷ []) []) []) given in
    λ e. cc

-- ---- a use of an option

option_used : (x : Asked) (v : Text) (rows : List Row)
    → used (rule_of (option x)) (v ∷ []) rows
    ≡ with_values (name_of x) reading.AsWritten source.CommandLine (v ∷ []) (without (name_of x) rows)
option_used plan v rows = refl
option_used workers v rows = refl
option_used rounds v rows = refl
option_used keep v rows = refl
option_used trace v rows = refl

option_repeats : (x : Asked) (v : Text) (rows : List Row)
    → use_fault false (rule_of (option x)) (v ∷ []) rows ≡ or_else (repeat_fault false (name_of x) rows) []
option_repeats plan v rows = refl
option_repeats workers v rows = refl
option_repeats rounds v rows = refl
option_repeats keep v rows = refl
option_repeats trace v rows = refl

module _ (rows : List Row) (line : Line) (x : Asked) (v : Text) (holds : Holds rows line) where
  pub option_says : value_of x line ≡ None → Holds (used (rule_of (option x)) (v ∷ []) rows) (with_value x v line)
  option_says absent = subst (λ r. Holds r (with_value x v line)) (sym (option_used x v rows))
      (option_held rows line x v source.CommandLine holds absent)

  pub option_passes : value_of x line ≡ None → use_fault false (rule_of (option x)) (v ∷ []) rows ≡ []
  option_passes absent =
      option_repeats x v rows ∙ absent_passes (name_of x) rows (option_row rows line x holds ∙ ap is_some absent)

  pub option_fails : (had : Text) → value_of x line ≡ Some had → Fails (use_fault false (rule_of (option x)) (v ∷ []) rows)
  option_fails had given =
      subst Fails (sym (option_repeats x v rows)) (repeat_fails (name_of x) rows (option_row rows line x holds ∙ ap is_some given))

  -- the same, for a value in a word of its own
  pub pending_stands : value_of x line ≡ None → Stands rows (Some (name_of x, v ∷ [])) (with_value x v line)
  pending_stands absent = record {
    says = subst (λ o. Holds (used_by_id o (v ∷ []) rows) (with_value x v line)) (sym (by_id (option x))) (option_says absent);
    passes = ap (λ o. option_map_or (λ a. use_fault false a (v ∷ []) rows) o []) (by_id (option x)) ∙ option_passes absent;
  }

  pub pending_fails : (had : Text) → value_of x line ≡ Some had → Fails (settle_fault rules false (held rows (Some (name_of x, v ∷ []))))
  pending_fails had given =
      subst Fails (sym (ap (λ o. option_map_or (λ a. use_fault false a (v ∷ []) rows) o []) (by_id (option x))))
      (option_fails had given)

-- an option that has no value yet is refused
pub waiting_fails : (rows : List Row) (x : Asked) → Fails (settle_fault rules false (held rows (Some (name_of x, []))))
waiting_fails rows x = subst Fails (sym (ap (λ o. option_map_or (λ a. use_fault false a [] rows) o []) (by_id (option x)))) (empty x)
  where
    empty : (x : Asked) → Fails (use_fault false (rule_of (option x)) [] rows)
    empty plan = λ e. cc
    empty workers = λ e. cc
    empty rounds = λ e. cc
    empty keep = λ e. cc
    empty trace = λ e. cc

-- ---- a flag

module _ (rows : List Row) (line : Line) (f : Flag) (holds : Holds rows line) where
  pub flag_says : given f line ≡ false → Holds (used (flag_with (flag_name f)) [] rows) (flagged f line)
  flag_says absent = flag_held rows line f source.CommandLine holds absent

  pub flag_passes : given f line ≡ false → use_fault false (flag_with (flag_name f)) [] rows ≡ []
  flag_passes absent = absent_passes (flag_name f) rows (flag_row rows line f holds ∙ ap (λ b. is_some (flag_values b)) absent)

  pub flag_fails : given f line ≡ true → Fails (use_fault false (flag_with (flag_name f)) [] rows)
  flag_fails is = repeat_fails (flag_name f) rows (flag_row rows line f holds ∙ ap (λ b. is_some (flag_values b)) is)

-- ---- a positional

pub positional_stands : (ps : List Text) (line : Line) (rows : List Row) (word : Text) → Holds rows (with_ps ps line)
    → Stands rows (Some (text_of (id_next ps), word ∷ [])) (with_ps (ps ++ word ∷ []) line)
positional_stands [] line rows word holds = record {
  says = subst (λ o. Holds (used_by_id o (word ∷ []) rows) (with_ps (word ∷ []) line)) (sym (by_id mode))
      (mode_held rows line word source.CommandLine holds);
  passes = ap (λ o. option_map_or (λ a. use_fault false a (word ∷ []) rows) o []) (by_id mode)
      ∙ absent_passes (codes "mode") rows (row_is rows (with_ps [] line) mode holds);
}
positional_stands (p ∷ ps) line rows word holds = record {
  says = subst (λ o. Holds (used_by_id o (word ∷ []) rows) (with_ps (p ∷ (ps ++ word ∷ [])) line)) (sym (by_id args))
      (args_held rows line p ps word source.CommandLine holds);
  passes = ap (λ o. option_map_or (λ a. use_fault false a (word ∷ []) rows) o []) (by_id args);
}

-- ---- the end of the words

no_default : (a : Rule) (rows : List Row) → a.defaults ≡ [] → with_default rows a ≡ rows
no_default a rows none = ap (λ vs. cond (has_row a.id rows) rows (default_rows a.id (reading_by a) vs rows)) none ∙ go (has_row a.id rows)
  where
    go : (b : Bool) → cond b rows rows ≡ rows
    go true = refl
    go false = refl

no_default_fault : (a : Rule) (rows : List Row) (rest : List Rule) → a.defaults ≡ []
    → defaults_fault rows (a ∷ rest) ≡ defaults_fault rows rest
unfolding defaults_fault
no_default_fault a rows rest none =
    ap (λ k. or_else k (defaults_fault (with_default rows a) rest))
    (ap (λ vs. cond (has_row a.id rows || is_empty vs) [] (given_default_fault a vs)) none ∙ go (has_row a.id rows))
    ∙ ap (λ r. defaults_fault r rest) (no_default a rows none)
  where
    go : (b : Bool) → cond (b || true) [] (given_default_fault a []) ≡ []
    go true = refl
    go false = refl

past_default : (a : Rule) (rows : List Row) (rest : List Rule) → a.defaults ≡ []
    → fold with_default rows (a ∷ rest) ≡ fold with_default rows rest
past_default a rows rest none = ap (λ r. fold with_default r rest) (no_default a rows none)

abbrev from_live : List Rule
from_live = rule_of live ∷ []

abbrev from_history : List Rule
from_history = rule_of history ∷ from_live

abbrev from_trace : List Rule
from_trace = rule_of trace_id ∷ from_history

abbrev from_keep : List Rule
from_keep = rule_of keep_id ∷ from_trace

abbrev from_rounds : List Rule
from_rounds = rule_of rounds_id ∷ from_keep

abbrev from_workers : List Rule
from_workers = rule_of workers_id ∷ from_rounds

abbrev from_plan : List Rule
from_plan = rule_of plan_id ∷ from_workers

abbrev from_args : List Rule
from_args = rule_of args ∷ from_plan

flag_default : (id : Text) (rows : List Row) (rest : List Rule)
    → defaults_fault rows (flag_with id ∷ rest) ≡ defaults_fault (with_default rows (flag_with id)) rest
unfolding defaults_fault
flag_default id rows rest = ap (λ k. or_else k (defaults_fault (with_default rows (flag_with id)) rest)) (go (has_row id rows))
  where
    go : (b : Bool) → cond (b || false) [] (given_default_fault (flag_with id) (codes "false" ∷ [])) ≡ []
    go true = refl
    go false = refl

no_rules : (rows : List Row) → defaults_fault rows [] ≡ []
unfolding defaults_fault
no_rules rows = refl

-- the rows after the defaults of the flags
abbrev with_flags : List Row → List Row
with_flags rows = with_default (with_default rows (rule_of history)) (rule_of live)

defaults_pass : (rows : List Row) → defaults_fault rows rules ≡ []
unfolding rules
defaults_pass rows =
    no_default_fault (rule_of mode) rows from_args refl ∙ no_default_fault (rule_of args) rows from_plan refl
    ∙ no_default_fault (rule_of plan_id) rows from_workers refl ∙ no_default_fault (rule_of workers_id) rows from_rounds refl
    ∙ no_default_fault (rule_of rounds_id) rows from_keep refl ∙ no_default_fault (rule_of keep_id) rows from_trace refl
    ∙ no_default_fault (rule_of trace_id) rows from_history refl
    ∙ flag_default (codes "history") rows from_live
    ∙ flag_default (codes "live") (with_default rows (rule_of history)) []
    ∙ no_rules (with_flags rows)

defaults_are : (rows : List Row) → fold with_default rows rules ≡ with_flags rows
unfolding rules
defaults_are rows =
    past_default (rule_of mode) rows from_args refl ∙ past_default (rule_of args) rows from_plan refl
    ∙ past_default (rule_of plan_id) rows from_workers refl ∙ past_default (rule_of workers_id) rows from_rounds refl
    ∙ past_default (rule_of rounds_id) rows from_keep refl ∙ past_default (rule_of keep_id) rows from_trace refl
    ∙ past_default (rule_of trace_id) rows from_history refl

none_required : (rows : List Row) → check_fault shape rows false ≡ []
unfolding rules
none_required rows = refl

-- the rows with the default of a flag, unless it is given
abbrev to_default : Text → List Row → Bool → List Row
to_default id rows b = cond b rows (with_values id reading.AsWritten source.DefaultValue (codes "false" ∷ []) rows)

module _ (id : Text) (rows : List Row) where
  default_is : (b : Bool) → has_row id rows ≡ b → with_default rows (flag_with id) ≡ to_default id rows b
  default_is b e = ap (to_default id rows) e

  -- a flag that is not given has its default
  default_seen : (b : Bool) → seen id rows ≡ shown (flag_values b)
      → seen id (with_default rows (flag_with id)) ≡ Some (flag_text b ∷ [], reading.AsWritten)
  default_seen true is =
      ap (seen id) (default_is true (has_row-seen id rows ∙ ap is_some is)) ∙ is
  default_seen false is =
      ap (seen id) (default_is false (has_row-seen id rows ∙ ap is_some is))
      ∙ seen-more id reading.AsWritten source.DefaultValue (codes "false" ∷ []) rows
      ∙ ap (λ (o : Option Values). Some (more (codes "false" ∷ []) (unwrap_or o ([], reading.AsWritten)))) is

  -- and another argument what it had
  default_other : (j : Text) → bytes_eq id j ≡ false → seen j (with_default rows (flag_with id)) ≡ seen j rows
  default_other j apart = go (has_row id rows)
    where
      go : (b : Bool) → seen j (to_default id rows b) ≡ seen j rows
      go true = refl
      go false = seen-other id j reading.AsWritten source.DefaultValue (codes "false" ∷ []) rows apart

default_finds : (rows : List Row) (line : Line) → Holds rows line → Finds (with_flags rows) line
default_finds rows line holds = record { others = other; flags = flags }
  where
    first : List Row
    first = with_default rows (rule_of history)

    other : (i : Id) → IsNoFlag i → seen (text_of i) (with_flags rows) ≡ shown (wanted line i)
    other i apart = default_other (codes "live") first (text_of i) (apart live_flag)
        ∙ default_other (codes "history") rows (text_of i) (apart history_flag) ∙ holds i

    flags : (f : Flag) → seen (flag_name f) (with_flags rows) ≡ Some (flag_text (given f line) ∷ [], reading.AsWritten)
    flags history_flag = default_other (codes "live") first (codes "history") refl
        ∙ default_seen (codes "history") rows line.history (holds history)
    flags live_flag = default_seen (codes "live") first line.live
        (default_other (codes "history") rows (codes "live") refl ∙ holds live)

-- where nothing is refused, the end of the words is the line
pub end_reads : (rows : List Row) (pending : Pending) (waiting : Waiting) (p : ℕ) (t : Bool) (line : Line) → Stands rows pending line
    → Reads (Some line) (fault_from (at rows pending waiting p t) []) (rows_from (at rows pending waiting p t) [])
unfolding walk_fault
end_reads rows pending waiting p t line stands =
    let e = settled_rows rules pending rows in
    let h = held rows pending in (
      ap (λ k. or_else k (or_else (defaults_fault e rules) (check_fault shape (finished rules h) false))) stands.passes
          ∙ ap (λ k. or_else k (check_fault shape (finished rules h) false)) (defaults_pass e) ∙ none_required (finished rules h),
      line_found (finished rules h) line (subst (λ r. Finds r line) (sym (defaults_are e)) (default_finds e line stands.says)),
    )
