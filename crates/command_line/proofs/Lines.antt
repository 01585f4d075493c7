-- The rows of `clap` that say what a line says.
use Rattle.std.proofs.Common.{◌≡◌, ◌∙◌, inl, inr, Bool, true, false, true≢false, cond, List, [], ◌∷◌, ◌++◌, Option, Some, None, refl, ap, ap₂, subst, is_some, option_map, codes}
use Rattle.std.specs.Option.{unwrap_or}
use Rattle.std.specs.Prelude.{option_and_then, slice_get}
use Rattle.std.specs.Str.{bytes_eq}
use Rattle.clap.specs.Walk.{Row, Text, all_of, with_values, without}
use Rattle.clap.specs.Values.{read_as}
use Rattle.clap.specs.declared.builder.value_parser.Reading.TheVariants as reading
use Rattle.clap.specs.declared.parser.matches.ValueSource.{ValueSource}
use Rattle.command_line.specs.Clap.{IsFlagIn, IsLineIn, values_in}
use Rattle.command_line.specs.declared.line.Line.{Line}
use Rattle.command_line.proofs.Rules.{Asked, plan, workers, rounds, keep, trace, Id, mode, args, plan_id, workers_id, rounds_id, keep_id, trace_id, history, live, Flag, history_flag, live_flag, flag, flag_name, name_of, option, text_of, same_or_other}
use Rattle.command_line.proofs.Rows.{Values, all_of-seen, first_of-seen, more, one_of-seen, seen, seen-more, seen-other, without-absent}

-- ---- what the rows have, by the line

abbrev first_in : List Text → Option (List Text)
first_in [] = None
first_in (word ∷ words) = Some (word ∷ [])

abbrev rest_in : List Text → Option (List Text)
rest_in [] = None
rest_in (word ∷ []) = None
rest_in (word ∷ (next ∷ words)) = Some (next ∷ words)

abbrev pub single : Option Text → Option (List Text)
single = option_map (λ value. value ∷ [])

abbrev pub flag_values : Bool → Option (List Text)
flag_values true = Some (codes "true" ∷ [])
flag_values false = None

-- the values of an argument
abbrev pub wanted : Line → Id → Option (List Text)
wanted line mode = first_in line.positionals
wanted line args = rest_in line.positionals
wanted line plan_id = single line.plan
wanted line workers_id = single line.workers
wanted line rounds_id = single line.rounds
wanted line keep_id = single line.keep
wanted line trace_id = single line.trace
wanted line history = flag_values line.history
wanted line live = flag_values line.live

abbrev as_written : List Text → Values
as_written values = (values, reading.AsWritten)

abbrev pub shown : Option (List Text) → Option Values
shown = option_map as_written

-- the rows say what the line says
abbrev pub Holds : List Row → Line → Type 0
Holds rows line = (i : Id) → seen (text_of i) rows ≡ shown (wanted line i)

-- ---- one more use

more_is : (had : Option (List Text)) (vs : List Text)
    → Some (more vs (unwrap_or (shown had) ([], reading.AsWritten))) ≡ shown (Some (unwrap_or had [] ++ vs))
more_is None vs = refl
more_is (Some had) vs = refl

-- one argument has more values, and the others what they had
pub after_use : (rows : List Row) (line next : Line) (i : Id) (source : ValueSource) (vs : List Text) → Holds rows line
    → Some (unwrap_or (wanted line i) [] ++ vs) ≡ wanted next i
    → ((j : Id) → bytes_eq (text_of i) (text_of j) ≡ false → wanted line j ≡ wanted next j)
    → Holds (with_values (text_of i) reading.AsWritten source vs rows) next
after_use rows line next i source vs holds here others j =
    elim (same_or_other i j) [
      | inl e ↦ subst (λ k. seen (text_of k) (with_values (text_of i) reading.AsWritten source vs rows) ≡ shown (wanted next k)) e at_i
      | inr apart ↦ seen-other (text_of i) (text_of j) reading.AsWritten source vs rows apart ∙ holds j ∙ ap shown (others j apart)
    ]
  where
    at_i : seen (text_of i) (with_values (text_of i) reading.AsWritten source vs rows) ≡ shown (wanted next i)
    at_i = seen-more (text_of i) reading.AsWritten source vs rows
        ∙ ap (λ (o : Option Values). Some (more vs (unwrap_or o ([], reading.AsWritten)))) (holds i) ∙ more_is (wanted line i) vs
        ∙ ap shown here

none_shown : (o : Option (List Text)) → o ≡ None → is_some (shown o) ≡ false
none_shown None e = refl
none_shown (Some vs) e = ap is_some e

pub some_shown : (o : Option (List Text)) → is_some o ≡ is_some (shown o)
some_shown None = refl
some_shown (Some vs) = refl

-- an argument that had no value is used
pub after_first : (rows : List Row) (line next : Line) (i : Id) (source : ValueSource) (vs : List Text) → Holds rows line
    → wanted line i ≡ None
    → Some vs ≡ wanted next i
    → ((j : Id) → bytes_eq (text_of i) (text_of j) ≡ false → wanted line j ≡ wanted next j)
    → Holds (with_values (text_of i) reading.AsWritten source vs (without (text_of i) rows)) next
after_first rows line next i source vs holds absent here others =
    let none : is_some (seen (text_of i) rows) ≡ false = ap is_some (holds i) ∙ none_shown (wanted line i) absent in
    let same : without (text_of i) rows ≡ rows = without-absent (text_of i) rows none in
    rw same (after_use rows line next i source vs holds (ap (λ o. Some (unwrap_or o [] ++ vs)) absent ∙ here) others)

-- ---- the options, by their names

abbrev pub value_of : Asked → Line → Option Text
value_of plan line = line.plan
value_of workers line = line.workers
value_of rounds line = line.rounds
value_of keep line = line.keep
value_of trace line = line.trace

abbrev pub with_value : Asked → Text → Line → Line
with_value plan v line = record line { plan = Some v }
with_value workers v line = record line { workers = Some v }
with_value rounds v line = record line { rounds = Some v }
with_value keep v line = record line { keep = Some v }
with_value trace v line = record line { trace = Some v }

pub wanted_option : (x : Asked) (line : Line) → wanted line (option x) ≡ single (value_of x line)
wanted_option plan line = refl
wanted_option workers line = refl
wanted_option rounds line = refl
wanted_option keep line = refl
wanted_option trace line = refl

wanted_with : (x : Asked) (v : Text) (line : Line) → Some (v ∷ []) ≡ wanted (with_value x v line) (option x)
wanted_with plan v line = refl
wanted_with workers v line = refl
wanted_with rounds v line = refl
wanted_with keep v line = refl
wanted_with trace v line = refl

others_with : (x : Asked) (v : Text) (line : Line) (j : Id) → bytes_eq (name_of x) (text_of j) ≡ false
    → wanted line j ≡ wanted (with_value x v line) j
others_with plan v line plan_id apart = absurd (true≢false apart)
others_with plan v line _ apart = refl
others_with workers v line workers_id apart = absurd (true≢false apart)
others_with workers v line _ apart = refl
others_with rounds v line rounds_id apart = absurd (true≢false apart)
others_with rounds v line _ apart = refl
others_with keep v line keep_id apart = absurd (true≢false apart)
others_with keep v line _ apart = refl
others_with trace v line trace_id apart = absurd (true≢false apart)
others_with trace v line _ apart = refl

-- an option that had no value gets one
pub option_held : (rows : List Row) (line : Line) (x : Asked) (v : Text) (source : ValueSource) → Holds rows line → value_of x line ≡ None
    → Holds (with_values (name_of x) reading.AsWritten source (v ∷ []) (without (name_of x) rows)) (with_value x v line)
option_held rows line x v source holds absent =
    after_first rows line (with_value x v line) (option x) source (v ∷ []) holds (wanted_option x line
    ∙ ap single absent) (wanted_with x v line) (others_with x v line)

-- ---- the flags

-- whether a flag is given
abbrev pub given : Flag → Line → Bool
given history_flag line = line.history
given live_flag line = line.live

abbrev pub flagged : Flag → Line → Line
flagged history_flag line = record line { history = true }
flagged live_flag line = record line { live = true }

pub wanted_flag : (f : Flag) (line : Line) → wanted line (flag f) ≡ flag_values (given f line)
wanted_flag history_flag line = refl
wanted_flag live_flag line = refl

wanted_flagged : (f : Flag) (line : Line) → Some (codes "true" ∷ []) ≡ wanted (flagged f line) (flag f)
wanted_flagged history_flag line = refl
wanted_flagged live_flag line = refl

others_flagged : (f : Flag) (line : Line) (j : Id) → bytes_eq (flag_name f) (text_of j) ≡ false
    → wanted line j ≡ wanted (flagged f line) j
others_flagged history_flag line history apart = absurd (true≢false apart)
others_flagged history_flag line _ apart = refl
others_flagged live_flag line live apart = absurd (true≢false apart)
others_flagged live_flag line _ apart = refl

-- a flag is set
pub flag_held : (rows : List Row) (line : Line) (f : Flag) (source : ValueSource) → Holds rows line → given f line ≡ false
    → Holds (with_values (flag_name f) reading.AsWritten source (codes "true" ∷ []) (without (flag_name f) rows)) (flagged f line)
flag_held rows line f source holds absent =
    after_first rows line (flagged f line) (flag f) source (codes "true" ∷ []) holds (wanted_flag f line ∙ ap flag_values absent)
    (wanted_flagged f line) (others_flagged f line)

-- ---- positionals

abbrev pub with_ps : List Text → Line → Line
with_ps ps line = record line { positionals = ps }

others_mode : (line : Line) (word : Text) (j : Id) → bytes_eq (codes "mode") (text_of j) ≡ false
    → wanted (with_ps [] line) j ≡ wanted (with_ps (word ∷ []) line) j
others_mode line word mode apart = absurd (true≢false apart)
others_mode line word _ apart = refl

pub mode_held : (rows : List Row) (line : Line) (word : Text) (source : ValueSource) → Holds rows (with_ps [] line)
    → Holds (with_values (codes "mode") reading.AsWritten source (word ∷ []) (without (codes "mode") rows)) (with_ps (word ∷ []) line)
mode_held rows line word source holds =
    after_first rows (with_ps [] line) (with_ps (word ∷ []) line) mode source (word ∷ []) holds refl refl (others_mode line word)

rest_more : (ps : List Text) (word : Text) → (first : Text)
    → Some (unwrap_or (rest_in (first ∷ ps)) [] ++ word ∷ []) ≡ rest_in (first ∷ (ps ++ word ∷ []))
rest_more [] word first = refl
rest_more (p ∷ ps) word first = refl

others_args : (line : Line) (first : Text) (ps : List Text) (word : Text) (j : Id) → bytes_eq (codes "args") (text_of j) ≡ false
    → wanted (with_ps (first ∷ ps) line) j ≡ wanted (with_ps (first ∷ (ps ++ word ∷ [])) line) j
others_args line first ps word args apart = absurd (true≢false apart)
others_args line first ps word _ apart = refl

pub args_held : (rows : List Row) (line : Line) (first : Text) (ps : List Text) (word : Text) (source : ValueSource)
    → Holds rows (with_ps (first ∷ ps) line)
    → Holds (with_values (codes "args") reading.AsWritten source (word ∷ []) rows) (with_ps (first ∷ (ps ++ word ∷ [])) line)
args_held rows line first ps word source holds =
    after_use rows (with_ps (first ∷ ps) line) (with_ps (first ∷ (ps ++ word ∷ [])) line) args source (word ∷ []) holds
    (rest_more ps word first) (others_args line first ps word)

-- ---- what is found at the end

abbrev pub flag_text : Bool → Text
flag_text flag = cond flag (codes "true") (codes "false")

-- an argument is no flag
abbrev pub IsNoFlag : Id → Type 0
IsNoFlag i = (f : Flag) → bytes_eq (flag_name f) (text_of i) ≡ false

-- the rows say what the line says, and each flag has its default
pub record Finds (rows : List Row) (line : Line) : Type 0 where
  pub others : (i : Id) → IsNoFlag i → seen (text_of i) rows ≡ shown (wanted line i)
  pub flags : (f : Flag) → seen (flag_name f) rows ≡ Some (flag_text (given f line) ∷ [], reading.AsWritten)

mode_apart : IsNoFlag mode
mode_apart history_flag = refl
mode_apart live_flag = refl

args_apart : IsNoFlag args
args_apart history_flag = refl
args_apart live_flag = refl

option_apart : (x : Asked) → IsNoFlag (option x)
option_apart plan history_flag = refl
option_apart plan live_flag = refl
option_apart workers history_flag = refl
option_apart workers live_flag = refl
option_apart rounds history_flag = refl
option_apart rounds live_flag = refl
option_apart keep history_flag = refl
option_apart keep live_flag = refl
option_apart trace history_flag = refl
option_apart trace live_flag = refl

first_shown : (o : Option Text) → option_and_then (λ (p : Values). slice_get p.0 0) (shown (single o)) ≡ o
first_shown None = refl
first_shown (Some v) = refl

pub both_parts : (ps : List Text)
    → unwrap_or (option_map (λ (p : Values). p.0) (shown (first_in ps))) [] ++ unwrap_or
    (option_map (λ (p : Values). p.0) (shown (rest_in ps))) [] ≡ ps
both_parts [] = refl
both_parts (p ∷ []) = refl
both_parts (p ∷ (q ∷ ps)) = refl

value_found : (rows : List Row) (line : Line) → Finds rows line → (i : Id) (o : Option Text)
    → IsNoFlag i → wanted line i ≡ single o
    → Rattle.clap.specs.Walk.first_of (text_of i) rows ≡ o
value_found rows line finds i o apart is =
    first_of-seen (text_of i) rows ∙ ap (option_and_then (λ (p : Values). slice_get p.0 0)) (finds.others i apart ∙ ap shown is) ∙ first_shown o

values_found : (rows : List Row) (line : Line) → Finds rows line → (i : Id) → IsNoFlag i
    → values_in rows (text_of i) ≡ unwrap_or (option_map (λ (p : Values). p.0) (shown (wanted line i))) []
values_found rows line finds i apart =
    ap (λ (o : Option (List Text)). unwrap_or o []) (all_of-seen (text_of i) rows
    ∙ ap (option_map (λ (p : Values). p.0)) (finds.others i apart))

flag_found : (rows : List Row) (line : Line) → Finds rows line → (f : Flag) → IsFlagIn rows (flag_name f) (given f line)
flag_found rows line finds f = one_of-seen (flag_name f) rows
    ∙ ap (option_and_then (λ (p : Values). option_map (read_as p.1) (slice_get p.0 0))) (finds.flags f)

pub line_found : (rows : List Row) (line : Line) → Finds rows line → IsLineIn rows line
line_found rows line finds = record {
  positionals = ap₂ (λ (a b : List Text). a ++ b) (values_found rows line finds mode mode_apart)
      (values_found rows line finds args args_apart)
      ∙ both_parts line.positionals;
  plan = value_found rows line finds plan_id line.plan (option_apart plan) refl;
  workers = value_found rows line finds workers_id line.workers (option_apart workers) refl;
  rounds = value_found rows line finds rounds_id line.rounds (option_apart rounds) refl;
  keep = value_found rows line finds keep_id line.keep (option_apart keep) refl;
  trace = value_found rows line finds trace_id line.trace (option_apart trace) refl;
  history = flag_found rows line finds history_flag;
  live = flag_found rows line finds live_flag;
}
