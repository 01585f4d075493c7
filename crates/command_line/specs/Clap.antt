-- What `clap` is told of the words, what it then finds, and the rule on words that stands beside it. No public
-- clause cites this module.
use Rattle.std.specs.Prelude.{◌≡◌, ◌==◌, ◌++◌, ◌&&◌, ◌||◌, Bool, false, true, not, if◌then◌else◌, List, [], ◌∷◌, codes, Some, ℕ}
use Rattle.std.specs.Option.{unwrap_or}
use Rattle.clap.specs.Walk.{Row, Rule, Text, all_of, first_of, one_of, rows_of}
use Rattle.clap.specs.Matches.{found_of}
use Rattle.clap.specs.Simple.{App, new_app, new_rule, on_top, with_rule}
use Rattle.clap.specs.declared.parser.matches.ArgMatches.{ArgMatches}
use Rattle.clap.specs.declared.builder.action.ArgAction.TheVariants.{Append, Set, SetTrue}
use Rattle.text_lines.specs.Words.{is_word}
use Rattle.command_line.specs.Words.{is_dashed}
use Rattle.command_line.specs.declared.line.Line.{Line}

-- whether a word begins with one `-` alone
abbrev pub is_short : List ℕ → Bool
is_short [] = false
is_short (c ∷ cs) = c == 45 && not (is_dashed cs)

-- whether such a word stands before the first `--`
abbrev pub has_short : List (List ℕ) → Bool
has_short [] = false
has_short (word ∷ words) = if is_word word (codes "--") then false else is_short word || has_short words

-- an option with one value
abbrev pub option_rule : Text → Rule
option_rule name = record (new_rule name) { long = Some name; action = Some Set }

-- the mode, and the arguments behind it
abbrev pub mode_rule : Rule
mode_rule = new_rule (codes "mode")

abbrev pub args_rule : Rule
args_rule = record (new_rule (codes "args")) { action = Some Append }

-- a flag
abbrev pub flag_rule : Text → Rule
flag_rule name = record (new_rule name) { long = Some name; action = Some SetTrue }

-- the command before it has an argument
abbrev pub mill_top : App
mill_top = on_top (λ top. record top { no_binary_name = true; disable_help_flag = true })
    (new_app (codes "millwheel"))

-- the mode and its arguments
abbrev pub positional_app : App
positional_app = with_rule (with_rule mill_top mode_rule) args_rule

-- five options with one value each beside them
abbrev pub option_app : App
option_app = with_rule (with_rule (with_rule (with_rule (with_rule positional_app
    (option_rule (codes "plan"))) (option_rule (codes "workers")))
    (option_rule (codes "rounds"))) (option_rule (codes "keep"))) (option_rule (codes "trace"))

-- what `clap` is told: a mode, its arguments, five options with one value each, and two flags
abbrev pub mill_app : App
mill_app = with_rule (with_rule option_app (flag_rule (codes "history"))) (flag_rule (codes "live"))

-- what `clap` found
abbrev pub rows_in : ArgMatches → List Row
rows_in matches = rows_of (found_of matches)

-- the values that it found for an argument
abbrev pub values_in : List Row → Text → List Text
values_in rows id = unwrap_or (all_of id rows) []

-- a flag reads so
abbrev pub IsFlagIn : List Row → Text → Bool → Type 0
IsFlagIn rows id flag = one_of id rows ≡ Some (if flag then codes "true" else codes "false")

-- a flag reads in one of the two ways
abbrev pub HasFlag : List Row → Text → Type 0
HasFlag rows id = (flag : Bool) × IsFlagIn rows id flag

-- both flags do
abbrev pub HasFlags : List Row → Type 0
HasFlags rows = HasFlag rows (codes "history") × HasFlag rows (codes "live")

-- the line with the names of files that `clap` found as options
abbrev pub with_files : List Row → Line → Line
with_files rows line = record line {
  plan = first_of (codes "plan") rows;
  keep = first_of (codes "keep") rows;
  trace = first_of (codes "trace") rows;
}

-- the line with the numbers that `clap` found as options
abbrev pub with_numbers : List Row → Line → Line
with_numbers rows line =
    record line { workers = first_of (codes "workers") rows; rounds = first_of (codes "rounds") rows }

-- the line with the positionals that `clap` found behind its own
abbrev pub with_words : List Row → Line → Line
with_words rows line = record line {
  positionals = (line.positionals ++ values_in rows (codes "mode")) ++ values_in rows (codes "args");
}

-- the line is what `clap` found
pub record IsLineIn (rows : List Row) (line : Line) : Type 0 where
  pub positionals : values_in rows (codes "mode") ++ values_in rows (codes "args") ≡ line.positionals
  pub plan : first_of (codes "plan") rows ≡ line.plan
  pub workers : first_of (codes "workers") rows ≡ line.workers
  pub rounds : first_of (codes "rounds") rows ≡ line.rounds
  pub keep : first_of (codes "keep") rows ≡ line.keep
  pub trace : first_of (codes "trace") rows ≡ line.trace
  pub history : IsFlagIn rows (codes "history") line.history
  pub live : IsFlagIn rows (codes "live") line.live
