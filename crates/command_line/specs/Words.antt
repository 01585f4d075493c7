-- What the words of a command line are: positionals, options with a value each, and two flags. Own.
use Rattle.std.specs.Prelude.{ℕ, ◌==◌, ◌++◌, Bool, true, false, not, if◌then◌else◌, List, [], ◌∷◌, codes, Option, Some, None}
use Rattle.std.specs.Option.{option_map, option_and_then}
use Rattle.text_lines.specs.Words.{cut_at, is_word}
use Rattle.command_line.specs.declared.line.Line.{Line}

-- whether a word begins with `-`
abbrev pub is_dashed : List ℕ → Bool
is_dashed [] = false
is_dashed (c ∷ cs) = c == 45

-- whether a byte is `=`
abbrev pub is_equals : ℕ → Bool
is_equals c = c == 61

-- the option's name and its value, where a word has both, with the first `=` between them
abbrev pub assigned : List ℕ → Option (List ℕ × List ℕ)
assigned word = cut_at is_equals word

-- the line of no words
abbrev pub no_words : Line
no_words = record {
  positionals = [];
  plan = None;
  workers = None;
  rounds = None;
  keep = None;
  trace = None;
  history = false;
  live = false;
}

-- the line with these positionals behind its own
abbrev pub with_positionals : List (List ℕ) → Line → Line
with_positionals words line = record line { positionals = line.positionals ++ words }

-- the line with the flag for the history's lines, which it has once at most
abbrev pub with_history : Line → Option Line
with_history line = if line.history then None else Some (record line { history = true })

-- the line with the flag for each result as soon as it is there, which it has once at most
abbrev pub with_live : Line → Option Line
with_live line = if line.live then None else Some (record line { live = true })

-- the value of an option that had none before: an option is given once at most
abbrev pub first_value : List ℕ → Option (List ℕ) → Option (Option (List ℕ))
first_value value None = Some (Some value)
first_value value (Some had) = None

-- the line with the option of this name, and none where there is no such option or it was given before
abbrev pub with_option : List ℕ → List ℕ → Line → Option Line
with_option name value line =
    if is_word name (codes "--plan")
    then option_map (λ v. record line { plan = v }) (first_value value line.plan)
    else if is_word name (codes "--workers")
    then option_map (λ v. record line { workers = v }) (first_value value line.workers)
    else if is_word name (codes "--rounds")
    then option_map (λ v. record line { rounds = v }) (first_value value line.rounds)
    else if is_word name (codes "--keep")
    then option_map (λ v. record line { keep = v }) (first_value value line.keep)
    else if is_word name (codes "--trace")
    then option_map (λ v. record line { trace = v }) (first_value value line.trace)
    else None

-- the line with an option's word: one with `=` has its value, and the name of any other waits for the next word
abbrev pub with_dashed : List ℕ → Option (List ℕ × List ℕ) → Line → Option (Line × Option (List ℕ))
with_dashed word None line = Some (line, Some word)
with_dashed word (Some parts) line = option_map (λ l. (l, None)) (with_option parts.0 parts.1 line)

-- the line after one more word, and the option that then waits for its value, after one that may wait: no value
-- that stands in a word of its own begins with `-`, and no positional does
abbrev pub after_word : List ℕ → Option (List ℕ) → Line → Option (Line × Option (List ℕ))
after_word word (Some name) line =
    if is_dashed word then None else option_map (λ l. (l, None)) (with_option name word line)
after_word word None line =
    if not (is_dashed word) then Some (with_positionals (word ∷ []) line, None)
    else if is_word word (codes "--history") then option_map (λ l. (l, None)) (with_history line)
    else if is_word word (codes "--live") then option_map (λ l. (l, None)) (with_live line)
    else with_dashed word (assigned word) line

-- whether a word ends the options: it is `--`, and no option waits for its value
abbrev pub is_end : List ℕ → Option (List ℕ) → Bool
is_end word None = is_word word (codes "--")
is_end word (Some name) = false

-- the line after these words; the words behind the first `--` are positionals, whatever they are
unfoldable pub line_after : List (List ℕ) → Option (List ℕ) → Line → Option Line
line_after [] None line = Some line
line_after [] (Some name) line = None
line_after (word ∷ words) waiting line = if is_end word waiting then Some (with_positionals words line)
    else option_and_then (λ next. line_after words next.1 next.0) (after_word word waiting line)

-- what the words of a command line say, where its options are in order
abbrev pub line_of : List (List ℕ) → Option Line
line_of words = line_after words None no_words
