-- Which command the words of a command line are. Own.
use Rattle.std.specs.Prelude.{◌≡◌, ℕ, ⊤, ◌≤◌, ◌^◌, ◌-◌, ◌+◌, ◌||◌, ◌&&◌, Bool, false, if◌then◌else◌, List, [], ◌∷◌, codes, Option, Some, None, is_some}
use Rattle.std.specs.Option.{option_map, option_and_then}
use Rattle.text_lines.specs.Words.{both, is_word}
use Rattle.text_lines.specs.Numbers.{between}
use Rattle.text_lines.specs.declared.TheConstants.{LINES_MAX}
use Rattle.command_line.specs.Words.{line_of}
use Rattle.command_line.specs.declared.command.Inputs.{Inputs}
use Rattle.command_line.specs.declared.command.Call.{Call}
use Rattle.command_line.specs.declared.command.Call.TheVariants.{Solo, Replay, Run, Plain, Load, Collect, Audit}
use Rattle.command_line.specs.declared.command.Command.{Command}
use Rattle.command_line.specs.declared.line.Line.{Line}

-- the number that a word is, where it is from the one on and up to the other
abbrev pub number_in : ℕ → ℕ → List ℕ → Option ℕ
number_in least most word = between least (most + 1) word

-- the greatest seed
abbrev pub seed_limit : ℕ
seed_limit = 2 ^ 32 - 1

-- what a run reads: a topology and one event file or more
abbrev pub inputs_of : List (List ℕ) → Bool → Bool → Option Inputs
inputs_of (topology ∷ (event ∷ events)) history live =
    Some (record { topology = topology; events = event ∷ events; history = history; live = live })
inputs_of _ history live = None

-- the same, by the flags of a line, which has not both
abbrev pub inputs_in : List (List ℕ) → Line → Option Inputs
inputs_in args line = if line.history && line.live then None else inputs_of args line.history line.live

-- whether there are workers or rounds, which the mode run alone takes
abbrev pub has_rounds : Line → Bool
has_rounds line = is_some line.workers || is_some line.rounds

-- `solo TOPOLOGY EVENTS..`, with `--history` or `--live`, and with `--keep FILE` or without
abbrev pub solo_of : List (List ℕ) → Line → Option Call
solo_of args line = if has_rounds line || is_some line.plan then None
    else option_map Solo (inputs_in args line)

-- `replay --plan FILE TOPOLOGY EVENTS..`, with `--history` or `--live`, and with `--keep FILE` or without
abbrev pub replay_of : List (List ℕ) → Line → Option Call
replay_of args line = if has_rounds line then None else both Replay line.plan (inputs_in args line)

-- how many workers a run may have, which has one or more
abbrev pub workers_limit : ℕ
workers_limit = 16

-- how many rounds a run may have
abbrev pub rounds_limit : ℕ
rounds_limit = 1000

-- so many workers and rounds are within the limits
pub record AreSizes (workers rounds : ℕ) : Type 0 where
  pub some : 1 ≤ workers
  pub few : workers ≤ workers_limit
  pub short : rounds ≤ rounds_limit

-- where a call is a run, its numbers are within the limits, and no result is wanted before its end
abbrev pub HasSizes : Call → Type 0
HasSizes (Run workers rounds plan inputs) = AreSizes workers rounds × (inputs.live ≡ false)
HasSizes _ = ⊤

-- the number that an option asks for, from the one on and up to the other
abbrev pub number_asked : ℕ → ℕ → Option (List ℕ) → Option ℕ
number_asked least most value = option_and_then (number_in least most) value

-- how many workers and rounds a line asks for
abbrev pub run_numbers : Line → Option (ℕ × ℕ)
run_numbers line = both (λ workers rounds. (workers, rounds)) (number_asked 1 workers_limit line.workers)
    (number_asked 0 rounds_limit line.rounds)

-- `run --workers N --rounds R TOPOLOGY EVENTS..`, with `--plan FILE` and `--history` or without
abbrev pub run_of : List (List ℕ) → Line → Option Call
run_of args line = if is_some line.keep || line.live then None
    else both (λ (numbers : ℕ × ℕ) inputs. Run numbers.0 numbers.1 line.plan inputs) (run_numbers line)
    (inputs_of args line.history false)

-- whether there is an option beside `--trace`, or a flag
abbrev pub has_options : Line → Bool
has_options line = has_rounds line || (is_some line.plan || (is_some line.keep || (line.history || line.live)))

-- `plain TOPOLOGY EVENTS..`, which takes no option and no flag
abbrev pub plain_of : List (List ℕ) → Line → Option Call
plain_of args line = if has_options line then None else option_map Plain (inputs_of args false false)

-- `load SEED LINES`, which takes no option and no flag
abbrev pub load_of : List (List ℕ) → Line → Option Call
load_of (seed ∷ (lines ∷ [])) line = if has_options line then None
    else both Load (number_in 0 seed_limit seed) (number_in 1 LINES_MAX lines)
load_of _ line = None

-- `collect FILE`, which takes no option and no flag
abbrev pub collect_of : List (List ℕ) → Line → Option Call
collect_of (file ∷ []) line = if has_options line then None else Some (Collect file)
collect_of _ line = None

-- what a mode without a trace asks for with these arguments
abbrev pub untraced_of : List ℕ → List (List ℕ) → Line → Option Call
untraced_of mode args line = if is_word mode (codes "solo") then solo_of args line
    else if is_word mode (codes "replay") then replay_of args line
    else if is_word mode (codes "run") then run_of args line
    else if is_word mode (codes "plain") then plain_of args line
    else if is_word mode (codes "load") then load_of args line
    else if is_word mode (codes "collect") then collect_of args line
    else None

-- `audit --trace FILE TOPOLOGY EVENTS..`, which takes no other option and no flag
abbrev pub audit_of : List (List ℕ) → Line → Option Call
audit_of args line = if has_options line then None else both Audit (inputs_of args false false) line.trace

-- what a mode with these arguments asks for; audit alone takes the option `--trace`
abbrev pub call_with : List ℕ → List (List ℕ) → Line → Option Call
call_with mode args line = if is_word mode (codes "audit") then audit_of args line
    else if is_some line.trace then None else untraced_of mode args line

-- what the positionals ask for, of which the first is the mode
abbrev pub call_of : List (List ℕ) → Line → Option Call
call_of [] line = None
call_of (mode ∷ args) line = call_with mode args line

-- the command of a call, with the file in which the rows are to be kept, where the mode takes one
abbrev pub command_from : Line → Option Command
command_from line = option_map (λ call. record { call = call; keep = line.keep }) (call_of line.positionals line)

-- the command that the words of a command line are, and none where they are no command
abbrev pub command_of : List (List ℕ) → Option Command
command_of words = option_and_then command_from (line_of words)
