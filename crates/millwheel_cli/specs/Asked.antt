-- Which command the words of the command line are, to a caller that has threads and to one that has none,
-- which database they name for the rows, and what a call has a part in. Own.
use Rattle.std.specs.Prelude.{ℕ, Bool, true, false, if◌then◌else◌, List, Option, Some, None}
use Rattle.std.specs.Option.{option_and_then}
use Rattle.command_line.specs.declared.command.Call.{Call}
use Rattle.command_line.specs.declared.command.Call.TheVariants.{Run, Plain, Collect, Audit}
use Rattle.command_line.specs.declared.command.Command.{Command}
use Rattle.command_line.specs.Grammar.{command_of}

-- the name that the words give by `--keep`, where they are a command and give one
abbrev pub keep_of : List (List ℕ) → Option (List ℕ)
keep_of words = option_and_then (λ (command : Command). command.keep) (command_of words)

-- whether a call asks for rounds of workers
abbrev pub is_run : Call → Bool
is_run (Run workers rounds plan inputs) = true
is_run _ = false

-- whether a call has a task, which is run or counted: each has but an audit and that for the live
-- lines of a file
abbrev pub has_task : Call → Bool
has_task (Collect file) = false
has_task (Audit inputs trace) = false
has_task _ = true

-- whether no keeper has a part in a call
abbrev pub is_unkept : Call → Bool
is_unkept (Plain inputs) = true
is_unkept (Collect file) = true
is_unkept (Audit inputs trace) = true
is_unkept _ = false

-- a command, where it asks for no threads
abbrev pub without_threads : Command → Option Command
without_threads command = if is_run command.call then None else Some command

-- the command that the words are to a caller that has no threads: none where they ask for a run
abbrev pub alone_of : List (List ℕ) → Option Command
alone_of words = option_and_then without_threads (command_of words)
