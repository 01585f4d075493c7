-- What a schedule says: a step on each line, its verb and its numbers with one space between them. Own.
use Rattle.std.specs.Prelude.{ℕ, ◌^◌, if◌then◌else◌, List, codes, Option, Some, None, Result}
use Rattle.std.specs.Option.{option_map, option_map_or, option_and_then, option_or}
use Rattle.text_lines.specs.Numbers.{below, between}
use Rattle.text_lines.specs.Readings.{lines_read}
use Rattle.text_lines.specs.Words.{is_word, word_of}
use Rattle.topology.specs.Shapes.{Shape, injectors_of, parts_of}
use Rattle.mw_types.specs.declared.refusal.PlanRefusal.{PlanRefusal}
use Rattle.plans.specs.Named.{interval_in}
use Rattle.plans.specs.declared.step.Step.{Step}
use Rattle.plans.specs.declared.step.Step.TheVariants as steps

-- the worker that a word names: there are sixteen
abbrev pub worker_in : List ℕ → Option ℕ
worker_in word = below 16 word

-- the message that a word names
abbrev pub message_in : List ℕ → Option ℕ
message_in word = below (2 ^ 32) word

-- the injector that a word names
abbrev pub injector_in : Shape → List ℕ → Option ℕ
injector_in shape word = below (injectors_of shape) word

-- the computation that a word names: they come after the injectors
abbrev pub computation_in : Shape → List ℕ → Option ℕ
computation_in shape word = between (injectors_of shape) (parts_of shape) word

-- the relay that a word names: there is one for each weak computation
abbrev pub relay_in : ℕ → List ℕ → Option ℕ
relay_in weaks word = below weaks word

-- ---- a verb and one number

-- what a worker does alone
abbrev pub done_alone : List ℕ → ℕ → Option Step
done_alone verb worker =
    if is_word verb (codes "send") then Some (steps.Send worker)
    else if is_word verb (codes "write") then Some (steps.Write worker)
    else if is_word verb (codes "resend") then Some (steps.Resend worker)
    else if is_word verb (codes "crash") then Some (steps.Crash worker)
    else None

-- what befalls a message
abbrev pub befalls : List ℕ → ℕ → Option Step
befalls verb message =
    if is_word verb (codes "copy") then Some (steps.Repeat message)
    else if is_word verb (codes "lose") then Some (steps.Lose message)
    else None

-- what a relay does alone
abbrev pub relay_alone : List ℕ → ℕ → Option Step
relay_alone verb relay = if is_word verb (codes "forget") then Some (steps.Forget relay) else None

-- the step of a verb and one number; no two of these have a verb in common
abbrev pub step_of_one : ℕ → List ℕ → List ℕ → Option Step
step_of_one weaks verb a =
    option_or (option_and_then (done_alone verb) (worker_in a))
    (option_or (option_and_then (befalls verb) (message_in a))
    (option_and_then (relay_alone verb) (relay_in weaks a)))

-- ---- a verb and two numbers

-- what a worker does with an interval
abbrev pub done_over : List ℕ → ℕ → ℕ → Option Step
done_over verb worker interval =
    if is_word verb (codes "claim") then Some (steps.Claim worker interval)
    else if is_word verb (codes "report") then Some (steps.Report worker interval)
    else if is_word verb (codes "purge") then Some (steps.Purge worker interval)
    else None

-- so it is of two words
abbrev pub over_interval : Shape → List ℕ → List ℕ → List ℕ → Option Step
over_interval shape verb a b =
    option_and_then (λ worker. option_and_then (done_over verb worker) (interval_in shape b)) (worker_in a)

-- what a worker does for a part, which is an injector or a computation by what it does
abbrev pub for_part : Shape → List ℕ → List ℕ → ℕ → Option Step
for_part shape verb b worker =
    if is_word verb (codes "inject") then option_map (steps.Inject worker) (injector_in shape b)
    else if is_word verb (codes "fire") then option_map (steps.Fire worker) (computation_in shape b)
    else None

-- who takes a message: a worker, or a relay by which it goes on
abbrev pub taken_by : ℕ → List ℕ → List ℕ → ℕ → Option Step
taken_by weaks verb a message =
    if is_word verb (codes "take") then option_map (λ worker. steps.Take worker message) (worker_in a)
    else if is_word verb (codes "relay") then option_map (λ relay. steps.Relay relay message) (relay_in weaks a)
    else None

-- the step of a verb and two numbers; again no verb is in two of these
abbrev pub step_of_two : Shape → ℕ → List ℕ → List ℕ → List ℕ → Option Step
step_of_two shape weaks verb a b =
    option_or (over_interval shape verb a b)
    (option_or (option_and_then (for_part shape verb b) (worker_in a))
    (option_and_then (taken_by weaks verb a) (message_in b)))

-- ---- a line

-- what stands behind a verb is two numbers where a space parts it, and else one
abbrev pub step_with : Shape → ℕ → List ℕ → List ℕ → Option Step
step_with shape weaks verb numbers = option_map_or (λ (cut : List ℕ × List ℕ). step_of_two shape weaks verb cut.0 cut.1)
    (word_of numbers) (step_of_one weaks verb numbers)

-- a line has a verb, and something behind it
abbrev pub step_of : Shape → ℕ → List ℕ → Option Step
step_of shape weaks line =
    option_and_then (λ (cut : List ℕ × List ℕ). step_with shape weaks cut.0 cut.1) (word_of line)

-- all steps of a schedule, unless a line says none: then the first such line, from 1
abbrev pub schedule_of : Shape → ℕ → List ℕ → Result (List Step) PlanRefusal
schedule_of shape weaks text = lines_read (step_of shape weaks) text
