-- What a plan says: an action on each line, its round, its verb and its numbers with one space between them. Own.
use Rattle.std.specs.Prelude.{ℕ, ◌<◌, if◌then◌else◌, List, codes, Option, Some, None, Result}
use Rattle.std.specs.Option.{option_map, option_and_then}
use Rattle.text_lines.specs.Numbers.{below}
use Rattle.text_lines.specs.Readings.{lines_read}
use Rattle.text_lines.specs.Words.{both, is_word, word_of}
use Rattle.topology.specs.Shapes.{Shape}
use Rattle.topology.specs.Rules.{interval_count}
use Rattle.mw_types.specs.declared.refusal.PlanRefusal.{PlanRefusal}
use Rattle.plans.specs.Named.{interval_in}
use Rattle.plans.specs.declared.action.Action.{Action}
use Rattle.plans.specs.declared.action.What.{What}
use Rattle.plans.specs.declared.action.What.TheVariants as whats

-- ---- which actions there are

-- what happens is over a worker of so many, and an interval of the topology
abbrev pub IsWhat : Shape → ℕ → What → Type 0
IsWhat shape workers (whats.Crash worker) = worker < workers
IsWhat shape workers (whats.Stall worker) = worker < workers
IsWhat shape workers (whats.Move interval worker) = (interval < interval_count shape) × (worker < workers)
IsWhat shape workers (whats.Repeat worker) = worker < workers
IsWhat shape workers (whats.Lose worker) = worker < workers
IsWhat shape workers (whats.Hold worker) = worker < workers

-- an action is one that a line may name, for so many workers and rounds
pub record IsAction (shape : Shape) (workers rounds : ℕ) (action : Action) : Type 0 where
  pub round : action.round < rounds
  pub what : IsWhat shape workers action.what

-- ---- what a line says

-- the worker that a word names, of so many
abbrev pub worker_in : ℕ → List ℕ → Option ℕ
worker_in workers word = below workers word

-- the round that a word names, of so many
abbrev pub round_in : ℕ → List ℕ → Option ℕ
round_in rounds word = below rounds word

-- what happens to a worker alone
abbrev pub happens_to : ℕ → List ℕ → List ℕ → Option What
happens_to workers verb word =
    if is_word verb (codes "crash") then option_map whats.Crash (worker_in workers word)
    else if is_word verb (codes "stall") then option_map whats.Stall (worker_in workers word)
    else if is_word verb (codes "repeat") then option_map whats.Repeat (worker_in workers word)
    else if is_word verb (codes "lose") then option_map whats.Lose (worker_in workers word)
    else if is_word verb (codes "hold") then option_map whats.Hold (worker_in workers word)
    else None

-- an interval goes to a worker
abbrev pub moved_to : Shape → ℕ → List ℕ → List ℕ → List ℕ → Option What
moved_to shape workers verb a b =
    if is_word verb (codes "move") then both whats.Move (interval_in shape a) (worker_in workers b) else None

-- what a verb says with what follows it: a worker, or an interval and a worker with a space between them
abbrev pub happens_in : Shape → ℕ → List ℕ → List ℕ → Option (List ℕ × List ℕ) → Option What
happens_in shape workers verb numbers None = happens_to workers verb numbers
happens_in shape workers verb numbers (Some (a, b)) = moved_to shape workers verb a b

-- what a verb and its numbers say; a verb alone says nothing
abbrev pub what_of : Shape → ℕ → List ℕ → Option What
what_of shape workers text = option_and_then
    (λ (cut : List ℕ × List ℕ). happens_in shape workers cut.0 cut.1 (word_of cut.1)) (word_of text)

-- the action of a round and what happens in it
abbrev pub timed : Shape → ℕ → ℕ → List ℕ → Option Action
timed shape workers rounds text = option_and_then
    (λ (cut : List ℕ × List ℕ). both (λ round what. record { round = round; what = what })
    (round_in rounds cut.0) (what_of shape workers cut.1)) (word_of text)

-- the action of a line, whose first word is `at`
abbrev pub action_of : Shape → ℕ → ℕ → List ℕ → Option Action
action_of shape workers rounds line = option_and_then
    (λ (cut : List ℕ × List ℕ). if is_word cut.0 (codes "at") then timed shape workers rounds cut.1 else None)
    (word_of line)

-- the actions of a plan, or its first line, from 1, that is no action
abbrev pub actions_of : Shape → ℕ → ℕ → List ℕ → Result (List Action) PlanRefusal
actions_of shape workers rounds bytes = lines_read (action_of shape workers rounds) bytes
