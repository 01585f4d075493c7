-- Which histories a task may leave, as far as they came and when they are whole: what comes before the drain,
-- and behind it the drain. Own.
use Rattle.std.specs.Prelude.{◌≡◌, ◌<◌, ◌≤◌, ◌⊎◌, ℕ, List, length}
use Rattle.mw_types.specs.declared.entry.Entry.{Entry}
use Rattle.topology.specs.Folding.{RoutesView}
use Rattle.run_history.specs.Cases.{CaseShape}
use Rattle.run_history.specs.Fences.{Begins}
use Rattle.history_laws.specs.Writes.{IsLegalAndFenced}
use Rattle.plans.specs.declared.step.Step.{Step}
use Rattle.workers.specs.Rounds.{HasInjectedAll, claims_in, first_claims, rounds_room}
use Rattle.world.specs.drains.Drains.{HasEnded, IsDrained}
use Rattle.world.specs.Replays.{GoesOn, IsReplayed, IsWholeReplay}
use Rattle.task_runs.specs.declared.task.Before.{Before}
use Rattle.task_runs.specs.declared.task.Before.TheVariants.{Steps, Rounds}

-- ---- rounds of workers

-- a history begins the list of first claims, or has that list at its beginning
abbrev pub IsFirstClaimed : CaseShape → ℕ → List Entry → Type 0
IsFirstClaimed case workers history = Begins history (first_claims case workers)
    ⊎ Begins (first_claims case workers) history

-- a history goes as rounds do, and behind them as a drain does, as far as it came: it has a beginning with no
-- more entries than rounds may append, and goes on from that as a drain does
pub record IsRounded (case : CaseShape) (workers rounds actions : ℕ) (history : List Entry) : Type 0 where
  pub front : List Entry
  pub room : length front ≤ rounds_room workers rounds actions
  pub goes_on : GoesOn case front history
  pub first : IsFirstClaimed case workers history

-- no claim but the first ones was made, and each injector has injected its lines, or 16 in each round
pub record IsPlainFront (case : CaseShape) (workers rounds : ℕ) (front : List Entry) : Type 0 where
  pub claims : claims_in front ≡ first_claims case workers
  pub injected : HasInjectedAll case rounds front

-- a history is what rounds write, and the whole drain behind them. Without an action of a plan the rounds
-- have injected their lines under the first claims
pub record IsWholeRounded (case : CaseShape) (workers rounds actions : ℕ)
    (history : List Entry) : Type 0 where
  pub front : List Entry
  pub room : length front ≤ rounds_room workers rounds actions
  pub begins : Begins front history
  pub drained : IsDrained case (length front) history
  pub claimed : Begins (first_claims case workers) history
  pub plain : actions ≡ 0 → IsPlainFront case workers rounds front

-- a history that goes as rounds do has more to come: the drain behind them is not at its end, and each
-- history that is drained from their end on has more entries
pub record IsShortOfRounds (case : CaseShape) (workers rounds actions : ℕ)
    (history : List Entry) : Type 0 where
  pub front : List Entry
  pub room : length front ≤ rounds_room workers rounds actions
  pub goes_on : GoesOn case front history
  pub more : HasEnded case (length front) history → ⊥
  pub longer : (whole : List Entry) → Begins front whole → IsDrained case (length front) whole →
      IsLegalAndFenced case whole → length history < length whole

-- ---- the steps of a script

-- a history has more to come than it has: it is not the whole that the steps write, with the drain behind
-- them, and each legal and fenced one that is has more entries
pub record IsShortOfReplay (routes : RoutesView) (case : CaseShape) (steps : List Step)
    (history : List Entry) : Type 0 where
  pub more : IsWholeReplay routes case steps history → ⊥
  pub longer : (whole : List Entry) → IsWholeReplay routes case steps whole →
      IsLegalAndFenced case whole → length history < length whole

-- ---- either of them

-- a history goes as what comes before the drain does, and as a drain does behind it, as far as it came
abbrev pub GoesAs : RoutesView → CaseShape → Before → List Entry → Type 0
GoesAs routes case (Steps steps) history = IsReplayed routes case steps history
GoesAs routes case (Rounds workers rounds actions) history =
    IsRounded case workers rounds (length actions) history

-- a history is the whole of what comes before the drain, and of the drain behind it
abbrev pub IsAllOf : RoutesView → CaseShape → Before → List Entry → Type 0
IsAllOf routes case (Steps steps) history = IsWholeReplay routes case steps history
IsAllOf routes case (Rounds workers rounds actions) history =
    IsWholeRounded case workers rounds (length actions) history

-- a history that goes so has more to come
abbrev pub IsShortOf : RoutesView → CaseShape → Before → List Entry → Type 0
IsShortOf routes case (Steps steps) history = IsShortOfReplay routes case steps history
IsShortOf routes case (Rounds workers rounds actions) history =
    IsShortOfRounds case workers rounds (length actions) history

-- a row was read when the history had so many entries: all that it has, and in rounds, where other workers
-- may append meanwhile, some of them
abbrev pub IsReadAfter : Before → ℕ → List Entry → Type 0
IsReadAfter (Steps steps) count history = count ≡ length history
IsReadAfter (Rounds workers rounds actions) count history = count ≤ length history
