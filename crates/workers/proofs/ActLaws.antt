-- How many of some actions are of a round.
use Rattle.std.proofs.Common.{◌≡◌, ◌∙◌, ◌<◌, ◌≤◌, ◌+◌, ◌*◌, ◌==◌, ◌++◌, ◌∷◌, ℕ, List, [], length, filter, take, drop, ap, arith, length-append}
use Rattle.std.specs.Prelude.{get_or}
use Rattle.std.proofs.lemmas.List.{take-append-drop, take_more}
use Rattle.std.proofs.lemmas.List.Elements.{filter-append}
use Rattle.plans.specs.declared.action.Action.{Action}
use Rattle.row_keeper.specs.declared.keeper.Keeper.{Ghosts}
use Rattle.workers.specs.Actions.{acted}
use Rattle.workers.specs.Crews.{HasDone}
use Rattle.workers.specs.declared.crew.Worker.{Worker}
use Rattle.workers.proofs.Doing.{done-less, done-then}

-- those of two lists are added
acted-append : (round : ℕ) (front rest : List Action) → acted round (front ++ rest) ≡ acted round front + acted round rest
acted-append round front rest =
    ap length (filter-append (λ (a : Action). a.round == round) front rest)
    ∙ length-append (filter (λ (a : Action). a.round == round) front) (filter (λ (a : Action). a.round == round) rest)

-- one action more
pub acted-more : (round at : ℕ) (actions : List Action) (d : Action) → at < length actions
    → acted round (take (at + 1) actions) ≡ acted round (take at actions) + acted round (get_or actions at d ∷ [])
acted-more round at actions d below =
    ap (acted round) (take_more actions at d below) ∙ acted-append round (take at actions) (get_or actions at d ∷ [])

-- the first so many have no more than all
pub acted-within : (round at : ℕ) (actions : List Action) → acted round (take at actions) ≤ acted round actions
acted-within round at actions =
    let all = ap (acted round) (take-append-drop at actions) in
    let parts = acted-append round (take at actions) (drop at actions) in
    omega (arith, all, parts)

-- one action more is done
pub act-more : {K J : Type 0} {g : Ghosts K} (round at : ℕ) (actions : List Action) (d : Action) (old mid new : List (Worker K J g))
    → at < length actions → HasDone (61 * acted round (take at actions)) old mid
    → HasDone (61 * acted round (get_or actions at d ∷ [])) mid new → HasDone (61 * acted round (take (at + 1) actions)) old new
act-more round at actions d old mid new below one two =
    let more = acted-more round at actions d below in
    done-then (61 * acted round (take at actions)) (61 * acted round (get_or actions at d ∷ [])) (61 * acted round (take (at + 1) actions))
    old mid new (omega (arith, more)) one two

-- which is no more than all
pub act-all : {K J : Type 0} {g : Ghosts K} (round at : ℕ) (actions : List Action) (d : Action) (old mid new : List (Worker K J g))
    → at < length actions → HasDone (61 * acted round (take at actions)) old mid
    → HasDone (61 * acted round (get_or actions at d ∷ [])) mid new → HasDone (61 * acted round actions) old new
act-all round at actions d old mid new below one two =
    let within = acted-within round (at + 1) actions in
    done-less (61 * acted round (take (at + 1) actions)) (61 * acted round actions) old new (omega (arith, within))
    (act-more round at actions d old mid new below one two)

-- where none of all is of the round, this one is not
pub act-none : (round at : ℕ) (actions : List Action) (d : Action) → at < length actions → acted round actions ≡ 0
    → acted round (get_or actions at d ∷ []) ≡ 0
act-none round at actions d below none =
    let more = acted-more round at actions d below in
    let within = acted-within round (at + 1) actions in
    omega (arith, more, within, none)
