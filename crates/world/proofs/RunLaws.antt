-- Steps of a script that are done one after another.
use Rattle.std.proofs.Common.{◌≡◌, ◌∙◌, ◌+◌, ◌<◌, ◌≤◌, ◌++◌, ◌∷◌, [], ℕ, List, drop, get_or, length, refl, sym, ap, subst, arith}
use Rattle.std.proofs.lemmas.List.{drop_more, length_push}
use Rattle.std.specs.Prelude.{Option, None, Some, IsSome, IfSome}
use Rattle.std.specs.Option.{is_some, option_to_list}
use Rattle.mw_types.specs.declared.entry.Entry.{Entry}
use Rattle.run_history.specs.Cases.{CaseShape}
use Rattle.run_history.specs.Fences.{Begins}
use Rattle.run_history.proofs.Beginnings.{Begins-itself, Begins-length, Begins-trans}
use Rattle.node.specs.declared.outcome.Outcome.{Outcome}
use Rattle.world.specs.scripts.Acts.{Acted, world_after, world_then}
use Rattle.world.specs.scripts.Keeping.{AppendsAtMostOne}
use Rattle.world.specs.scripts.Worlds.{World}
use Rattle.plans.specs.declared.step.Step.{Step}
use Rattle.plans.specs.declared.step.Step.TheVariants as steps
use Rattle.world.proofs.scripts.Steps.{script-keeps}
use Rattle.world.specs.scripts.ScriptRuns.{IsRunning}
use Rattle.world.specs.scripts.Stepping.{HasActed, HasFaulted, WouldAppend}
use Rattle.world.specs.scripts.WorldStates.{WorldState, world_of}

-- a fact that is told
some-then : {X : Type 0} {P : Type 0} (o : Option X) → IfSome o (λ _. P) → IsSome o → P
some-then None is some = absurd cc
some-then (Some x) is some = is

-- no step yet
pub run-none : (start : WorldState) (all : List Step) → IsRunning start start all all
run-none start all = record {
  case = refl;
  routes = refl;
  limit = refl;
  tells = refl;
  faults = omega arith;
  grown = Begins-itself start.book.history;
  script = λ told. refl;
}

-- the history has grown by a step
pub begins-one : (old new : World) → AppendsAtMostOne old new → Begins old.history new.history
begins-one old new one = (option_to_list one.entry, sym one.appended)

-- one step more
pub run-more : (start world new : WorldState) (step : Step) (rest all : List Step) (outcome : Outcome)
    → IsRunning start world (step ∷ rest) all → new.book.case ≡ world.book.case → new.routes ≡ world.routes
    → new.book.limit ≡ world.book.limit
    → is_some new.book.rows ≡ is_some world.book.rows → world.book.faults ≤ new.book.faults
    → AppendsAtMostOne (world_of world) (world_of new) → HasActed step world new outcome → IsRunning start new rest all
run-more start world new step rest all outcome running case routes limit tells faults one acted = record {
  case = case ∙ running.case;
  routes = routes ∙ running.routes;
  limit = limit ∙ running.limit;
  tells = tells ∙ running.tells;
  faults = let before = running.faults in omega (arith, before, faults);
  grown = Begins-trans start.book.history world.book.history new.book.history running.grown (begins-one (world_of world) (world_of new) one);
  script = λ told.
      let does = some-then world.book.rows acted (running.tells ∙ told) in
      let left : world_of new ≡ world_then start.book.case (world_of world) step =
      ap (λ (a : Acted). a.1) does ∙ ap (λ (k : CaseShape). world_then k (world_of world) step) running.case in
      ap (λ (w : World). world_after start.book.case w rest) left ∙ running.script told;
}

-- a fault leaves the history
pub faulted-history : (step : Step) (old new : WorldState) → HasFaulted step old new → new.book.history ≡ old.book.history
faulted-history (steps.Claim worker interval) old new kept = ap (λ (w : World). w.history) kept
faulted-history (steps.Inject worker part) old new kept = ap (λ (w : World). w.history) kept
faulted-history (steps.Send worker) old new kept = ap (λ (w : World). w.history) kept
faulted-history (steps.Take worker message) old new kept = ap (λ (w : World). w.history) kept
faulted-history (steps.Write worker) old new kept = ap (λ (w : World). w.history) kept
faulted-history (steps.Fire worker part) old new kept = ap (λ (w : World). w.history) kept
faulted-history (steps.Report worker interval) old new kept = ap (λ (w : World). w.history) kept
faulted-history (steps.Resend worker) old new kept = ap (λ (w : World). w.history) kept
faulted-history (steps.Purge worker interval) old new kept = ap (λ (w : World). w.history) kept
faulted-history (steps.Repeat message) old new kept = ap (λ (w : World). w.history) kept
faulted-history (steps.Lose message) old new kept = ap (λ (w : World). w.history) kept
faulted-history (steps.Relay relay message) old new kept = ap (λ (w : World). w.history) kept
faulted-history (steps.Forget relay) old new kept = ap (λ (w : World). w.history) kept
faulted-history (steps.Crash worker) old new kept = ap (λ (w : World). w.history) kept

-- what was written so far begins what the script writes
pub run-begun : (start world new : WorldState) (left all : List Step) → IsRunning start world left all
    → new.book.history ≡ world.book.history → IsSome start.book.rows
    → Begins new.book.history (world_after start.book.case (world_of start) all).history
run-begun start world new left all running same told =
    subst (λ (h : List Entry). Begins h (world_after start.book.case (world_of start) all).history) (sym same)
    (subst (λ (w : World). Begins world.book.history w.history) (running.script told)
    (script-keeps start.book.case (world_of world) left).grown)

-- a script whose next step would have appended an entry writes more
pub run-short : (start world new : WorldState) (step : Step) (rest all : List Step) → IsRunning start world (step ∷ rest) all
    → new.book.history ≡ world.book.history → WouldAppend step world → IsSome start.book.rows
    → length new.book.history < length (world_after start.book.case (world_of start) all).history
run-short start world new step rest all running same would told =
    let appends = some-then world.book.rows would (running.tells ∙ told) in
    let after = world_then start.book.case (world_of world) step in
    let one : after.history ≡ world.book.history ++ appends.0 ∷ [] =
    ap (λ (k : CaseShape). (world_then k (world_of world) step).history) (sym running.case) ∙ appends.1 in
    let long : length after.history ≡ length world.book.history + 1 = ap length one ∙ length_push world.book.history appends.0 in
    let begins = Begins-length after.history (world_after start.book.case after rest).history
    (script-keeps start.book.case after rest).grown in
    let whole : length (world_after start.book.case after rest).history ≡ length (world_after start.book.case (world_of start) all).history =
    ap (λ (w : World). length w.history) (running.script told) in
    let kept : length new.book.history ≡ length world.book.history = ap (λ (h : List Entry). length h) same in
    omega (arith, long, begins, whole, kept)

-- so at the step at which it stopped
pub run-stopped : (start world new : WorldState) (all : List Step) (at : ℕ) (d : Step) → IsRunning start world (drop at all) all
    → at < length all → HasFaulted (get_or all at d) world new → WouldAppend (get_or all at d) world → IsSome start.book.rows
    → length new.book.history < length (world_after start.book.case (world_of start) all).history
run-stopped start world new all at d running below kept would told =
    let step = get_or all at d in
    run-short start world new step (drop (at + 1) all) all
    (subst (λ (left : List Step). IsRunning start world left all) (drop_more all at d below) running)
    (faulted-history step world new kept) would told
