-- What the steps of a script and the drain behind them write in a world.
use Rattle.std.proofs.Common.{◌≡◌, ◌∙◌, ◌≤◌, ◌+◌, List, length, Option, Some, None, IfSome, sym, ap, subst, inl, inr, true≢false, arith}
use Rattle.std.specs.Option.{is_some}
use Rattle.mw_types.specs.declared.entry.Entry.{Entry}
use Rattle.std.proofs.lemmas.List.{length-append}
use Rattle.topology.specs.Rules.{IsTopology, interval_count}
use Rattle.topology.specs.Folding.{RoutesView}
use Rattle.row_keeper.specs.Rows.{Rows}
use Rattle.run_history.specs.Cases.{CaseShape}
use Rattle.run_history.specs.Fences.{Begins}
use Rattle.world.specs.scripts.Acts.{scripted_history, world_after}
use Rattle.world.specs.scripts.Worlds.{World, empty_world}
use Rattle.plans.specs.declared.step.Step.{Step}
use Rattle.world.specs.drains.Drains.{IsDraining, HasEnded}
use Rattle.world.specs.Replays.{GoesOn, IsReplayed, IsWholeReplay}

-- a script that stopped on its way has written a beginning of what it writes
pub script_stopped : (routes : RoutesView) (case : CaseShape) (found : Option Rows) (world : World) (steps : List Step)
    (history : List Entry)
    → world ≡ empty_world routes case.topology → IfSome found (λ _. Begins history (world_after case world steps).history)
    → IfSome found (λ _. IsReplayed routes case steps history)
script_stopped routes case None world steps history same is = tt
script_stopped routes case (Some rows) world steps history same is =
    inl (subst (λ (w : World). Begins history (world_after case w steps).history) same is)

-- a drain behind a script goes on from what that writes
pub drained_behind : (routes : RoutesView) (case other : CaseShape) (old found : Option Rows) (world after : World) (steps : List Step)
    (front history : List Entry)
    → other ≡ case → is_some found ≡ is_some old → world ≡ empty_world routes case.topology
    → IfSome old (λ _. after ≡ world_after case world steps) → after.history ≡ front
    → Begins front history → IfSome found (λ _. IsDraining other (length front) history)
    → IfSome old (λ _. GoesOn case (scripted_history routes case steps) history)
drained_behind routes case other None found world after steps front history same tells begun done at begins draining = tt
drained_behind routes case other (Some rows) None world after steps front history same tells begun done at begins draining =
    absurd (true≢false (sym tells))
drained_behind routes case other (Some rows) (Some held) world after steps front history same tells begun done at begins draining =
    let written : front ≡ scripted_history routes case steps =
    sym at ∙ ap (λ (w : World). w.history) done ∙ ap (λ (w : World). (world_after case w steps).history) begun in
    record {
      begins = subst (λ f. Begins f history) written begins;
      draining = subst (λ (f : List Entry). IsDraining case (length f) history) written
          (subst (λ c. IsDraining c (length front) history) same draining);
    }

-- and where it came to its end it is the whole
pub whole_behind : (routes : RoutesView) (case other : CaseShape) (old found : Option Rows) (world after : World) (steps : List Step)
    (front history : List Entry)
    → other ≡ case → is_some found ≡ is_some old → world ≡ empty_world routes case.topology
    → IfSome old (λ _. after ≡ world_after case world steps) → after.history ≡ front
    → Begins front history → IfSome found (λ _. IsDraining other (length front) history)
    → IfSome found (λ _. HasEnded other (length front) history)
    → IfSome old (λ _. IsWholeReplay routes case steps history)
whole_behind routes case other None found world after steps front history same tells begun done at begins draining ended = tt
whole_behind routes case other (Some rows) None world after steps front history same tells begun done at begins draining ended =
    absurd (true≢false (sym tells))
whole_behind routes case other (Some rows) (Some held) world after steps front history same tells begun done at begins draining ended =
    let written : front ≡ scripted_history routes case steps =
    sym at ∙ ap (λ (w : World). w.history) done ∙ ap (λ (w : World). (world_after case w steps).history) begun in
    record {
      begins = subst (λ f. Begins f history) written begins;
      drained = record {
        draining = subst (λ (f : List Entry). IsDraining case (length f) history) written
            (subst (λ c. IsDraining c (length front) history) same draining);
        ended = subst (λ (f : List Entry). HasEnded case (length f) history) written
            (subst (λ c. HasEnded c (length front) history) same ended);
      };
    }

-- a drain that is not at its end is not the whole
pub unended_behind : (routes : RoutesView) (case other : CaseShape) (old found : Option Rows) (world after : World) (steps : List Step)
    (front history : List Entry)
    → other ≡ case → is_some found ≡ is_some old → world ≡ empty_world routes case.topology
    → IfSome old (λ _. after ≡ world_after case world steps) → after.history ≡ front
    → IfSome found (λ _. HasEnded other (length front) history → ⊥)
    → IfSome old (λ _. IsWholeReplay routes case steps history → ⊥)
unended_behind routes case other None found world after steps front history same tells begun done at more = tt
unended_behind routes case other (Some rows) None world after steps front history same tells begun done at more =
    absurd (true≢false (sym tells))
unended_behind routes case other (Some rows) (Some held) world after steps front history same tells begun done at more =
    let written : front ≡ scripted_history routes case steps =
    sym at ∙ ap (λ (w : World). w.history) done ∙ ap (λ (w : World). (world_after case w steps).history) begun in
    λ whole. more (subst (λ c. HasEnded c (length front) history) (sym same)
    (subst (λ (f : List Entry). HasEnded case (length f) history) (sym written) whole.drained.ended))

-- a script that stopped on its way has not written the whole: a drain behind it has intervals to claim
pub script_unended : (routes : RoutesView) (case : CaseShape) (found : Option Rows) (world : World) (steps : List Step)
    (history : List Entry)
    → IsTopology case.topology → world ≡ empty_world routes case.topology
    → IfSome found (λ _. Begins history (world_after case world steps).history)
    → IfSome found (λ _. IsWholeReplay routes case steps history → ⊥)
script_unended routes case None world steps history rules same is = tt
script_unended routes case (Some rows) world steps history rules same is = λ whole.
    let begins : Begins history (scripted_history routes case steps) =
    subst (λ (w : World). Begins history (world_after case w steps).history) same is in
    let longer : length history ≤ length (scripted_history routes case steps) = omega (
      arith,
      ap length begins.1,
      length-append history begins.0,
    ) in
    let claimed : length (scripted_history routes case steps) + interval_count case.topology ≤ length history =
    whole.drained.ended.earlier.earlier.earlier.claimed in
    omega (arith, longer, claimed, rules.some_injector)

-- what goes on from a script is a replay of it
pub replayed_of : (routes : RoutesView) (case : CaseShape) (found : Option Rows) (steps : List Step) (history : List Entry)
    → IfSome found (λ _. GoesOn case (scripted_history routes case steps) history)
    → IfSome found (λ _. IsReplayed routes case steps history)
replayed_of routes case None steps history is = tt
replayed_of routes case (Some rows) steps history is = inr is
