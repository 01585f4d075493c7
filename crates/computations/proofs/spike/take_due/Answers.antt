use Rattle.std.proofs.Common.{subst, sym, ◌∙◌, ◌≡◌, IfSome}
use Rattle.mw_types.specs.declared.state.HeldTotal.{HeldTotal}
use Rattle.mw_types.specs.Bounds.{AreHeld}
use Rattle.computations.specs.Handlers.{due_time}
use Rattle.computations.specs.Bounded.{AreHeld-others}
use Rattle.computations.specs.LeavingLaws.{find-number}
use Rattle.computations.proofs.spike.take_due.Goals as goal

-- the total that is taken is due
pub returns-in_ok-take-in-Some-clause-due : goal.returns-in_ok-take-in-Some-clause-due
returns-in_ok-take-in-Some-clause-due c =
    let found = c.in-Some.ensures.first ∙ c.in_ok-take-in-Some.ensures.element in
    subst (λ due. IfSome due (λ (h : HeldTotal). due_time h.stamp ≡ c.args.time)) found
    (find-number (λ (h : HeldTotal). due_time h.stamp) c.args.time c.args.held.now)

-- without it the totals stay within bounds
pub returns-in_ok-take-in-Some-clause-within : goal.returns-in_ok-take-in-Some-clause-within
returns-in_ok-take-in-Some-clause-within c =
    subst AreHeld (sym c.in_ok-take-in-Some.ensures.gone)
    (AreHeld-others c.args.held.now c.in_ok-take-in-Some.field-0.stamp c.requires.within)
