use Rattle.std.proofs.Common.{◌≡◌, ◌∙◌, ap}
use Rattle.list_lemmas.proofs.Told.{on_ok-map}
use Rattle.mw_types.specs.Outcomes.{EffectsView}
use Rattle.run_history.specs.Cases.{CaseShape}
use Rattle.holdings.proofs.HeldSteps.{ok-so}
use Rattle.outbox.proofs.PutLaws.{addressed-here, made-here}
use Rattle.outbox.proofs.sends.made_by.Goals as goal

-- what is made, by the case and the effects as they are seen
pub returns-clause-made : goal.returns-clause-made
returns-clause-made c =
    let shape = c.args.case.now.topology in
    let effects = c.args.effects.now in
    let topology : c.case.inside.topology ≡ shape = ap (λ (k : CaseShape). k.topology) c.case.view_is in
    let productions : c.as_slice-productions.result.now ≡ effects.productions =
    c.as_slice-productions.ensures.elements ∙ ap (λ (e : EffectsView). e.productions) c.effects.view_is in
    ok-so _ _ c.made.result
    (λ made is. made-here c.case.inside.topology shape c.as_slice-productions.result.now effects.productions c.args.name.now c.args.late
    made.items topology productions is) c.made.ensures.made

-- and where it goes
pub returns-clause-addressed : goal.returns-clause-addressed
returns-clause-addressed c =
    let shape = c.args.case.now.topology in
    let effects = c.args.effects.now in
    let topology : c.case.inside.topology ≡ shape = ap (λ (k : CaseShape). k.topology) c.case.view_is in
    let productions : c.as_slice-productions.result.now ≡ effects.productions =
    c.as_slice-productions.ensures.elements ∙ ap (λ (e : EffectsView). e.productions) c.effects.view_is in
    on_ok-map c.made.result
    (λ is. addressed-here c.case.inside.topology shape c.as_slice-productions.result.now effects.productions c.args.name.now c.args.late
    topology productions is) c.made.ensures.addressed
