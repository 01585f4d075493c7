use Rattle.std.proofs.Common.{◌∙◌, List, map, subst, sym}
use Rattle.mw_types.specs.declared.entry.Entry.{Entry}
use Rattle.run_history.specs.Cases.{CaseShape}
use Rattle.shared_book.specs.declared.views.Settled.{Settled}
use Rattle.shared_book.specs.Places.{places_after}
use Rattle.shared_book.specs.Settling.{AreSettled}
use Rattle.shared_book.proofs.Calls.{seen_history}
use Rattle.shared_book.proofs.Filling.{inputs-settled}
use Rattle.shared_book.proofs.Staying.{settled-anew, settled-kept}
use Rattle.shared_book.proofs.Told.{turn_home}
use Rattle.shared_book.proofs.settling.settle_leases.Goals as goal

-- where they are settled they stay
pub returns-then-settled-clause-inputs : goal.returns-then-settled-clause-inputs
returns-then-settled-clause-inputs g c =
    let v = c.args.place.now.me.0 in
    let shape = v.basis.case.topology in
    inputs-settled shape v.front c.args.marks.now c.args.claims.now c.args.inputs.now c.args.inputs.now 61 v.settled
    (settled-kept shape v.front c.args.marks.now c.args.claims.now c.args.inputs.now (c.requires.current c.if-settled.true))
    c.told-inputs c.requires.claimed c.requires.fed
    ∙ (λ i. map (λ (p : Settled). p.input) (places_after shape v.front (c.requires.loaded i) 0 v.settled))

pub returns-clause-turn : goal.returns-clause-turn
returns-clause-turn g c =
    let o = c.out-core in
    let i = c.into_core-core in
    turn_home c.args.place.now.me o.new.place.me c.home.new.place.me o.result i.result.1 o.ensures.view c.home.ensures.view
    (i.ensures.core ∙ c.of-book.ensures.core) c.requires.turn.turn o.ensures.core c.requires.turn.claimed

pub returns-clause-inputs : goal.returns-clause-inputs
returns-clause-inputs g c =
    let v = c.args.place.now.me.0 in
    let o = c.out-core in
    let b = c.of-book in
    let here = c.requires.here.case in
    let seen = seen_history v o.result b.result c.args.shared.now.case.now o.ensures.core b.ensures.core b.ensures.case here in
    inputs-settled b.result.case.topology b.result.history c.args.marks.now c.args.claims.now c.args.inputs.now c.settle-least.result 61
    v.settled c.settle-least.ensures.settled c.told-inputs c.requires.claimed c.requires.fed
    ∙ (λ i. map (λ (p : Settled). p.input)
    (places_after ((b.ensures.case ∙ sym here) i).topology (seen i) (c.requires.loaded i) 0 v.settled))

pub returns-clause-settled : goal.returns-clause-settled
returns-clause-settled g c =
    let v = c.args.place.now.me.0 in
    let o = c.out-core in
    let b = c.of-book in
    let here = c.requires.here.case in
    let seen = seen_history v o.result b.result c.args.shared.now.case.now o.ensures.core b.ensures.core b.ensures.case here in
    subst (λ (z : CaseShape × List Entry). AreSettled z.0.topology z.1 c.args.marks.now c.args.claims.now c.settle-least.result)
    (λ i. ((b.ensures.case ∙ sym here) i, seen i))
    (settled-anew b.result.case.topology b.result.history c.args.marks.now c.args.claims.now c.args.inputs.now c.settle-least.result
    c.settle-least.ensures.settled)
