use Rattle.std.proofs.Common.{subst, arith}
use Rattle.std.specs.Prelude.{All}
use Rattle.std.proofs.lemmas.List.{take_all}
use Rattle.std.proofs.lemmas.List.Elements.{All-more}
use Rattle.injector.specs.Sources.{Source}
use Rattle.run_history.specs.Cases.{CaseShape}
use Rattle.history_laws.specs.Keys.{AreKeyed}
use Rattle.trace_lines.specs.Values.{AreValued, HasKeyAndValue}
use Rattle.trace_lines.proofs.keyed.case_is_keyed.Goals as goal

-- one more source has keys and values
pub loop-items-preserved : goal.loop-items-preserved
loop-items-preserved c = All-more (λ (s : Source). All HasKeyAndValue s) c.as_slice-items-items.result.now c.loop-items.items-index
    c.items-item.result (omega (arith, c.loop-items-test.true)) c.loop-items.invariant
    (subst (λ (s : Source). All HasKeyAndValue s) c.items-item.is c.lines_are_keyed.ensures)

pub returns-clause-keyed : goal.returns-clause-keyed
returns-clause-keyed c =
    let each = subst (All (λ (s : Source). All HasKeyAndValue s)) c.as_slice-items-items.ensures.elements
    (subst (All (λ (s : Source). All HasKeyAndValue s)) (take_all c.loop-items.items-index c.as_slice-items-items.result.now
    (omega (arith, c.loop-items-test.false))) c.loop-items.invariant) in
    subst (λ (s : CaseShape). AreKeyed s) c.case.view_is (λ k d less i l below. (each k d less i l below).key)

pub returns-clause-valued : goal.returns-clause-valued
returns-clause-valued c =
    let each = subst (All (λ (s : Source). All HasKeyAndValue s)) c.as_slice-items-items.ensures.elements
    (subst (All (λ (s : Source). All HasKeyAndValue s)) (take_all c.loop-items.items-index c.as_slice-items-items.result.now
    (omega (arith, c.loop-items-test.false))) c.loop-items.invariant) in
    subst (λ (s : CaseShape). AreValued s) c.case.view_is (λ k d less i l below. (each k d less i l below).value)
