use Rattle.std.proofs.Common.{subst, arith}
use Rattle.std.specs.Prelude.{All}
use Rattle.std.proofs.lemmas.List.{take_all}
use Rattle.std.proofs.lemmas.List.Elements.{All-more}
use Rattle.injector.specs.Sources.{IsSource}
use Rattle.run_history.specs.Inputs.{IsRunnable}
use Rattle.history_laws.proofs.runnable.case_is_runnable.Goals as goal

-- one more source keeps the rules
pub loop-items-preserved : goal.loop-items-preserved
loop-items-preserved c = All-more IsSource c.as_slice-items-items.result.now c.loop-items.items-index c.items-item.result
    (omega (arith, c.loop-items-test.true))
    c.loop-items.invariant (subst IsSource c.items-item.is c.count-lines.ensures.lawful)

-- all of them do
pub returns : goal.returns
returns c = record {
  runnable = subst IsRunnable c.case.view_is (record {
    topology = c.parts-parts.ensures.rules;
    sources = subst (All IsSource) c.as_slice-items-items.ensures.elements
        (subst (All IsSource) (take_all c.loop-items.items-index c.as_slice-items-items.result.now
        (omega (arith, c.loop-items-test.false))) c.loop-items.invariant);
  });
}
