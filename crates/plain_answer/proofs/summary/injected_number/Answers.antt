use Rattle.std.proofs.Common.{◌∙◌, ap, arith, length, sum_by}
use Rattle.std.proofs.lemmas.List.{take_all}
use Rattle.injector.specs.Sources.{Source}
use Rattle.plain_answer.proofs.Working.{sources-here}
use Rattle.plain_answer.proofs.summary.injected_number.Goals as goal

-- those of all files
pub returns : goal.returns
returns c =
    c.loop-source.invariant
    ∙ ap (sum_by (λ (source : Source). length source))
    (take_all c.loop-source.source-index c.as_slice-sources.result.now (omega (arith, c.loop-source-test.false))
    ∙ c.as_slice-sources.ensures.elements
    ∙ sources-here c.case.inside.topology c.case.inside.items c.args.case.now c.case.view_is c.case.invariant.source_each)
