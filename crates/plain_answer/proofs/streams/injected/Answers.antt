use Rattle.std.proofs.Common.{◌≡◌, ◌++◌, ◌∷◌, ◌≤◌, [], ◌∙◌, ap, sym, length, get_or, arith}
use Rattle.topology.specs.Shapes.{injectors_of}
use Rattle.std.proofs.lemmas.List.{take_all}
use Rattle.run_history.specs.Cases.{CaseShape, source_of}
use Rattle.plain_answer.specs.Plain.{injected_of}
use Rattle.plain_answer.proofs.Making.{injected-more, source-there}
use Rattle.plain_answer.proofs.streams.injected.Goals as goal

-- the record of one more line
pub loop-line-preserved : goal.loop-line-preserved
loop-line-preserved c =
    c.in_ok-push.ensures.appended ∙ ap (λ l. l ++ c.in_ok-line_record.field-0 ∷ []) c.loop-line.invariant
    ∙ injected-more (source_of c.args.case.now c.args.part) c.loop-line.line c.in_ok-line_record.field-0 c.in_ok-line_record.ensures.item

-- those of all lines
pub returns : goal.returns
returns c =
    let inj : injectors_of c.case.inside.topology ≡ injectors_of c.args.case.now.topology =
    ap (λ (k : CaseShape). injectors_of k.topology) c.case.view_is in
    let source : source_of c.args.case.now c.args.part ≡ c.index-as_slice-part.result =
    ap (λ (k : CaseShape). source_of k c.args.part) (sym c.case.view_is)
    ∙ source-there c.case.inside.items c.args.part c.index-as_slice-part.result
    (omega (arith, c.requires, inj, c.case.invariant.source_each))
    (c.index-as_slice-part.is ∙ ap (λ l. get_or l c.args.part c.index-as_slice-part.result) c.as_slice.ensures.elements) in
    let past : length (source_of c.args.case.now c.args.part) ≤ c.loop-line.line =
    omega (arith, ap length source, c.count-line-end.ensures.count, c.loop-line-test.false) in
    c.loop-line.invariant ∙ ap injected_of (take_all c.loop-line.line (source_of c.args.case.now c.args.part) past)
