use Rattle.std.proofs.Common.{◌∙◌, ap, sym, subst}
use Rattle.std.specs.List.Sorted.{IsPermutation}
use Rattle.std.proofs.lemmas.List.Sorted.{IsPermutation-trans}
use Rattle.topology.specs.Shapes.{parts_of}
use Rattle.run_history.specs.Cases.{CaseShape}
use Rattle.plain_answer.specs.Plain.{plain_lines}
use Rattle.plain_answer.specs.Sends.{lines_in}
use Rattle.plain_answer.proofs.Moved.{lines-moved, plain-length}
use Rattle.plain_answer.proofs.text.sorted_lines.Goals as goal

-- there is a stream for each part
pub lines-requires : goal.lines-requires
lines-requires c =
    plain-length c.args.case.now c.args.streams.now c.requires
    ∙ ap (λ (k : CaseShape). parts_of k.topology) (sym c.case.view_is)

-- the lines are the plain ones in some order, and so in that of a sort
pub returns-clause-each_once : goal.returns-clause-each_once
returns-clause-each_once c =
    IsPermutation-trans (plain_lines c.args.case.now) c.in_ok-lines.lines.items c.sort.new.self.items
    (subst (IsPermutation (plain_lines c.args.case.now))
    (sym (c.in_ok-lines.ensures ∙ ap (λ (k : CaseShape). lines_in k.topology 0 c.args.streams.now) c.case.view_is))
    (lines-moved c.args.case.now c.args.streams.now c.requires))
    c.in_ok-sort.ensures.permutation
