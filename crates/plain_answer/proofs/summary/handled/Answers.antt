use Rattle.std.proofs.Common.{◌≡◌, ◌+◌, ◌<◌, ◌∙◌, ap, length, arith}
use Rattle.topology.specs.Shapes.{injectors_of, parts_of}
use Rattle.run_history.specs.Cases.{CaseShape}
use Rattle.plain_answer.proofs.Making.{at-any}
use Rattle.plain_answer.proofs.Working.{members_long, work_left, work-all, long-next}
use Rattle.plain_answer.proofs.summary.handled.Goals as goal

-- all parts are left
pub loop-part-init : goal.loop-part-init
loop-part-init c =
    let inj : injectors_of c.case.inside.topology ≡ injectors_of c.args.case.now.topology =
    ap (λ (k : CaseShape). injectors_of k.topology) c.case.view_is in
    let none : 0 + work_left members_long c.args.case.now c.injectors-part.result ≡ work_left members_long c.args.case.now c.injectors-part.result = omega arith in
    record {
      begun = omega (arith, inj, c.injectors-part.ensures.count);
      sum = none ∙ work-all members_long c.args.case.now c.injectors-part.result (omega (arith, inj, c.injectors-part.ensures.count));
    }

-- one more
pub loop-part-preserved : goal.loop-part-preserved
loop-part-preserved c =
    let case = c.args.case.now in
    let part = c.loop-part.part in
    let reads = c.args.all.now.reads.items in
    let was = c.loop-part.invariant in
    let all : parts_of c.case.inside.topology ≡ parts_of case.topology = ap (λ (k : CaseShape). parts_of k.topology) c.case.view_is in
    let within : part < parts_of case.topology = omega (arith, all, c.parts-part-end.ensures.count, c.loop-part-test.true) in
    record {
      begun = omega (arith, was.begun);
      sum = long-next case part c.args.all.now.streams.items reads _ c.loop-part.sum c.len.result c.in_ok-sum.sum was.begun within
          c.requires.plain c.requires.read
          (c.len.ensures.count ∙ ap length (c.index.ensures ∙ at-any reads part _ _ (omega (arith, within, c.requires.read.parts))))
          c.in_ok-sum.ensures was.sum;
    }
