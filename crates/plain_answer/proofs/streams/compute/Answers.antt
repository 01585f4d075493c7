use Rattle.std.proofs.Common.{◌≡◌, ℕ, ◌+◌, ◌<◌, ◌∙◌, subst, ap, sym, arith}
use Rattle.std.specs.List.Sorted.{IsPermutation}
use Rattle.plain_answer.specs.Plain.{plain_of, fires_of}
use Rattle.topology.specs.Shapes.{consumers_of, injectors_of, kind_of, parts_of}
use Rattle.run_history.specs.Cases.{CaseShape}
use Rattle.plain_answer.specs.Sends.{sent_along}
use Rattle.plain_answer.proofs.Making.{made-injected, made-next, made-all, made-long, at-any}
use Rattle.plain_answer.proofs.Moved.{fires_of-same}
use Rattle.plain_answer.proofs.Sending.{read-next}
use Rattle.plain_answer.proofs.Working.{work_left, work-all, work-none, work-next}
use Rattle.plain_answer.proofs.streams.compute.Goals as goal

-- those of the injectors are there
pub loop-part-init : goal.loop-part-init
loop-part-init c =
    let inj : injectors_of c.case.inside.topology ≡ injectors_of c.args.case.now.topology =
    ap (λ (k : CaseShape). injectors_of k.topology) c.case.view_is in
    let left : ℕ = work_left fires_of c.args.case.now c.injectors-part.result in
    let none : 0 + left ≡ left = omega arith in
    record {
      begun = omega (arith, inj, c.injectors-part.ensures.count);
      made = made-injected c.args.case.now _ c.args.all.now.streams.items (omega (arith, inj, c.injectors-part.ensures.count))
          c.requires.injected;
      read = c.requires.read;
      fired = none ∙ work-all fires_of c.args.case.now c.injectors-part.result (omega (arith, inj, c.injectors-part.ensures.count));
    }

-- one more
pub loop-part-preserved : goal.loop-part-preserved
loop-part-preserved c =
    let case = c.args.case.now in
    let part = c.loop-part.part in
    let was = c.loop-part.invariant in
    let reads = c.loop-part.all.reads.items in
    let all : parts_of c.case.inside.topology ≡ parts_of case.topology = ap (λ (k : CaseShape). parts_of k.topology) c.case.view_is in
    let within : part < parts_of case.topology = omega (arith, all, c.parts-part-end.ensures.count, c.loop-part-test.true) in
    let kind = ap (λ (k : CaseShape). kind_of k.topology part) (sym c.case.view_is) ∙ c.kind.ensures.kind in
    let members = c.as_slice.ensures.elements ∙ c.index.ensures ∙ at-any reads part _ _ (omega (arith, was.read.parts, within)) in
    record {
      begun = omega (arith, was.begun);
      made = made-next case part _ c.loop-part.all.streams.items _ reads _ was.begun within kind was.made was.read
          (subst (λ l. IsPermutation (plain_of c.kind.result l) c.in_ok-given.given.records) members c.in_ok-given.ensures.records)
          c.in_ok-put.ensures.streams;
      read = read-next case.topology part c.loop-part.all.streams.items _ reads _ _
          (made-long case part c.loop-part.all.streams.items was.made) c.in_ok-put.ensures.streams
          (c.in_ok-put.ensures.reads ∙ ap (λ s. sent_along s reads c.in_ok-given.given.records)
          (c.consumers.ensures.subscribed ∙ ap (λ (k : CaseShape). consumers_of k.topology part) c.case.view_is)) was.read;
      fired = work-next fires_of fires_of-same case part c.kind.result c.loop-part.all.streams.items reads _ c.loop-part.fired
          c.in_ok-given.given.fires c.in_ok-fired.fired c.case_is_runnable.ensures.runnable was.begun within kind was.made was.read
          (c.in_ok-given.ensures.fires ∙ ap (fires_of c.kind.result) members) c.in_ok-fired.ensures was.fired;
    }

-- those of all parts are there
pub returns-clause-plain : goal.returns-clause-plain
returns-clause-plain c =
    let all : parts_of c.case.inside.topology ≡ parts_of c.args.case.now.topology =
    ap (λ (k : CaseShape). parts_of k.topology) c.case.view_is in
    made-all c.args.case.now c.loop-part.part c.loop-part.all.streams.items
    (omega (arith, all, c.parts-part-end.ensures.count, c.loop-part-test.false)) c.loop-part.invariant.made

-- and nothing is left to fire
pub returns-clause-fired : goal.returns-clause-fired
returns-clause-fired c =
    let all : parts_of c.case.inside.topology ≡ parts_of c.args.case.now.topology =
    ap (λ (k : CaseShape). parts_of k.topology) c.case.view_is in
    let none = work-none fires_of c.args.case.now c.loop-part.part
    (omega (arith, all, c.parts-part-end.ensures.count, c.loop-part-test.false)) in
    omega (arith, none, c.loop-part.invariant.fired)
