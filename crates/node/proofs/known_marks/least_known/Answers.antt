use Rattle.std.proofs.Common.{rules, arith, ◌≡◌, ◌∙◌, ℕ, List, ap, subst, length}
use Rattle.key_intervals.specs.declared.bounds.Bounds.{Bounds}
use Rattle.run_history.specs.Cases.{CaseShape, intervals_of}
use Rattle.node.specs.MarkSteps.{IsLeastSoFar}
use Rattle.node.proofs.FitLaws.{looked_twice}
use Rattle.node.proofs.MarkLaws.{least-all, least-step}
use Rattle.node.proofs.known_marks.least_known.Goals as goal

-- with one interval more
pub loop-interval-preserved : goal.loop-interval-preserved
loop-interval-preserved g c =
    let old = g.D.Desk.view c.args.desk.now in
    let mid = g.D.Desk.view c.loop-interval.desk in
    let new = g.D.Desk.view c.lesser-least.new.desk in
    let so_far = c.loop-interval.invariant in
    let more = c.lesser-least.ensures in record {
      so_far = least-step (intervals_of c.args.case.now.topology) c.args.part old.marks mid.marks new.marks c.bounds.result.now
          c.loop-interval.interval c.loop-interval.least c.lesser-least.result c.bounds.ensures.at so_far.marks.rise more.marks.rise
          so_far.so_far more.lesser;
      looked = looked_twice old mid new so_far.looked more.looked;
      marks = record {
        rise = λ i. let one = so_far.marks.rise i in let two = more.marks.rise i in omega (arith, one, two);
        same = λ alone. more.marks.same (so_far.looked.alone ∙ alone) ∙ so_far.marks.same alone;
      };
      loan = more.loan ∙ so_far.loan;
      home = more.home ∙ so_far.home;
    }

-- after the last interval it is the least known mark
pub returns-clause-known : goal.returns-clause-known
returns-clause-known g c =
    let shape = c.args.case.now.topology in
    let old = g.D.Desk.view c.args.desk.now in
    let new = g.D.Desk.view c.loop-interval.desk in
    let last : c.loop-interval.interval ≡ length (intervals_of shape) = search (rules, arith) in
    least-all shape c.args.part old new c.loop-interval.least (c.sound.ensures.sound.marks ∙ ap (λ (k : CaseShape). length
    (intervals_of k.topology)) c.requires.case)
    (c.sound-2.ensures.sound.marks ∙ ap (λ (k : CaseShape). length (intervals_of k.topology))
    (c.loop-interval.invariant.looked.case ∙ c.requires.case))
    (subst (λ (n : ℕ). IsLeastSoFar (intervals_of shape) c.args.part old.marks new.marks c.loop-interval.least n) last
    c.loop-interval.invariant.so_far)
