use Rattle.std.proofs.Common.{◌∙◌, ◌<◌, refl, sym, subst, arith, length}
use Rattle.run_history.specs.Cases.{CaseShape, intervals_of}
use Rattle.node.proofs.FitLaws.{looked_not, looked_twice}
use Rattle.workers.proofs.learning.load_marks.Goals as goal

pub loop-interval-init : goal.loop-interval-init
loop-interval-init g c = record { looked = looked_not (g.D.Desk.view c.args.desk.now); loan = refl; home = refl }

-- the interval is there
pub mark-mark-requires : goal.mark-mark-requires
mark-mark-requires g c = record {
  there = subst (λ (k : CaseShape). c.loop-interval.interval < length (intervals_of k.topology))
      (sym (c.loop-interval.invariant.looked.case ∙ c.requires.case))
      (omega (arith, c.loop-interval-test.true, c.intervals_in-intervals.ensures.all));
}

pub loop-interval-preserved : goal.loop-interval-preserved
loop-interval-preserved g c = record {
  looked = looked_twice (g.D.Desk.view c.args.desk.now) (g.D.Desk.view c.loop-interval.desk) (g.D.Desk.view c.mark-mark.new.self)
      c.loop-interval.invariant.looked c.mark-mark.ensures.looked;
  loan = c.mark-mark.ensures.loan ∙ c.loop-interval.invariant.loan;
  home = c.mark-mark.ensures.home ∙ c.loop-interval.invariant.home;
}
