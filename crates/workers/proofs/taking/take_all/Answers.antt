use Rattle.std.proofs.Common.{◌∙◌, ◌-◌, refl, ap, arith}
use Rattle.book.specs.Desks.{Home}
use Rattle.workers.proofs.Serving.{served-less, served-not, served-then}
use Rattle.workers.proofs.taking.take_all.Goals as goal

pub loop-interval-init : goal.loop-interval-init
loop-interval-init g c = record {
  few = (let all = c.of-budget.ensures in omega (arith, all));
  served = served-less 0 (3904 - c.of-budget.result) (omega arith) (served-not c.requires.fits);
  passes = c.requires.passes;
  loan = refl;
  home = refl;
}

-- the desk is not alone still
pub take_at-requires-clause-alone : goal.take_at-requires-clause-alone
take_at-requires-clause-alone g c = c.loop-interval.invariant.served.worked.alone ∙ c.requires.alone

-- and of the office's book
pub take_at-requires-clause-book : goal.take_at-requires-clause-book
take_at-requires-clause-book g c = ap (λ (h : Home). h.book) c.loop-interval.invariant.home ∙ c.requires.book

-- an interval more, and that failed
pub returns-in_err-take_at-clause-served : goal.returns-in_err-take_at-clause-served
returns-in_err-take_at-clause-served g c =
    let few = c.loop-interval.invariant.few in
    let less = c.take_at.ensures.less in
    served-then (3904 - c.loop-interval.left) (c.loop-interval.left - c.take_at.new.budget) 3904 (omega (arith, few, less))
    c.loop-interval.invariant.served c.take_at.ensures.served

-- the worker stalls
pub returns-then-branch-clause-served : goal.returns-then-branch-clause-served
returns-then-branch-clause-served g c =
    let few = c.loop-interval.invariant.few in
    let less = c.take_at.ensures.less in
    served-then (3904 - c.loop-interval.left) (c.loop-interval.left - c.take_at.new.budget) 3904 (omega (arith, few, less))
    c.loop-interval.invariant.served c.take_at.ensures.served

pub loop-interval-preserved : goal.loop-interval-preserved
loop-interval-preserved g c =
    let few = c.loop-interval.invariant.few in
    let less = c.take_at.ensures.less in record {
      few = omega (arith, few, less);
      served = served-then (3904 - c.loop-interval.left) (c.loop-interval.left - c.take_at.new.budget) (3904 - c.take_at.new.budget)
          (omega (arith, few, less)) c.loop-interval.invariant.served c.take_at.ensures.served;
      passes = c.take_at.ensures.passes;
      loan = c.take_at.ensures.loan ∙ c.loop-interval.invariant.loan;
      home = c.take_at.ensures.home ∙ c.loop-interval.invariant.home;
    }

-- the loop is done
pub returns-clause-served : goal.returns-clause-served
returns-clause-served g c = served-less (3904 - c.loop-interval.left) 3904 (omega arith) c.loop-interval.invariant.served
