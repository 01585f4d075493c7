use Rattle.std.proofs.Common.{◌∙◌, ◌+◌, ◌*◌, refl, arith, rules}
use Rattle.workers.specs.Slices.{IsSliceFault}
use Rattle.workers.proofs.Serving.{fault-after, served-less, served-not, served-then}
use Rattle.workers.proofs.steps.purge_all.Goals as goal

pub loop-interval-init : goal.loop-interval-init
loop-interval-init g c = record {
  served = served-not c.requires.fits;
  loan = refl;
  home = refl;
}

-- a call that fails
pub returns-in_err-purge_at-clause-served : goal.returns-in_err-purge_at-clause-served
returns-in_err-purge_at-clause-served g c = served-then (8 * c.loop-interval.interval) 8 488
    (omega (arith, c.loop-interval-test.true, c.intervals_in-intervals.ensures.few)) c.loop-interval.invariant.served
    c.purge_at.ensures.served

-- has its cause
pub returns-in_err-purge_at-clause-fault : goal.returns-in_err-purge_at-clause-fault
returns-in_err-purge_at-clause-fault g c =
    let fault : IsSliceFault (g.D.Desk.view c.args.desk.now) (g.D.Desk.view c.purge_at.new.desk) c.in_err-purge_at.field-0.0 =
    fault-after c.loop-interval.invariant.served.worked c.in_err-purge_at.ensures.fault in search rules

pub loop-interval-preserved : goal.loop-interval-preserved
loop-interval-preserved g c = record {
  served = served-then (8 * c.loop-interval.interval) 8 (8 * (c.loop-interval.interval + 1)) (omega arith) c.loop-interval.invariant.served
      c.purge_at.ensures.served;
  loan = c.purge_at.ensures.loan ∙ c.loop-interval.invariant.loan;
  home = c.purge_at.ensures.home ∙ c.loop-interval.invariant.home;
}

-- the loop is done
pub returns-clause-served : goal.returns-clause-served
returns-clause-served g c = served-less (8 * c.loop-interval.interval) 488 (grind (arith, c.intervals_in-intervals.ensures.few))
    c.loop-interval.invariant.served
