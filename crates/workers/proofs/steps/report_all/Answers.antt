use Rattle.std.proofs.Common.{◌∙◌, refl, arith, rules}
use Rattle.workers.specs.Slices.{IsSliceFault}
use Rattle.workers.proofs.Serving.{fault-after, served-not, served-then}
use Rattle.workers.proofs.steps.report_all.Goals as goal

pub loop-interval-init : goal.loop-interval-init
loop-interval-init g c = record {
  served = served-not c.requires.fits;
  loan = refl;
  home = refl;
}

-- a call that fails
pub returns-in_err-until_free-clause-served : goal.returns-in_err-until_free-clause-served
returns-in_err-until_free-clause-served g c = served-then 0 0 0 (omega arith) c.loop-interval.invariant.served
    c.until_free.ensures.served

-- has its cause
pub returns-in_err-until_free-clause-fault : goal.returns-in_err-until_free-clause-fault
returns-in_err-until_free-clause-fault g c =
    let fault : IsSliceFault (g.D.Desk.view c.args.desk.now) (g.D.Desk.view c.until_free.new.desk) c.in_err-until_free.field-0.0 =
    fault-after c.loop-interval.invariant.served.worked c.in_err-until_free.ensures.fault in search rules

pub loop-interval-preserved : goal.loop-interval-preserved
loop-interval-preserved g c = record {
  served = served-then 0 0 0 (omega arith) c.loop-interval.invariant.served
      c.until_free.ensures.served;
  loan = c.until_free.ensures.loan ∙ c.loop-interval.invariant.loan;
  home = c.until_free.ensures.home ∙ c.loop-interval.invariant.home;
}
