use Rattle.std.proofs.Common.{◌∙◌, ◌+◌, refl, arith, rules}
use Rattle.workers.specs.Slices.{IsSliceFault}
use Rattle.workers.proofs.Serving.{fault-after, served-less, served-not, served-then}
use Rattle.workers.proofs.steps.purge_at.Goals as goal

pub loop-done-init : goal.loop-done-init
loop-done-init g c = record {
  served = served-not c.requires.fits;
  loan = refl;
  home = refl;
}

-- a call that fails
pub returns-in_err-outcome-clause-served : goal.returns-in_err-outcome-clause-served
returns-in_err-outcome-clause-served g c = served-then c.loop-done.done 1 8 (omega (arith, c.loop-done-test.true))
    c.loop-done.invariant.served c.until_free.ensures.served

-- has its cause
pub returns-in_err-outcome-clause-fault : goal.returns-in_err-outcome-clause-fault
returns-in_err-outcome-clause-fault g c =
    let fault : IsSliceFault (g.D.Desk.view c.args.desk.now) (g.D.Desk.view c.until_free.new.desk) c.in_err-outcome.field-0.0 =
    fault-after c.loop-done.invariant.served.worked c.in_err-outcome.ensures.fault in search rules

-- there was nothing to do
pub returns-then-is_nothing-clause-served : goal.returns-then-is_nothing-clause-served
returns-then-is_nothing-clause-served g c = served-then c.loop-done.done 1 8 (omega (arith, c.loop-done-test.true))
    c.loop-done.invariant.served c.until_free.ensures.served

pub loop-done-preserved : goal.loop-done-preserved
loop-done-preserved g c = record {
  served = served-then c.loop-done.done 1 (c.loop-done.done + 1) (omega arith) c.loop-done.invariant.served c.until_free.ensures.served;
  loan = c.until_free.ensures.loan ∙ c.loop-done.invariant.loan;
  home = c.until_free.ensures.home ∙ c.loop-done.invariant.home;
}

-- the loop is done
pub returns-clause-served : goal.returns-clause-served
returns-clause-served g c = served-less c.loop-done.done 8 (grind arith) c.loop-done.invariant.served
