use Rattle.std.proofs.Common.{◌∙◌, ◌-◌, refl, arith, rules}
use Rattle.workers.specs.Slices.{IsSliceFault}
use Rattle.workers.proofs.Serving.{fault-after, served-less, served-not, served-then}
use Rattle.workers.proofs.steps.fire_all.Goals as goal

pub loop-part-init : goal.loop-part-init
loop-part-init g c = record {
  served = served-not c.requires.fits;
  few = omega arith;
  low = (omega (arith, c.injectors_in-injectors.ensures.count));
  loan = refl;
  home = refl;
}

-- a call that fails
pub returns-in_err-fire_part-clause-served : goal.returns-in_err-fire_part-clause-served
returns-in_err-fire_part-clause-served g c = served-then (976 - c.loop-part.left) c.min-most.result 976
    (omega (arith, c.loop-part.invariant.few, c.min-most.ensures)) c.loop-part.invariant.served c.fire_part.ensures.served

-- has its cause
pub returns-in_err-fire_part-clause-fault : goal.returns-in_err-fire_part-clause-fault
returns-in_err-fire_part-clause-fault g c =
    let fault : IsSliceFault (g.D.Desk.view c.args.desk.now) (g.D.Desk.view c.fire_part.new.desk) c.in_err-fire_part.field-0.0 =
    fault-after c.loop-part.invariant.served.worked c.in_err-fire_part.ensures.fault in search rules

pub loop-part-preserved : goal.loop-part-preserved
loop-part-preserved g c = record {
  served = served-then (976 - c.loop-part.left) c.min-most.result (976 - (c.loop-part.left - c.min-most.result))
      (omega (arith, c.loop-part.invariant.few, c.min-most.ensures)) c.loop-part.invariant.served
      c.fire_part.ensures.served;
  few = omega (arith, c.loop-part.invariant.few);
  low = let low = c.loop-part.invariant.low in omega (arith, low);
  loan = c.fire_part.ensures.loan ∙ c.loop-part.invariant.loan;
  home = c.fire_part.ensures.home ∙ c.loop-part.invariant.home;
}

-- the loop is done
pub returns-clause-served : goal.returns-clause-served
returns-clause-served g c = served-less (976 - c.loop-part.left) 976 (omega arith)
    c.loop-part.invariant.served
