use Rattle.std.proofs.Common.{◌∙◌, ◌+◌, refl, arith, rules}
use Rattle.workers.specs.Slices.{IsSliceFault}
use Rattle.workers.proofs.Serving.{fault-after, served-less, served-not, served-then}
use Rattle.workers.proofs.steps.fire_part.Goals as goal

pub loop-done-init : goal.loop-done-init
loop-done-init g c = record {
  served = served-not c.requires.fits;
  loan = refl;
  home = refl;
}

-- a call that fails
pub returns-in_err-fire_next-clause-served : goal.returns-in_err-fire_next-clause-served
returns-in_err-fire_next-clause-served g c = served-then c.loop-done.done 1 c.args.most (omega (arith, c.loop-done-test.true))
    c.loop-done.invariant.served c.fire_next.ensures.served

-- has its cause
pub returns-in_err-fire_next-clause-fault : goal.returns-in_err-fire_next-clause-fault
returns-in_err-fire_next-clause-fault g c =
    let fault : IsSliceFault (g.D.Desk.view c.args.desk.now) (g.D.Desk.view c.fire_next.new.desk) c.in_err-fire_next.field-0.0 =
    fault-after c.loop-done.invariant.served.worked c.in_err-fire_next.ensures.fault in search rules

-- none was due
pub returns-then-branch-clause-served : goal.returns-then-branch-clause-served
returns-then-branch-clause-served g c = served-then c.loop-done.done 1 c.args.most (omega (arith, c.loop-done-test.true))
    c.loop-done.invariant.served c.fire_next.ensures.served

pub loop-done-preserved : goal.loop-done-preserved
loop-done-preserved g c = record {
  served = served-then c.loop-done.done 1 (c.loop-done.done + 1) (omega arith) c.loop-done.invariant.served c.fire_next.ensures.served;
  loan = c.fire_next.ensures.loan ∙ c.loop-done.invariant.loan;
  home = c.fire_next.ensures.home ∙ c.loop-done.invariant.home;
}

-- the loop is done
pub returns-clause-served : goal.returns-clause-served
returns-clause-served g c = served-less c.loop-done.done c.args.most (grind arith) c.loop-done.invariant.served
