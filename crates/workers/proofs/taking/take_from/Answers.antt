use Rattle.std.proofs.Common.{◌∙◌, ◌+◌, refl, arith}
use Rattle.workers.proofs.Serving.{served-not, served-then}
use Rattle.workers.proofs.taking.take_from.Goals as goal

pub loop-done-init : goal.loop-done-init
loop-done-init g c = record {
  served = served-not c.requires.fits;
  pass = c.requires.pass;
  loan = refl;
  home = refl;
}

-- the desk is not alone still
pub take_one-requires-clause-alone : goal.take_one-requires-clause-alone
take_one-requires-clause-alone g c = c.loop-done.invariant.served.worked.alone ∙ c.requires.alone

-- a message was taken, and that failed
pub returns-in_err-take_one-clause-served : goal.returns-in_err-take_one-clause-served
returns-in_err-take_one-clause-served g c = served-then c.loop-done.done 1 c.args.most (omega (arith, c.loop-done-test.true))
    c.loop-done.invariant.served c.take_one.ensures.served

-- the worker stalls
pub returns-then-branch-clause-served : goal.returns-then-branch-clause-served
returns-then-branch-clause-served g c = served-then c.loop-done.done 1 c.args.most (omega (arith, c.loop-done-test.true))
    c.loop-done.invariant.served c.take_one.ensures.served

pub returns-then-branch-clause-taken : goal.returns-then-branch-clause-taken
returns-then-branch-clause-taken g c = served-then c.loop-done.done 1 (c.loop-done.done + 1) (omega arith) c.loop-done.invariant.served
    c.take_one.ensures.served

pub loop-done-preserved : goal.loop-done-preserved
loop-done-preserved g c = record {
  served = served-then c.loop-done.done 1 (c.loop-done.done + 1) (omega arith) c.loop-done.invariant.served c.take_one.ensures.served;
  pass = c.pop.ensures.pass;
  loan = c.take_one.ensures.loan ∙ c.loop-done.invariant.loan;
  home = c.take_one.ensures.home ∙ c.loop-done.invariant.home;
}
