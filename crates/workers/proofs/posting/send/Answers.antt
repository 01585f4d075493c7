use Rattle.std.proofs.Common.{◌∙◌, refl, ap, arith}
use Rattle.book.specs.Desks.{Home}
use Rattle.workers.proofs.Serving.{served-not, served-then}
use Rattle.workers.proofs.posting.send.Goals as goal

pub loop-init : goal.loop-init
loop-init g c = record {
  served = served-not c.requires.fits;
  passes = c.requires.passes;
  loan = refl;
  home = refl;
}

-- the desk is of the office's book still
pub send_one-requires-clause-book : goal.send_one-requires-clause-book
send_one-requires-clause-book g c = ap (λ (h : Home). h.book) c.loop.invariant.home ∙ c.requires.book

-- one message more was sent, or memory ran out
pub returns-in_err-send_one-clause-served : goal.returns-in_err-send_one-clause-served
returns-in_err-send_one-clause-served g c = served-then 0 0 0 (omega arith) c.loop.invariant.served c.send_one.ensures.served

pub loop-preserved : goal.loop-preserved
loop-preserved g c = record {
  served = served-then 0 0 0 (omega arith) c.loop.invariant.served c.send_one.ensures.served;
  passes = c.send_one.ensures.passes;
  loan = c.send_one.ensures.loan ∙ c.loop.invariant.loan;
  home = c.send_one.ensures.home ∙ c.loop.invariant.home;
}
