use Rattle.std.proofs.Common.{arith, refl}
use Rattle.workers.proofs.Doing.{done-not, done-then, keeps-then}
use Rattle.workers.proofs.Unmoved.{calm-not, calm-then}
use Rattle.workers.proofs.acting.order_all.Goals as goal

pub loop-at-init : goal.loop-at-init
loop-at-init g c = record {
  workers = c.requires.workers;
  done = done-not c.args.crew.now;
  passes = λ at d below. refl;
  healthy = λ healthy. healthy;
  calm = calm-not c.args.crew.now;
}

-- one worker more
pub loop-at-preserved : goal.loop-at-preserved
loop-at-preserved g c =
    let old = c.args.crew.now in
    let mid = c.loop-at.crew in
    let new = c.order.new.crew in
    let inv = c.loop-at.invariant in
    let n = c.order.ensures in
    let long = inv.done.long in
    record {
      workers = n.workers;
      done = done-then 0 0 0 old mid new (omega arith) inv.done n.done;
      passes = keeps-then (λ w. w.passes) old mid new long inv.passes n.passes;
      healthy = λ healthy. n.healthy (search) (inv.healthy healthy);
      calm = λ calm. calm-then old mid new long (inv.calm calm) (n.calm (inv.calm calm).0);
    }

-- so far where one is not ordered
pub returns-then-not-order-clause-done : goal.returns-then-not-order-clause-done
returns-then-not-order-clause-done g c = done-then 0 0 0 c.args.crew.now c.loop-at.crew c.order.new.crew (omega arith)
    c.loop-at.invariant.done c.order.ensures.done

pub returns-then-not-order-clause-calm : goal.returns-then-not-order-clause-calm
returns-then-not-order-clause-calm g c calm =
    let inv = c.loop-at.invariant in
    calm-then c.args.crew.now c.loop-at.crew c.order.new.crew inv.done.long (inv.calm calm) (c.order.ensures.calm (inv.calm calm).0)
