use Rattle.std.proofs.Common.{◌+◌, arith, refl}
use Rattle.workers.proofs.Doing.{done-not, done-then, keeps-then}
use Rattle.workers.proofs.acting.claim_these.Goals as goal

pub loop-interval-init : goal.loop-interval-init
loop-interval-init g c = record {
  workers = c.requires.workers;
  done = done-not c.args.crew.now;
  passes = λ at d below. refl;
  orders = λ at d below. refl;
  healthy = λ healthy. healthy;
}

-- one interval more
pub loop-interval-preserved : goal.loop-interval-preserved
loop-interval-preserved g c =
    let old = c.args.crew.now in
    let mid = c.loop-interval.crew in
    let new = c.claim_where.new.crew in
    let inv = c.loop-interval.invariant in
    let n = c.claim_where.ensures in
    let long = inv.done.long in
    record {
      workers = n.workers;
      done = done-then c.loop-interval.interval 1 (c.loop-interval.interval + 1) old mid new (omega arith) inv.done n.done;
      passes = keeps-then (λ w. w.passes) old mid new long inv.passes n.passes;
      orders = keeps-then (λ w. w.orders) old mid new long inv.orders n.orders;
      healthy = λ healthy. n.healthy (search) (inv.healthy healthy);
    }

-- some may be claimed where one is not
pub returns-then-not-claim_where-clause-done : goal.returns-then-not-claim_where-clause-done
returns-then-not-claim_where-clause-done g c =
    let below = c.loop-interval-test.true in
    let few = c.intervals_in-intervals.ensures.few in
    done-then c.loop-interval.interval 1 61 c.args.crew.now c.loop-interval.crew c.claim_where.new.crew (omega (arith, below, few))
    c.loop-interval.invariant.done c.claim_where.ensures.done
