use Rattle.std.proofs.Common.{◌≡◌, ◌+◌, ℕ, arith, length, refl, subst}
use Rattle.run_history.specs.Cases.{intervals_of}
use Rattle.workers.specs.Claims.{HasClaimedTo, HoldFirst}
use Rattle.workers.proofs.Beginning.{claimed-none, claimed-turn}
use Rattle.workers.proofs.Doing.{done-not, done-then, keeps-then}
use Rattle.workers.proofs.Holding.{hold-none, hold-told, only-told}
use Rattle.workers.proofs.claiming.claim_all.Goals as goal

pub loop-interval-init : goal.loop-interval-init
loop-interval-init g c = record {
  workers = c.requires.workers;
  healthy = c.requires.healthy;
  done = done-not c.args.crew.now;
  passes = λ at d below. refl;
  orders = λ at d below. refl;
  claimed = claimed-none (length c.args.crew.now) 0 c.args.crew.now c.requires.fresh;
  held = hold-none c.args.crew.now;
  last = c.requires.some;
}

-- one interval more
pub loop-interval-preserved : goal.loop-interval-preserved
loop-interval-preserved g c =
    let old = c.args.crew.now in
    let mid = c.loop-interval.crew in
    let new = c.claim_next.new.crew in
    let interval = c.loop-interval.interval in
    let inv = c.loop-interval.invariant in
    let n = c.if-not-claim_next.ensures in
    let long = inv.done.long in
    let after = n.done.long in
    let last = inv.last in
    record {
      workers = n.workers;
      healthy = n.healthy search;
      done = done-then interval 1 (interval + 1) old mid new (omega arith) inv.done n.done;
      passes = keeps-then (λ w. w.passes) old mid new long inv.passes n.passes;
      orders = keeps-then (λ w. w.orders) old mid new long inv.orders n.orders;
      claimed = claimed-turn interval old mid new long after n.claimed;
      held = n.held (search) inv.held;
      last = omega (arith, last, after);
    }

-- some may be claimed where one is not
pub returns-then-not-claim_next-clause-done : goal.returns-then-not-claim_next-clause-done
returns-then-not-claim_next-clause-done g c =
    let below = c.loop-interval-test.true in
    let few = c.intervals_in-intervals.ensures.few in
    done-then c.loop-interval.interval 1 61 c.args.crew.now c.loop-interval.crew c.claim_next.new.crew (omega (arith, below, few))
    c.loop-interval.invariant.done c.claim_next.ensures.done

pub returns-clause-done : goal.returns-clause-done
returns-clause-done g c =
    let few = c.intervals_in-intervals.ensures.few in
    done-then c.loop-interval.interval 0 61 c.args.crew.now c.loop-interval.crew c.tell_all.new.crew (omega (arith, few))
    c.loop-interval.invariant.done c.tell_all.ensures.done

-- all are claimed
pub returns-clause-only : goal.returns-clause-only
returns-clause-only g c ok =
    let workers = length c.args.crew.now in
    let mid = c.loop-interval.crew in
    let inv = c.loop-interval.invariant in
    let t = c.tell_all.ensures in
    let all = c.intervals_in-intervals.ensures.all in
    let past = c.loop-interval-test.false in
    let same : c.loop-interval.interval ≡ length (intervals_of c.args.case.now.topology) = omega (arith, all, past) in
    only-told workers c.loop-interval.last c.args.case.now mid c.tell_all.new.crew inv.last t.done.long t.met t.own
    (subst (λ (n : ℕ). HasClaimedTo workers n c.loop-interval.last mid) same inv.claimed)

pub returns-clause-held : goal.returns-clause-held
returns-clause-held g c ok =
    let mid = c.loop-interval.crew in
    let inv = c.loop-interval.invariant in
    let t = c.tell_all.ensures in
    let all = c.intervals_in-intervals.ensures.all in
    let past = c.loop-interval-test.false in
    let same : c.loop-interval.interval ≡ length (intervals_of c.args.case.now.topology) = omega (arith, all, past) in
    hold-told 0 (length (intervals_of c.args.case.now.topology)) mid c.tell_all.new.crew t.done t.nodes
    (subst (λ (n : ℕ). HoldFirst n mid) same inv.held)
