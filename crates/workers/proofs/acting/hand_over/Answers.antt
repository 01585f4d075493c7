use Rattle.std.proofs.Common.{arith}
use Rattle.workers.proofs.Doing.{done-then, keeps-then}
use Rattle.workers.proofs.acting.hand_over.Goals as goal

pub returns-clause-done : goal.returns-clause-done
returns-clause-done g c = done-then 0 61 61 c.args.crew.now c.crash_where.new.crew c.claim_these.new.crew (omega arith)
    c.crash_where.ensures.done c.claim_these.ensures.done

pub returns-clause-passes : goal.returns-clause-passes
returns-clause-passes g c = keeps-then (λ w. w.passes) c.args.crew.now c.crash_where.new.crew c.claim_these.new.crew
    c.crash_where.ensures.done.long c.crash_where.ensures.passes c.claim_these.ensures.passes

pub returns-clause-orders : goal.returns-clause-orders
returns-clause-orders g c = keeps-then (λ w. w.orders) c.args.crew.now c.crash_where.new.crew c.claim_these.new.crew
    c.crash_where.ensures.done.long c.crash_where.ensures.orders c.claim_these.ensures.orders
