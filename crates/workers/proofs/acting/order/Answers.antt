use Rattle.std.proofs.Common.{ap, arith}
use Rattle.workers.specs.Crews.{stall_of}
use Rattle.workers.proofs.Doing.{done-settled, keeps-then}
use Rattle.workers.proofs.acting.order.Goals as goal

-- what the worker was to spend that stalled is spent by the next one
pub returns-then-begin-clause-done : goal.returns-then-begin-clause-done
returns-then-begin-clause-done g c =
    let stall = ap stall_of c.if-begin.true in
    let settled = c.begin.ensures.settled in
    done-settled 61 c.args.crew.now c.begin.new.crew c.hand_over.new.crew (omega (arith, stall, settled)) c.begin.ensures.done
    c.hand_over.ensures.done

pub returns-then-begin-clause-passes : goal.returns-then-begin-clause-passes
returns-then-begin-clause-passes g c = keeps-then (λ w. w.passes) c.args.crew.now c.begin.new.crew c.hand_over.new.crew
    c.begin.ensures.done.long c.begin.ensures.passes c.hand_over.ensures.passes

-- who is calm did not stall
pub returns-then-begin-clause-calm : goal.returns-then-begin-clause-calm
returns-then-begin-clause-calm g c calm =
    let asked = c.if-begin.true in
    let not = c.begin.ensures.stalls calm in
    absurd cc

pub returns-then-begin-clause-healthy : goal.returns-then-begin-clause-healthy
returns-then-begin-clause-healthy g c ok healthy = c.hand_over.ensures.healthy ok (c.begin.ensures.healthy healthy)
