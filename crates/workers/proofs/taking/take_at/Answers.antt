use Rattle.std.proofs.Common.{◌-◌, length, arith}
use Rattle.run_history.specs.Cases.{intervals_of}
use Rattle.workers.proofs.PassLaws.{passes-set}
use Rattle.workers.proofs.Serving.{served-less, served-not}
use Rattle.workers.proofs.taking.take_at.Goals as goal

-- it does not have the interval
pub returns-then-not-holds-clause-served : goal.returns-then-not-holds-clause-served
returns-then-not-holds-clause-served g c =
    served-less 0 (c.args.budget.now - c.args.budget.now) (omega arith) (served-not c.requires.fits)

-- the pass that was used stands in its place again
pub returns-clause-passes : goal.returns-clause-passes
returns-clause-passes g c = passes-set (length (intervals_of c.args.case.now.topology)) c.args.interval c.args.boxes.now c.args.passes.now
    c.index-boxes-at.result c.take_from.new.pass c.requires.interval c.index-boxes-at.is c.take_from.ensures.pass c.requires.passes

pub returns-in_err-taken-clause-passes : goal.returns-in_err-taken-clause-passes
returns-in_err-taken-clause-passes g c = passes-set (length (intervals_of c.args.case.now.topology)) c.args.interval
    c.args.boxes.now c.args.passes.now c.index-boxes-at.result c.take_from.new.pass c.requires.interval c.index-boxes-at.is
    c.take_from.ensures.pass c.requires.passes

-- what was taken out may be taken
pub returns-in_err-taken-clause-served : goal.returns-in_err-taken-clause-served
returns-in_err-taken-clause-served g c =
    let out = c.take_out-most.ensures.out in
    served-less c.take_out-most.result (c.args.budget.now - c.take_out-most.new.self) (omega (arith, out)) c.take_from.ensures.served

-- and so many were taken
pub returns-clause-served : goal.returns-clause-served
returns-clause-served g c =
    let out = c.take_out-most.ensures.out in
    let back = c.put_back.ensures in
    let few = c.in_ok-taken.ensures.few in
    served-less c.in_ok-taken.taken (c.args.budget.now - c.put_back.new.self) (omega (arith, out, back, few))
    c.in_ok-taken.ensures.taken
