use Rattle.std.proofs.Common.{arith}
use Rattle.workers.proofs.PassLaws.{served-rest}
use Rattle.workers.proofs.Serving.{served-less, served-not, served-then}
use Rattle.workers.proofs.turns.tidy.Goals as goal

-- not in this round
pub returns-then-round-ne0-clause-served : goal.returns-then-round-ne0-clause-served
returns-then-round-ne0-clause-served g c = served-less 0 488 (omega arith) (served-not c.requires.fits)

-- memory ran out
pub returns-in_err-sweep_older-clause-served : goal.returns-in_err-sweep_older-clause-served
returns-in_err-sweep_older-clause-served g c = served-less 0 488 (omega arith)
    (served-rest c.args.case.now (g.D.Desk.view c.args.desk.now) c.args.node.now c.sweep_older.new.self c.sweep_older.ensures.fits
    c.sweep_older.ensures.rest)

-- rows forgot ids
pub returns-clause-served : goal.returns-clause-served
returns-clause-served g c = served-then 0 488 488 (omega arith)
    (served-rest c.args.case.now (g.D.Desk.view c.args.desk.now) c.args.node.now c.sweep_older.new.self c.sweep_older.ensures.fits
    c.sweep_older.ensures.rest) c.purge_all.ensures.served
