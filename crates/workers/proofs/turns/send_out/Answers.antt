use Rattle.std.proofs.Common.{arith}
use Rattle.workers.proofs.PassLaws.{served-rest}
use Rattle.workers.proofs.Serving.{served-then}
use Rattle.workers.proofs.turns.send_out.Goals as goal

-- it is to send later
pub returns-then-orders-clause-served : goal.returns-then-orders-clause-served
returns-then-orders-clause-served g c = served-rest c.args.case.now (g.D.Desk.view c.args.desk.now) c.args.node.now c.let_go.new.node
    (c.let_go.ensures.fits c.args.case.now (g.D.Desk.view c.args.desk.now) c.requires.fits) c.let_go.ensures.rest

-- memory ran out
pub returns-in_err-send-clause-served : goal.returns-in_err-send-clause-served
returns-in_err-send-clause-served g c = served-then 0 0 0 (omega arith)
    (served-rest c.args.case.now (g.D.Desk.view c.args.desk.now) c.args.node.now c.let_go.new.node
    (c.let_go.ensures.fits c.args.case.now (g.D.Desk.view c.args.desk.now) c.requires.fits) c.let_go.ensures.rest) c.send.ensures.served

-- it was sent
pub returns-clause-served : goal.returns-clause-served
returns-clause-served g c = served-then 0 0 0 (omega arith)
    (served-rest c.args.case.now (g.D.Desk.view c.args.desk.now) c.args.node.now c.let_go.new.node
    (c.let_go.ensures.fits c.args.case.now (g.D.Desk.view c.args.desk.now) c.requires.fits) c.let_go.ensures.rest) c.send.ensures.served
