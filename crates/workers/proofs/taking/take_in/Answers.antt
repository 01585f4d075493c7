use Rattle.std.proofs.Common.{rules}
use Rattle.node.specs.Received.{note_of, outgoing_of}
use Rattle.node.proofs.OutLaws.{vouched-beside}
use Rattle.workers.specs.Slices.{IsSliceFault}
use Rattle.workers.proofs.CallLaws.{leases-taken}
use Rattle.workers.proofs.FaultLaws.{fault-memory}
use Rattle.workers.proofs.Serving.{served-kept, served-looked}
use Rattle.workers.proofs.taking.take_in.Goals as goal

-- a desk that is not alone needs nobody to vouch
pub prepare-requires-clause-vouched : goal.prepare-requires-clause-vouched
prepare-requires-clause-vouched g c = vouched-beside c.args.case.now (g.D.Desk.view c.args.desk.now)
    (g.N.Seen.sight (note_of c.args.message)) (outgoing_of c.args.message) c.requires.alone

-- memory ran out
pub returns-in_err-outcome-clause-served : goal.returns-in_err-outcome-clause-served
returns-in_err-outcome-clause-served g c = served-kept c.args.case.now (g.D.Desk.view c.args.desk.now) (g.D.Desk.view c.prepare.new.desk)
    c.args.node.now c.prepare.new.self c.prepare.ensures.fits c.prepare.ensures.number c.prepare.ensures.looked
    c.in_err-outcome.ensures.kept

pub returns-in_err-outcome-clause-fault : goal.returns-in_err-outcome-clause-fault
returns-in_err-outcome-clause-fault g c =
    let fault : IsSliceFault (g.D.Desk.view c.args.desk.now) (g.D.Desk.view c.prepare.new.desk) c.in_err-outcome.field-0.0 =
    fault-memory (g.D.Desk.view c.args.desk.now) (g.D.Desk.view c.prepare.new.desk) c.in_err-outcome.field-0.0
    c.in_err-outcome.ensures.fault in search rules

-- an answer leaves the leases
pub returns-clause-served : goal.returns-clause-served
returns-clause-served g c = served-looked c.args.case.now (g.D.Desk.view c.args.desk.now) (g.D.Desk.view c.prepare.new.desk)
    c.args.node.now c.prepare.new.self c.prepare.ensures.fits c.prepare.ensures.number c.prepare.ensures.looked
    (leases-taken c.args.case.now.topology c.args.node.now c.prepare.new.self (outgoing_of c.args.message)
    c.in_ok-outcome.outcome c.in_ok-outcome.ensures.answers)
