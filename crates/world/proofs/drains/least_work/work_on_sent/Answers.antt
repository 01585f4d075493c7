use Rattle.std.proofs.Common.{◌<◌, refl, subst, sym}
use Rattle.topology.specs.Shapes.{parts_of}
use Rattle.run_history.specs.Cases.{CaseShape}
use Rattle.node.specs.declared.outcome.NodeFault.TheVariants as faults
use Rattle.world.specs.drains.Standings.{IsFound}
use Rattle.world.specs.drains.Turns.{worker_of}
use Rattle.world.proofs.drains.DrainLaws.{found-part, found-to}
use Rattle.world.proofs.drains.TurnLaws.{failed-not}
use Rattle.world.proofs.drains.least_work.work_on_sent.Goals as goal

-- the record goes to a part that is there
pub interval_of-to-requires : goal.interval_of-to-requires
interval_of-to-requires g c =
    let found : IsFound c.args.book.now (worker_of c.args.held.now) c.args.sender.now c.args.delivery = record {
      at_work = c.requires.at_work;
      lawful = c.history.ensures.lawful;
      part = c.requires.part;
      least = c.requires.least;
      sent = c.requires.sent;
    } in
    record {
      part = subst (λ (k : CaseShape). c.args.delivery.to.part < parts_of k.topology) (sym c.case.ensures.case)
          (found-part c.args.book.now (worker_of c.args.held.now) c.args.sender.now c.args.delivery found);
    }

-- which is a computation's
pub standing_of-requires-clause-computation : goal.standing_of-requires-clause-computation
standing_of-requires-clause-computation g c =
    let found : IsFound c.args.book.now (worker_of c.args.held.now) c.args.sender.now c.args.delivery = record {
      at_work = c.requires.at_work;
      lawful = c.history.ensures.lawful;
      part = c.requires.part;
      least = c.requires.least;
      sent = c.requires.sent;
    } in
    found-to c.args.book.now (worker_of c.args.held.now) c.args.sender.now c.args.delivery found

-- it was found
pub work_by-requires-clause-found : goal.work_by-requires-clause-found
work_by-requires-clause-found g c = record {
  at_work = c.requires.at_work;
  lawful = c.history.ensures.lawful;
  part = c.requires.part;
  least = c.requires.least;
  sent = c.requires.sent;
}

-- there was no memory to handle it
pub returns-in-Err-clause-failed : goal.returns-in-Err-clause-failed
returns-in-Err-clause-failed g c = failed-not c.args.book.now faults.NoMemory refl
