use Rattle.workers.proofs.PassLaws.{interval-below}
use Rattle.workers.proofs.posting.address.Goals as goal

-- a record goes to the interval of the row that handles it
pub returns-in-Deliver : goal.returns-in-Deliver
returns-in-Deliver g c = record {
  there = interval-below c.args.case.now.topology c.interval_of.result c.parcel.inside.delivery.to c.interval_of.ensures.interval;
}

-- word goes to the interval of the row that sent the record
pub returns-in-Ack : goal.returns-in-Ack
returns-in-Ack g c = record {
  there = interval-below c.args.case.now.topology c.interval_of-in-Ack.result c.receipt.inside.to c.interval_of-in-Ack.ensures.interval;
}
