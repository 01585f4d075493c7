use Rattle.std.proofs.Common.{arith}
use Rattle.workers.proofs.Serving.{served-then}
use Rattle.workers.proofs.taking.take_record.Goals as goal

-- the record was taken in, and what is prepared was not written
pub returns-in_err-write_through-clause-served : goal.returns-in_err-write_through-clause-served
returns-in_err-write_through-clause-served g c = served-then 0 1 1 (omega arith) c.take_in.ensures.served c.write_through.ensures.served

-- the record was taken in, and written
pub returns-clause-served : goal.returns-clause-served
returns-clause-served g c = served-then 0 1 1 (omega arith) c.take_in.ensures.served c.write_through.ensures.served
