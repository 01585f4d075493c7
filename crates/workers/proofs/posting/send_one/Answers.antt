use Rattle.std.proofs.Common.{arith}
use Rattle.workers.proofs.Serving.{served-then}
use Rattle.workers.proofs.posting.send_one.Goals as goal

-- a record is sent once more, and then sent
pub returns-clause-served : goal.returns-clause-served
returns-clause-served g c = served-then 0 0 0 (omega arith) c.send_again.ensures.served c.send_first-2.ensures.served
