use Rattle.world.proofs.drains.EndLaws.{injected-finished}
use Rattle.world.proofs.drains.laws.drains_leave_no_work.Goals as goal

pub returns : goal.returns
returns c = record { finished = injected-finished }
