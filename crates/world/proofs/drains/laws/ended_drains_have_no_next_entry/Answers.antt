use Rattle.world.proofs.drains.OneStep.{ended-none}
use Rattle.world.proofs.drains.laws.ended_drains_have_no_next_entry.Goals as goal

pub returns : goal.returns
returns c = record { none = ended-none }
