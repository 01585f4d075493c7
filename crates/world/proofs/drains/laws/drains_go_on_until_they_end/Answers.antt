use Rattle.world.proofs.drains.NextLaws.{ended_or_next}
use Rattle.world.proofs.drains.laws.drains_go_on_until_they_end.Goals as goal

pub returns : goal.returns
returns c = record { next = ended_or_next }
