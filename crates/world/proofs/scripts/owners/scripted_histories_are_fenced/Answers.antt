use Rattle.world.proofs.scripts.Fencing.{script-fenced}
use Rattle.world.proofs.scripts.owners.scripted_histories_are_fenced.Goals as goal

pub returns : goal.returns
returns c = record { fenced = script-fenced }
