use Rattle.world.proofs.scripts.Steps.{step-appends, step-grows}
use Rattle.world.proofs.scripts.keeping.steps_append_at_most_one_entry.Goals as goal

pub returns : goal.returns
returns c = record { one = step-appends; grown = step-grows }
