use Rattle.world.proofs.scripts.Steps.{step-form}
use Rattle.world.proofs.scripts.keeping.steps_keep_workers_and_marks.Goals as goal

pub returns : goal.returns
returns c = record { form = step-form }
