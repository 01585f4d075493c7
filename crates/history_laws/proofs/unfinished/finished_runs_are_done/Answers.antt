use Rattle.history_laws.proofs.UnfinishedLaws.{finished-done}
use Rattle.history_laws.proofs.unfinished.finished_runs_are_done.Goals as goal

pub returns : goal.returns
returns c = record { done = finished-done }
