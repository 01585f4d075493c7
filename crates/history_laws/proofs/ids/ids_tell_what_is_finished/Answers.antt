use Rattle.history_laws.proofs.FinishedLaws.{finished-handled, waits-unless_finished, unmade-unfinished}
use Rattle.history_laws.proofs.ids.ids_tell_what_is_finished.Goals as goal

pub returns : goal.returns
returns c = record { finished = finished-handled; waits = waits-unless_finished; unmade = unmade-unfinished }
