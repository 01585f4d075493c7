use Rattle.history_laws.proofs.FitLaws.{legal-fits}
use Rattle.history_laws.proofs.fitting.rows_fit_their_names.Goals as goal

pub returns : goal.returns
returns c = record { fits = legal-fits }
