use Rattle.run_history.proofs.Packings.{details_on}
use Rattle.run_history.proofs.details.Details.pack.Goals as goal

pub returns-in-Ok-Some-clause-kept : goal.returns-in-Ok-Some-clause-kept
returns-in-Ok-Some-clause-kept c = details_on _ _ _ c.numbers.ensures.kept c.pack_by.ensures.kept

pub returns-in-Ok-None-clause-kept : goal.returns-in-Ok-None-clause-kept
returns-in-Ok-None-clause-kept c = details_on _ _ _ c.numbers.ensures.kept c.pack_whole.ensures.kept
