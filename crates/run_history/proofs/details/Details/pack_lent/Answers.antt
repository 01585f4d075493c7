use Rattle.run_history.proofs.Packings.{details_on}
use Rattle.run_history.proofs.details.Details.pack_lent.Goals as goal

pub returns-in-Some-clause-kept : goal.returns-in-Some-clause-kept
returns-in-Some-clause-kept c = details_on _ _ _ c.numbers.ensures.kept c.pack_lent_by.ensures.kept

pub returns-in-None-clause-kept : goal.returns-in-None-clause-kept
returns-in-None-clause-kept c = details_on _ _ _ c.numbers.ensures.kept c.pack_copy.ensures.kept
