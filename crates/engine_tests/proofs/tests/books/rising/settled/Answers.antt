use Rattle.std.proofs.Common.{refl}
use Rattle.engine_tests.proofs.tests.books.rising.settled.Goals as goal

-- the interval was claimed
pub report-mark-requires-clause-claimed : goal.report-mark-requires-clause-claimed
report-mark-requires-clause-claimed g c = refl

-- what the row of the key a has is its own work
pub report-mark-requires-clause-own : goal.report-mark-requires-clause-own
report-mark-requires-clause-own g c = refl
