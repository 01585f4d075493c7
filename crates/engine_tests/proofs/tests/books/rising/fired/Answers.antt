use Rattle.std.proofs.Common.{refl}
use Rattle.engine_tests.proofs.tests.books.rising.fired.Goals as goal

-- both intervals were claimed
pub report-source-requires-clause-claimed : goal.report-source-requires-clause-claimed
report-source-requires-clause-claimed g c = refl

pub report-count-requires-clause-claimed : goal.report-count-requires-clause-claimed
report-count-requires-clause-claimed g c = refl

-- what the file states is the injector's own work, and the timer that of the count
pub report-source-requires-clause-own : goal.report-source-requires-clause-own
report-source-requires-clause-own g c = refl

pub report-count-requires-clause-own : goal.report-count-requires-clause-own
report-count-requires-clause-own g c = refl
