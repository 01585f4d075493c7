use Rattle.engine_tests.proofs.TestLaws.{own-of}
use Rattle.engine_tests.proofs.tests.books.calls.report.Goals as goal

-- what is reported is the own work of the interval
pub report-requires-clause-own : goal.report-requires-clause-own
report-requires-clause-own g c =
    own-of c.args.count c.args.interval c.args.own c.args.book.now c.args.lease.now c.requires.risen c.requires.lease c.requires.interval
    c.requires.own
