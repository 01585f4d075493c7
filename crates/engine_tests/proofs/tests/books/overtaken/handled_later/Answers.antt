use Rattle.engine_tests.proofs.TestLaws.{later-use}
use Rattle.engine_tests.proofs.tests.books.overtaken.handled_later.Goals as goal

-- the second worker's lease may be used
pub write-written-requires-clause-lease : goal.write-written-requires-clause-lease
write-written-requires-clause-lease g c =
    let over = c.report_is_stale.ensures.overtaken in
    later-use c.report_is_stale.new.book c.args.lease.now c.args.hands.now.a over c.requires.lease c.args.hands.now.receiver
