use Rattle.std.proofs.Common.{rules}
use Rattle.world.proofs.drains.CallLaws.{handle-done}
use Rattle.world.proofs.drains.least_work.handle.Goals as goal

-- that the record was handled stands behind the history
pub returns-clause-handled : goal.returns-clause-handled
returns-clause-handled g c =
    handle-done c.args.book.now c.write-written.new.book c.args.held.now c.args.delivery c.args.effects c.args.interval c.requires.at_work
    c.requires.covers (search rules)
