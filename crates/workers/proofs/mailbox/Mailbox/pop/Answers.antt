use Rattle.std.proofs.Common.{rules}
use Rattle.crossbeam_queue.specs.Passes.{view}
use Rattle.workers.specs.Mailboxes.{HasHeld}
use Rattle.workers.proofs.MailboxCounts.{learns, left_of_held, takes}
use Rattle.workers.proofs.mailbox.Mailbox.pop.Goals as goal

pub pop_as-requires-clause-rule : goal.pop_as-requires-clause-rule
pop_as-requires-clause-rule g c = let p = c.args.pass.now.pass in (takes p.id (view p), learns p.id (view p))

-- a pass that is alone took all that it put
pub returns-in-None-clause-empty : goal.returns-in-None-clause-empty
returns-in-None-clause-empty g c =
    let v = view c.args.pass.now.pass in
    let held : HasHeld v 0 = search rules in
    left_of_held v 0 held
