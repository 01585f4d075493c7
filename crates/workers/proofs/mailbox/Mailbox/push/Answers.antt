use Rattle.std.proofs.Common.{rules}
use Rattle.crossbeam_queue.specs.Passes.{ruled_capacity, view}
use Rattle.workers.specs.Mailboxes.{HasHeld}
use Rattle.workers.proofs.MailboxCounts.{learns, left_of_held, puts}
use Rattle.workers.proofs.mailbox.Mailbox.push.Goals as goal

pub push_as-requires-clause-rule : goal.push_as-requires-clause-rule
push_as-requires-clause-rule g c =
    let p = c.args.pass.now.pass in (puts (ruled_capacity c.args.self.now.line) p.id (view p) c.args.message, learns p.id (view p))

-- a pass that is alone put all that there was
pub returns-in-Err-clause-full : goal.returns-in-Err-clause-full
returns-in-Err-clause-full g c =
    let v = view c.args.pass.now.pass in
    let held : HasHeld v (ruled_capacity c.args.self.now.line) = search rules in
    left_of_held v (ruled_capacity c.args.self.now.line) held
