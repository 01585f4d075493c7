use Rattle.crossbeam_queue.specs.Passes.{view}
use Rattle.workers.proofs.MailboxCounts.{deals}
use Rattle.workers.proofs.passes.deal.Goals as goal

pub another-requires-clause-rule : goal.another-requires-clause-rule
another-requires-clause-rule g c = deals c.args.first.now.pass.id (view c.args.first.now.pass)
