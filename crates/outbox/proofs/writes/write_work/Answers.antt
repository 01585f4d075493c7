use Rattle.std.proofs.Common.{ap}
use Rattle.mw_types.specs.declared.identity.RowName.{RowName}
use Rattle.run_history.specs.Made.{deliveries_made}
use Rattle.holdings.specs.Holding.{held_at}
use Rattle.holdings.proofs.HeldRows.{proposed-put}
use Rattle.outbox.specs.declared.outgoing.Outgoing.TheVariants as outgoing
use Rattle.outbox.proofs.PutLaws.{outbox-written}
use Rattle.outbox.proofs.writes.write_work.Goals as goal

-- what is proposed may be written
pub put-requires-clause-may : goal.put-requires-clause-may
put-requires-clause-may g c = proposed-put c.args.case.now (g.D.Desk.view c.args.desk.now) (held_at c.args.held.now c.args.interval)
    c.args.parts.0.now.to c.args.proposal.now c.requires.case c.requires.proposal c.requires.known

-- what is to be sent is in the outbox
pub returns-clause-sent : goal.returns-clause-sent
returns-clause-sent g c =
    let delivery = c.args.parts.0.now in
    let effects = c.args.parts.1.now in
    let commit = c.in_ok-commit.commit in
    outbox-written c.args.outbox.now.messages c.make_room.new.self.messages c.put_ack.new.self.messages c.put_all.new.self.messages
    (outgoing.Ack c.in_ok-to.to delivery.id) c.args.sender.now delivery.id c.in_ok-made.made.items delivery.to
    (deliveries_made c.args.case.now.topology delivery.to.part effects.productions delivery.item.late commit) commit
    c.make_room.ensures.same c.put_ack.ensures.put c.put_all.ensures.put
    (ap (λ (n : RowName). outgoing.Ack n delivery.id) c.in_ok-to.ensures.copied)
    (c.in_ok-made.ensures.made commit)
