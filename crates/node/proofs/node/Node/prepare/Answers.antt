use Rattle.std.proofs.Common.{subst, sym}
use Rattle.outbox.specs.Messages.{IsAddressed, IsOutgoing, IsVouchedFor}
use Rattle.node.specs.Received.{note_of, outgoing_of}
use Rattle.node.specs.declared.message.Message.{Message}
use Rattle.outbox.specs.declared.outgoing.Outgoing.TheVariants as outgoing
use Rattle.node.proofs.OutLaws.{Fits-looked}
use Rattle.node.proofs.ReceiveLaws.{so_met}
use Rattle.node.proofs.StateLaws.{state-held}
use Rattle.node.proofs.node.Node.prepare.Goals as goal

-- the row of a record has a state of its kind
pub take_in-requires-clause-states : goal.take_in-requires-clause-states
take_in-requires-clause-states g c = λ held there.
    let case = c.args.case.now in
    let addressed : IsAddressed case.topology (outgoing_of (Rattle.node.specs.declared.message.Message.TheVariants.Deliver c.in-Deliver.parcel)) =
    subst (λ m. IsAddressed case.topology (outgoing_of m)) c.in-Deliver.is c.requires.addressed in
    let deliverable = subst (λ p. IsAddressed case.topology (outgoing.Deliver p.delivery p.sender)) (sym c.parcel.view_is) addressed in
    state-held case (g.D.Desk.view c.args.desk.now) c.args.self.now.held c.parcel.inside.delivery.to held c.requires.fits.held
    deliverable.to there

-- and the node fits with it
pub returns-clause-fits : goal.returns-clause-fits
returns-clause-fits g c =
    let case = c.args.case.now in
    let old = g.D.Desk.view c.args.desk.now in
    let mid = g.D.Desk.view c.meet.new.self in
    let message = outgoing.Deliver c.parcel.inside.delivery c.parcel.inside.sender in
    let addressed = subst (λ m. IsAddressed case.topology (outgoing_of m)) c.in-Deliver.is c.requires.addressed in
    let deliverable = subst (λ p. IsAddressed case.topology (outgoing.Deliver p.delivery p.sender)) (sym c.parcel.view_is) addressed in
    let vouched = subst (λ m. IsVouchedFor case old (g.N.Seen.sight (note_of m)) (outgoing_of m)) c.in-Deliver.is c.requires.vouched in
    let vouched_inside = subst (λ p. IsVouchedFor case old (g.N.Seen.sight p.note) (outgoing.Deliver p.delivery p.sender)) (sym c.parcel.view_is) vouched in
    let sent : IsOutgoing case mid message = record {
      so = so_met case old mid (g.N.Seen.sight c.parcel.inside.note) message c.requires.fits.of_case c.parcel.invariant vouched_inside
          c.meet.ensures.tells c.meet.ensures.met c.meet.ensures.looked;
      addressed = deliverable;
    } in
    c.take_in.ensures.fits mid c.sound-in-Deliver.ensures.sound
    (Fits-looked case old mid c.args.self.now c.sound.ensures.sound c.sound-in-Deliver.ensures.sound c.meet.ensures.looked c.requires.fits) sent
