use Rattle.std.proofs.Common.{subst, sym}
use Rattle.std.specs.Prelude.{IfOk}
use Rattle.node.specs.Answers.{AnswersAckOf}
use Rattle.outbox.specs.Messages.{IsVouchedFor}
use Rattle.node.specs.Received.{note_of, outgoing_of}
use Rattle.outbox.specs.declared.outgoing.Outgoing.TheVariants as outgoing
use Rattle.node.proofs.LookLaws.{ack-later, grown-later, looked-later}
use Rattle.node.proofs.OutLaws.{Fits-looked}
use Rattle.node.proofs.ReceiveLaws.{so_met}
use Rattle.node.proofs.node.Node.take_ack.Goals as goal

-- the node fits once the note was met
pub settle-requires-clause-fits : goal.settle-requires-clause-fits
settle-requires-clause-fits g c =
    let old = g.D.Desk.view c.args.desk.now in
    let mid = g.D.Desk.view c.meet.new.self in
    Fits-looked c.args.case.now old mid c.args.self.now c.sound.ensures.sound c.sound-in-Ack.ensures.sound c.meet.ensures.looked c.requires.fits

-- the record was handled, by what was seen then
pub settle-requires-clause-handled : goal.settle-requires-clause-handled
settle-requires-clause-handled g c =
    let case = c.args.case.now in
    let old = g.D.Desk.view c.args.desk.now in
    let mid = g.D.Desk.view c.meet.new.self in
    let message = outgoing.Ack c.receipt.inside.to c.receipt.inside.id in
    let vouched = subst (λ m. IsVouchedFor case old (g.N.Seen.sight (note_of m)) (outgoing_of m)) c.in-Ack.is c.requires.vouched in
    let vouched_inside = subst (λ p. IsVouchedFor case old (g.N.Seen.sight p.note) (outgoing.Ack p.to p.id)) (sym c.receipt.view_is) vouched in
    so_met case old mid (g.N.Seen.sight c.receipt.inside.note) message c.requires.fits.of_case c.receipt.invariant vouched_inside
    c.meet.ensures.tells c.meet.ensures.met c.meet.ensures.looked

-- what is answered then
pub returns-clause-answers : goal.returns-clause-answers
returns-clause-answers g c =
    let shape = c.args.case.now.topology in
    let old = g.D.Desk.view c.args.desk.now in
    let mid = g.D.Desk.view c.meet.new.self in
    let new = g.D.Desk.view c.settle.new.desk in
    let was = c.args.self.now in
    let after = c.settle.new.self in
    let inside = ack-later shape old mid new c.receipt.inside.to c.receipt.inside.id was after c.settle.result c.meet.ensures.looked c.settle.ensures.answers in
    subst (λ m. IfOk c.settle.result (AnswersAckOf shape old new (outgoing_of m) was after)) (sym c.in-Ack.is)
    (subst (λ p. IfOk c.settle.result (AnswersAckOf shape old new (outgoing.Ack p.to p.id) was after)) c.receipt.view_is inside)

pub returns-clause-looked : goal.returns-clause-looked
returns-clause-looked g c = looked-later (g.D.Desk.view c.args.desk.now) (g.D.Desk.view c.meet.new.self) (g.D.Desk.view c.settle.new.desk)
    c.settle.result c.meet.ensures.looked c.settle.ensures.looked

pub returns-clause-grown : goal.returns-clause-grown
returns-clause-grown g c = grown-later (g.D.Desk.view c.args.desk.now) (g.D.Desk.view c.meet.new.self) (g.D.Desk.view c.settle.new.desk)
    c.args.self.now.held c.meet.ensures.looked c.settle.ensures.grown
