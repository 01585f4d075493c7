use Rattle.std.proofs.Common.{refl, arith, rules}
use Rattle.book.specs.Desks.{DeskView}
use Rattle.outbox.specs.declared.outgoing.Outgoing.TheVariants as outgoing
use Rattle.node.proofs.OutLaws.{Fits-looked, vouched-beside}
use Rattle.node.proofs.ReceiveLaws.{so_met}
use Rattle.workers.specs.Slices.{IsSliceFault}
use Rattle.workers.proofs.Serving.{fault-after, served-looked, served-then}
use Rattle.workers.proofs.Working.{worked-looked}
use Rattle.workers.proofs.taking.take_receipt.Goals as goal

-- the node fits once the note was met
pub until_settled-requires-clause-fits : goal.until_settled-requires-clause-fits
until_settled-requires-clause-fits g c =
    Fits-looked c.args.case.now (g.D.Desk.view c.args.desk.now) (g.D.Desk.view c.meet.new.self) c.args.node.now c.sound.ensures.sound
    c.sound-2.ensures.sound c.meet.ensures.looked c.requires.fits

-- the record was handled, by what was seen then: a desk that is not alone needs nobody to vouch
pub until_settled-requires-clause-handled : goal.until_settled-requires-clause-handled
until_settled-requires-clause-handled g c =
    let case = c.args.case.now in
    let old : DeskView = g.D.Desk.view c.args.desk.now in
    let mid : DeskView = g.D.Desk.view c.meet.new.self in
    let word = outgoing.Ack c.receipt.inside.to c.receipt.inside.id in
    so_met case old mid (g.N.Seen.sight c.receipt.inside.note) word c.requires.fits.of_case c.receipt.invariant
    (vouched-beside case old (g.N.Seen.sight c.receipt.inside.note) word c.requires.alone) c.meet.ensures.tells c.meet.ensures.met
    c.meet.ensures.looked

-- the note was met, and then at most one entry was appended
pub returns-in_err-_answer-clause-served : goal.returns-in_err-_answer-clause-served
returns-in_err-_answer-clause-served g c =
    let old : DeskView = g.D.Desk.view c.args.desk.now in
    let mid : DeskView = g.D.Desk.view c.meet.new.self in
    served-then 0 1 1 (omega arith) (served-looked c.args.case.now old mid c.args.node.now c.args.node.now
    (Fits-looked c.args.case.now old mid c.args.node.now c.sound.ensures.sound c.sound-2.ensures.sound c.meet.ensures.looked
    c.requires.fits) refl c.meet.ensures.looked refl) c.until_settled.ensures.served

pub returns-in_err-_answer-clause-fault : goal.returns-in_err-_answer-clause-fault
returns-in_err-_answer-clause-fault g c =
    let old : DeskView = g.D.Desk.view c.args.desk.now in
    let mid : DeskView = g.D.Desk.view c.meet.new.self in
    let new : DeskView = g.D.Desk.view c.until_settled.new.desk in
    let fault : IsSliceFault old new c.in_err-_answer.field-0.0 =
    fault-after (worked-looked old mid c.meet.ensures.looked) c.in_err-_answer.ensures.fault in search rules

pub returns-clause-served : goal.returns-clause-served
returns-clause-served g c =
    let old : DeskView = g.D.Desk.view c.args.desk.now in
    let mid : DeskView = g.D.Desk.view c.meet.new.self in
    served-then 0 1 1 (omega arith) (served-looked c.args.case.now old mid c.args.node.now c.args.node.now
    (Fits-looked c.args.case.now old mid c.args.node.now c.sound.ensures.sound c.sound-2.ensures.sound c.meet.ensures.looked
    c.requires.fits) refl c.meet.ensures.looked refl) c.until_settled.ensures.served
