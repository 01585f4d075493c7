use Rattle.std.proofs.Common.{ap, subst, sym}
use Rattle.std.specs.Prelude.{Option, Some}
use Rattle.book.specs.Desks.{Sight}
use Rattle.node.specs.Fits.{Fits}
use Rattle.outbox.specs.Messages.{IsVouchedFor}
use Rattle.node.specs.Received.{outgoing_of}
use Rattle.node.specs.Workers.{NodeView}
use Rattle.node.proofs.FitLaws.{more-looked, node_in, outgoing-more}
use Rattle.node.proofs.OutLaws.{Fits-less, Fits-looked, first-outgoing, so-by-note, vouched-by}
use Rattle.node.proofs.node.Node.next_message.Goals as goal

-- the message is so by its note
pub noted-requires : goal.noted-requires
noted-requires g c =
    let old = g.D.Desk.view c.args.desk.now in
    let new = g.D.Desk.view c.note-note.new.self in
    let node : NodeView = node_in c.self.inside in
    let fits : Fits old.case old node = subst (Fits old.case old) (sym c.self.view_is) c.requires.fits in
    let is = first-outgoing old.case old node c.in-Some.message c.take_first.new.self.messages c.in-Some.ensures.first fits in
    record {
      so = so-by-note old.case new (g.N.Seen.sight c.note-note.result) c.in-Some.message c.note-note.ensures.looked.case
          c.note-note.ensures.note
          (outgoing-more old.case old new c.in-Some.message (more-looked old new c.note-note.ensures.looked) is);
    }

-- the node fits what the desk has seen
pub returns-clause-fits : goal.returns-clause-fits
returns-clause-fits g c =
    let old = g.D.Desk.view c.args.desk.now in
    let new = g.D.Desk.view c.note-note.new.self in
    let node : NodeView = node_in c.self.inside in
    let fits : Fits old.case old node = subst (Fits old.case old) (sym c.self.view_is) c.requires.fits in
    let rest = c.take_first.new.self.messages in
    Fits-looked old.case old new (record node { outbox = rest }) c.sound.ensures.sound c.sound-2.ensures.sound c.note-note.ensures.looked
    (Fits-less old.case old node (Some c.in-Some.message) rest c.in-Some.ensures.first fits)

-- the message is vouched for
pub returns-clause-vouched : goal.returns-clause-vouched
returns-clause-vouched g c =
    let old = g.D.Desk.view c.args.desk.now in
    let new = g.D.Desk.view c.note-note.new.self in
    let node : NodeView = node_in c.self.inside in
    let fits : Fits old.case old node = subst (Fits old.case old) (sym c.self.view_is) c.requires.fits in
    let is = first-outgoing old.case old node c.in-Some.message c.take_first.new.self.messages c.in-Some.ensures.first fits in
    subst (λ (s : Option Sight). IsVouchedFor old.case new s (outgoing_of c.noted.result)) (ap g.N.Seen.sight (sym c.noted.ensures.note))
    (subst (IsVouchedFor old.case new (g.N.Seen.sight c.note-note.result)) (sym c.noted.ensures.message)
    (vouched-by old.case new (g.N.Seen.sight c.note-note.result) c.in-Some.message
    (outgoing-more old.case old new c.in-Some.message (more-looked old new c.note-note.ensures.looked) is)))
