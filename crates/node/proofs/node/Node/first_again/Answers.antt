use Rattle.std.proofs.Common.{rules, ◌≡◌, ap, subst, sym}
use Rattle.std.specs.Prelude.{Option, Some, slice_get}
use Rattle.std.specs.Option.{option_and_then}
use Rattle.book.specs.Desks.{Sight}
use Rattle.node.specs.Fits.{Fits}
use Rattle.outbox.specs.Messages.{IsAddressed, IsVouchedFor}
use Rattle.node.specs.Received.{outgoing_of, where_record}
use Rattle.node.specs.Workers.{NodeView}
use Rattle.node.proofs.FitLaws.{more-looked, node_in, outgoing-more}
use Rattle.node.proofs.OutLaws.{Fits-looked, first-again, first-at, so-by-note, vouched-by}
use Rattle.node.proofs.node.Node.first_again.Goals as goal

-- the message is so by its note
pub noted-requires : goal.noted-requires
noted-requires g c =
    let old = g.D.Desk.view c.args.desk.now in
    let new = g.D.Desk.view c.note-note.new.self in
    let node : NodeView = node_in c.self.inside in
    let fits : Fits old.case old node = subst (Fits old.case old) (sym c.self.view_is) c.requires.fits in
    let again : option_and_then where_record (slice_get node.outbox 0) ≡ Some c.in-Some.message = search rules in
    let is = first-at old.case old node c.in-Some.message (first-again node.outbox c.in-Some.message again) fits in
    record {
      so = so-by-note old.case new (g.N.Seen.sight c.note-note.result) c.in-Some.message c.note-note.ensures.looked.case
          c.note-note.ensures.note
          (outgoing-more old.case old new c.in-Some.message (more-looked old new c.note-note.ensures.looked) is);
    }

-- the node fits what the desk has seen
pub returns-in-Some-clause-fits : goal.returns-in-Some-clause-fits
returns-in-Some-clause-fits g c =
    let old = g.D.Desk.view c.args.desk.now in
    Fits-looked old.case old (g.D.Desk.view c.note-note.new.self) c.args.self.now c.sound.ensures.sound c.sound-in-Some.ensures.sound
    c.note-note.ensures.looked c.requires.fits

-- the message is addressed
pub returns-in-Some-clause-addressed : goal.returns-in-Some-clause-addressed
returns-in-Some-clause-addressed g c =
    let old = g.D.Desk.view c.args.desk.now in
    let node : NodeView = node_in c.self.inside in
    let fits : Fits old.case old node = subst (Fits old.case old) (sym c.self.view_is) c.requires.fits in
    let again : option_and_then where_record (slice_get node.outbox 0) ≡ Some c.in-Some.message = search rules in
    let is = first-at old.case old node c.in-Some.message (first-again node.outbox c.in-Some.message again) fits in
    subst (IsAddressed old.case.topology) (sym c.noted.ensures.message) is.addressed

-- the message is vouched for
pub returns-in-Some-clause-vouched : goal.returns-in-Some-clause-vouched
returns-in-Some-clause-vouched g c =
    let old = g.D.Desk.view c.args.desk.now in
    let new = g.D.Desk.view c.note-note.new.self in
    let node : NodeView = node_in c.self.inside in
    let fits : Fits old.case old node = subst (Fits old.case old) (sym c.self.view_is) c.requires.fits in
    let again : option_and_then where_record (slice_get node.outbox 0) ≡ Some c.in-Some.message = search rules in
    let is = first-at old.case old node c.in-Some.message (first-again node.outbox c.in-Some.message again) fits in
    subst (λ (s : Option Sight). IsVouchedFor old.case new s (outgoing_of c.noted.result)) (ap g.N.Seen.sight (sym c.noted.ensures.note))
    (subst (IsVouchedFor old.case new (g.N.Seen.sight c.note-note.result)) (sym c.noted.ensures.message)
    (vouched-by old.case new (g.N.Seen.sight c.note-note.result) c.in-Some.message
    (outgoing-more old.case old new c.in-Some.message (more-looked old new c.note-note.ensures.looked) is)))
