use Rattle.std.proofs.Common.{ap, subst, sym, ◌∙◌}
use Rattle.book.specs.Desks.{HasLooked}
use Rattle.shared_book.specs.SharedDesks.{shared_view}
use Rattle.shared_book.specs.Steps.{SeatView}
use Rattle.shared_book.proofs.DeskFacts.{looked-still, tells}
use Rattle.shared_book.proofs.DeskSteps.{marks-same}
use Rattle.shared_book.proofs.shared_desk.SharedDeskDesk.note.Goals as goal

-- a note is of its seat's book
pub returns-clause-tells : goal.returns-clause-tells
returns-clause-tells g c alone =
    tells c.note.result.place.me.0 c.note.new.seat.place.me.0
    (ap (λ (m : SeatView). m.0.basis) (c.note.ensures.view) ∙ sym (ap (λ (m : SeatView). m.0.basis) c.note.ensures.same))

-- and its seat has stayed
pub returns-clause-looked : goal.returns-clause-looked
returns-clause-looked g c =
    let desk = c.args.self.now in
    subst (λ (m : SeatView). HasLooked (shared_view desk.seat.now.place.me.0) (shared_view m.0))
    (sym c.note.ensures.same) (looked-still desk.seat.now.place.me.0)

-- and so have its marks
pub returns-clause-marks : goal.returns-clause-marks
returns-clause-marks g c =
    let same = c.note.ensures.same in
    marks-same c.args.self.now.seat.now.place.me.0 c.note.new.seat.place.me.0 (ap (λ (m : SeatView). m.0.basis) same)
    (ap (λ (m : SeatView). m.0.marks) same)
