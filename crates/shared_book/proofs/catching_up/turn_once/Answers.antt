use Rattle.std.proofs.Common.{refl, ap}
use Rattle.book.specs.Desks.{HasLooked, KeepsMarks}
use Rattle.shared_book.specs.SharedDesks.{shared_view}
use Rattle.shared_book.specs.Steps.{SeatView}
use Rattle.shared_book.proofs.DeskSteps.{busy-looked, given, looked-refused, marks-busy, marks-refused, refused-same}
use Rattle.shared_book.proofs.catching_up.turn_once.Goals as goal

-- the turn was taken and given back
pub returns-clause-caught : goal.returns-clause-caught
returns-clause-caught g c = (
  c.take-found.new.seat.place.me.0,
  c.take-found.ensures.taken c.if-found-ne0.false,
  ap (λ (m : SeatView). m.0) c.give_at.ensures.view,
)

pub returns-clause-looked : goal.returns-clause-looked
returns-clause-looked g c =
    let v = c.args.seat.now.place.me.0 in
    let t = c.take-found.new.seat.place.me in
    let f = c.give_at in
    given (λ u. HasLooked (shared_view v) (shared_view u)) t f.new.seat.place.me f.ensures.view
    (looked-refused v t.0 t.0 (c.take-found.ensures.taken c.if-found-ne0.false) refl (refused-same t.0 t.0 refl))

pub returns-clause-marks : goal.returns-clause-marks
returns-clause-marks g c =
    let v = c.args.seat.now.place.me.0 in
    let t = c.take-found.new.seat.place.me in
    let f = c.give_at in
    given (λ u. KeepsMarks (shared_view v) (shared_view u)) t f.new.seat.place.me f.ensures.view
    (marks-refused v t.0 t.0 (c.take-found.ensures.taken c.if-found-ne0.false) refl (refused-same t.0 t.0 refl))

-- another had the turn, and no more was seen
pub returns-then-found-ne0-clause-busy : goal.returns-then-found-ne0-clause-busy
returns-then-found-ne0-clause-busy g c =
    (c.if-found-ne0.true, ap (λ (m : SeatView). m.0) (c.take-found.ensures.busy c.if-found-ne0.true))

pub returns-then-found-ne0-clause-looked : goal.returns-then-found-ne0-clause-looked
returns-then-found-ne0-clause-looked g c =
    busy-looked c.args.seat.now.place.me c.take-found.new.seat.place.me c.take-found.result
    (c.take-found.ensures.busy c.if-found-ne0.true)

pub returns-then-found-ne0-clause-marks : goal.returns-then-found-ne0-clause-marks
returns-then-found-ne0-clause-marks g c =
    marks-busy c.args.seat.now.place.me c.take-found.new.seat.place.me c.take-found.result (c.take-found.ensures.busy c.if-found-ne0.true)
