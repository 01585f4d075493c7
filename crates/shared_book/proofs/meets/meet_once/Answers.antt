use Rattle.std.proofs.Common.{◌∙◌, ap, arith}
use Rattle.shared_book.specs.Steps.{SeatView}
use Rattle.shared_book.proofs.DeskFacts.{kept-look, looked-met, tells}
use Rattle.shared_book.proofs.DeskSteps.{marks-same}
use Rattle.shared_book.proofs.Joining.{met_marks}
use Rattle.shared_book.proofs.meets.meet_once.Goals as goal

pub returns-clause-kept : goal.returns-clause-kept
returns-clause-kept g c = kept-look c.meet_at.new.seat.place.me.0 c.meet_at.ensures.lawful

pub returns-clause-looked : goal.returns-clause-looked
returns-clause-looked g c =
    let m = c.meet_at.ensures in
    let basis = ap (λ (s : SeatView). s.0.basis) m.view in
    let floor = ap (λ (s : SeatView). s.0.floor) m.view in
    looked-met c.args.seat.now.place.me.0 c.meet_at.new.seat.place.me.0 (omega (arith, floor)) basis m.leases m.own m.faults m.foreign

pub returns-clause-tells : goal.returns-clause-tells
returns-clause-tells g c = tells c.args.note.place.me.0 c.args.seat.now.place.me.0 c.meet_at.ensures.basis

pub returns-clause-marks : goal.returns-clause-marks
returns-clause-marks g c =
    let m = c.meet_at.ensures in
    marks-same c.args.seat.now.place.me.0 c.meet_at.new.seat.place.me.0 (ap (λ (s : SeatView). s.0.basis) m.view)
    (ap (λ (s : SeatView). s.0.marks) m.view ∙ met_marks c.args.seat.now.place.me.0 c.args.note.place.me.0 c.args.note.bare)
