use Rattle.std.proofs.Common.{◌∙◌, ap, length, sym, subst, arith}
use Rattle.run_history.specs.Cases.{CaseShape, intervals_of}
use Rattle.run_history.proofs.CaseIntervals.{length-intervals}
use Rattle.watermark.specs.Marks.{mark_of}
use Rattle.book.specs.Desks.{HasLooked, KeepsMarks}
use Rattle.shared_book.specs.Places.{with_mark_loaded}
use Rattle.shared_book.specs.SharedDesks.{HasKept, shared_view}
use Rattle.shared_book.specs.Steps.{SeatView}
use Rattle.shared_book.proofs.DeskFacts.{looked-loaded, mark-loaded, marks-loaded}
use Rattle.shared_book.proofs.desk_reports.mark_once.Goals as goal

pub mark-requires-clause-there : goal.mark-requires-clause-there
mark-requires-clause-there g c =
    let few = c.case_is_runnable.ensures.runnable.topology.few_intervals in
    let all = length-intervals c.args.shared.now.case.now.topology in
    let there = c.requires.there in omega (arith, few, all, there)

pub returns-clause-kept : goal.returns-clause-kept
returns-clause-kept g c = subst (λ (m : SeatView). HasKept m.0) (sym c.mark.ensures.view) c.requires.kept

pub returns-clause-mark : goal.returns-clause-mark
returns-clause-mark g c =
    let p = c.args.seat.now in
    let v = p.place.me.0 in
    let few = c.case_is_runnable.ensures.runnable.topology.few_intervals in
    let all = length-intervals c.args.shared.now.case.now.topology in
    let there = c.requires.there in
    let long = p.long.marks in
    let same = ap (λ (k : CaseShape). length (intervals_of k.topology)) c.requires.here.case in
    mark-loaded v c.args.interval c.mark.result (omega (arith, few, all, there, long)) (omega (arith, there, same))
    ∙ sym (ap (λ (m : SeatView). mark_of (shared_view m.0).marks c.args.interval) c.mark.ensures.view)

pub returns-clause-looked : goal.returns-clause-looked
returns-clause-looked g c =
    let v = c.args.seat.now.place.me.0 in
    let w = with_mark_loaded v c.args.interval c.mark.result in
    subst (λ (m : SeatView). HasLooked (shared_view v) (shared_view m.0)) (sym c.mark.ensures.view)
    (looked-loaded v w.marks w.loads v.floor v.floor_loads (omega arith))

pub returns-clause-marks : goal.returns-clause-marks
returns-clause-marks g c =
    let v = c.args.seat.now.place.me.0 in
    subst (λ (m : SeatView). KeepsMarks (shared_view v) (shared_view m.0)) (sym c.mark.ensures.view)
    (marks-loaded v c.args.interval c.mark.result c.mark.ensures.rises)
