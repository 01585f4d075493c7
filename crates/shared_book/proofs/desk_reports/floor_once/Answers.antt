use Rattle.std.proofs.Common.{ap, subst, sym, ◌∙◌}
use Rattle.book.specs.Desks.{HasLooked, KeepsMarks}
use Rattle.shared_book.specs.declared.views.View.{View}
use Rattle.shared_book.specs.Joins.{first_of}
use Rattle.shared_book.proofs.SeatCalls.{arrays-is}
use Rattle.shared_book.specs.SharedDesks.{HasKept, shared_view}
use Rattle.shared_book.specs.Places.{with_floor_loaded}
use Rattle.shared_book.specs.Steps.{SeatView}
use Rattle.shared_book.proofs.DeskFacts.{kept-look, looked-loaded}
use Rattle.shared_book.proofs.DeskSteps.{marks-same}
use Rattle.shared_book.proofs.desk_reports.floor_once.Goals as goal

pub returns-clause-kept : goal.returns-clause-kept
returns-clause-kept g c =
    subst (λ (m : SeatView). HasKept m.0) (sym c.look.ensures.same) (kept-look c.floor-floor.new.seat.place.me.0 c.look.ensures.seen)

pub returns-clause-looked : goal.returns-clause-looked
returns-clause-looked g c =
    let v = c.args.seat.now.place.me.0 in
    let f = c.floor-floor in
    subst (λ (m : SeatView). HasLooked (shared_view v) (shared_view m.0)) (sym (c.look.ensures.same ∙ f.ensures.view))
    (looked-loaded v v.marks v.loads f.result (with_floor_loaded v f.result).floor_loads f.ensures.rises)

pub returns-clause-marks : goal.returns-clause-marks
returns-clause-marks g c =
    let v = c.args.seat.now.place.me.0 in
    let f = c.floor-floor in
    subst (λ (m : SeatView). KeepsMarks (shared_view v) (shared_view m.0)) (sym (c.look.ensures.same ∙ f.ensures.view))
    (marks-same v (with_floor_loaded v f.result) (λ i. v.basis) (λ i. v.marks))

pub invariant_of-seat : goal.invariant_of-seat
invariant_of-seat g c =
    let p = c.floor-floor.new.seat in
    let e = ap (λ (m : SeatView). m.0) c.look.ensures.same in
    let has = arrays-is p.place.me.0 c.look.new.place.me.0 p.settled p.marks p.claims p.inputs e
    (record { loaded = p.loaded; claimed = p.claimed; fed = p.fed; long = p.long; there = p.there; current = p.current }) in
    record {
      numbered = ap (λ (v : View). first_of v.numbers) e ∙ p.numbered;
      small = p.small;
      live = ap (λ (v : View). v.live) e ∙ p.live;
      loaded = has.loaded;
      claimed = has.claimed;
      fed = has.fed;
      long = has.long;
      there = has.there;
      current = has.current;
    }
