use Rattle.std.proofs.Common.{◌≤◌, ap, arith, subst, sym, ◌∙◌}
use Rattle.std.specs.Prelude.{min}
use Rattle.run_history.specs.Inputs.{IsRunnable}
use Rattle.book.specs.Desks.{HasLooked, KeepsMarks}
use Rattle.shared_book.specs.Joins.{first_of}
use Rattle.shared_book.proofs.SeatCalls.{arrays-is}
use Rattle.shared_book.specs.declared.views.View.{View}
use Rattle.shared_book.specs.Lists.{IsIn}
use Rattle.shared_book.specs.MarkSteps.{IsOwnSettled}
use Rattle.shared_book.specs.Places.{input_under, with_mark_loaded}
use Rattle.shared_book.specs.SharedDesks.{HasKept, shared_view}
use Rattle.shared_book.specs.Steps.{SeatView}
use Rattle.watermark.specs.Marks.{mark_of}
use Rattle.shared_book.proofs.DeskFacts.{looked-loaded, mark-loaded, marks-loaded, own-settled}
use Rattle.shared_book.proofs.Held.{held-in}
use Rattle.shared_book.proofs.desk_reports.report_once.Goals as goal

pub raise-requires-clause-lease : goal.raise-requires-clause-lease
raise-requires-clause-lease g c =
    subst (λ (m : SeatView). IsIn c.args.lease.now m.0.leases) (sym c.look.ensures.same)
    (held-in c.args.seat.now.place.me.0.leases c.args.lease.now c.requires.lease)

pub raise-requires-clause-own : goal.raise-requires-clause-own
raise-requires-clause-own g c =
    let v = c.args.seat.now.place.me.0 in
    subst (λ (m : SeatView). IsOwnSettled m.0 c.args.lease.now c.args.own) (sym c.look.ensures.same)
    (own-settled v c.args.lease.now c.args.own (subst IsRunnable (sym c.requires.here.case) c.case_is_runnable.ensures.runnable)
    c.look.ensures.seen (c.look.ensures.settled c.requires.idle.turn) c.requires.own)

pub returns-clause-kept : goal.returns-clause-kept
returns-clause-kept g c =
    let e = ap (λ (m : SeatView). m.0) c.raise.ensures.view
    ∙ ap (λ (m : SeatView). with_mark_loaded m.0 c.args.lease.now.interval c.raise.result) c.look.ensures.same in
    subst HasKept (sym e) c.requires.kept

pub returns-clause-answer : goal.returns-clause-answer
returns-clause-answer g c =
    let p = c.args.seat.now in
    let v = p.place.me.0 in
    let i = c.args.lease.now.interval in
    let e = ap (λ (m : SeatView). m.0) c.raise.ensures.view
    ∙ ap (λ (m : SeatView). with_mark_loaded m.0 c.args.lease.now.interval c.raise.result) c.look.ensures.same in
    let there = p.there c.args.lease.now (held-in v.leases c.args.lease.now c.requires.lease) in
    let below = there.0 in
    let long = p.long.marks in
    mark-loaded v i c.raise.result (omega (arith, below, long)) there.1 ∙ sym (ap (λ (u : View). mark_of (shared_view u).marks i) e)

-- a look settles nothing
pub returns-clause-raised_to : goal.returns-clause-raised_to
returns-clause-raised_to g c =
    subst (λ (m : SeatView). min c.args.own (input_under m.0 c.args.lease.now) ≤ c.raise.result) c.look.ensures.same
    c.raise.ensures.raised

pub returns-clause-looked : goal.returns-clause-looked
returns-clause-looked g c =
    let v = c.args.seat.now.place.me.0 in
    let e = ap (λ (m : SeatView). m.0) c.raise.ensures.view
    ∙ ap (λ (m : SeatView). with_mark_loaded m.0 c.args.lease.now.interval c.raise.result) c.look.ensures.same in
    let w = with_mark_loaded v c.args.lease.now.interval c.raise.result in
    subst (λ (u : View). HasLooked (shared_view v) (shared_view u)) (sym e)
    (looked-loaded v w.marks w.loads v.floor v.floor_loads (omega arith))

pub returns-clause-marks : goal.returns-clause-marks
returns-clause-marks g c =
    let v = c.args.seat.now.place.me.0 in
    let i = c.args.lease.now.interval in
    let e = ap (λ (m : SeatView). m.0) c.raise.ensures.view
    ∙ ap (λ (m : SeatView). with_mark_loaded m.0 i c.raise.result) c.look.ensures.same in
    let same = ap (λ (m : SeatView). mark_of m.0.marks i) c.look.ensures.same in
    let rises = c.raise.ensures.rises in
    subst (λ (u : View). KeepsMarks (shared_view v) (shared_view u)) (sym e)
    (marks-loaded v i c.raise.result (omega (arith, same, rises)))

pub invariant_of-seat : goal.invariant_of-seat
invariant_of-seat g c =
    let p = c.args.seat.now in
    let e = ap (λ (m : SeatView). m.0) c.look.ensures.same in
    let has = arrays-is p.place.me.0 c.look.new.place.me.0 p.settled p.marks p.claims p.inputs e
    (record { loaded = p.loaded; claimed = p.claimed; fed = p.fed; long = p.long; there = p.there; current = p.current }) in
    record {
      numbered = ap (λ (v : View). first_of v.numbers) e ∙ p.numbered;
      small = p.small;
      live = ap (λ (v : View). v.live) e ∙ p.live;
      loaded = has.loaded;
      claimed = has.claimed;
      fed = has.fed;
      long = has.long;
      there = has.there;
      current = has.current;
    }
