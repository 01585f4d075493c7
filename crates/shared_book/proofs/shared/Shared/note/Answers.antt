use Rattle.std.proofs.Common.{arith, ap, ◌∙◌}
use Rattle.shared_book.specs.declared.views.View.{View}
use Rattle.shared_book.specs.Joins.{first_of, note_of}
use Rattle.shared_book.specs.Steps.{SeatView}
use Rattle.shared_book.proofs.SeatCalls.{arrays-is}
use Rattle.shared_book.proofs.Starting.{lift_split}
use Rattle.shared_book.proofs.Joining.{note_splits, note_bare}
use Rattle.shared_book.proofs.shared.Shared.note.Goals as goal

pub split_seat-requires : goal.split_seat-requires
split_seat-requires g c =
    let ids = c.args.self.now.sized in
    let s = c.args.seat.now in
    let v = s.place.me.0 in (
      c.requires.here.table,
      omega (arith, ids.0),
      lift_split c.args.self.now.table.shared.key s.place.id v v (note_of v) s.live (λ basis. note_splits basis s.place.id v),
    )

pub invariant_of-result : goal.invariant_of-result
invariant_of-result g c =
    let s = c.args.seat.now in
    let e = c.split_seat.ensures.4 in
    record {
      bare = note_bare s.place.me.0 c.split_seat.result.me.0 (ap (λ (m : SeatView). m.0) e);
      empty = ap (λ (m : SeatView). m.1) e;
      live = ap (λ (m : SeatView). m.0.live) e ∙ s.live;
    }

pub invariant_of-seat : goal.invariant_of-seat
invariant_of-seat g c =
    let p = c.args.seat.now in
    let e = ap (λ (m : SeatView). m.0) c.split_seat.ensures.2 in
    let has = arrays-is p.place.me.0 c.split_seat.new.seat.me.0 p.settled p.marks p.claims p.inputs e
    (record { loaded = p.loaded; claimed = p.claimed; fed = p.fed; long = p.long; there = p.there; current = p.current }) in
    record {
      numbered = ap (λ (v : View). first_of v.numbers) e ∙ p.numbered;
      small = p.small;
      live = ap (λ (v : View). v.live) e ∙ p.live;
      loaded = has.loaded;
      claimed = has.claimed;
      fed = has.fed;
      long = has.long;
      there = has.there;
      current = has.current;
    }
