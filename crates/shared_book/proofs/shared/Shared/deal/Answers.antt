use Rattle.std.proofs.Common.{arith, ap, ◌+◌, ◌∙◌}
use Rattle.shared_book.specs.declared.views.View.{View}
use Rattle.shared_book.specs.Steps.{SeatView}
use Rattle.shared_book.proofs.SeatArrays.{arrays-same}
use Rattle.shared_book.specs.Joins.{first_of, leaves, stays}
use Rattle.shared_book.proofs.Starting.{lift_split}
use Rattle.shared_book.proofs.Joining.{seat_splits}
use Rattle.shared_book.proofs.Told.{two_numbers}
use Rattle.shared_book.proofs.shared.Shared.deal.Goals as goal

pub split_seat-place-requires : goal.split_seat-place-requires
split_seat-place-requires g c =
    let ids = c.args.self.now.sized in
    let s = c.args.seat.now in
    let p = s.place in
    let v = p.me.0 in
    let n = two_numbers v.numbers s.number (s.number + 1) s.numbered c.requires.more in (
      c.requires.here.table,
      omega (arith, ids.0),
      lift_split c.args.self.now.table.shared.key p.id v (stays v) (leaves v) s.live
          (λ basis. seat_splits basis p.id s.number (s.number + 1) n.0 v n.1 c.requires.idle.turn),
    )

pub invariant_of-seat : goal.invariant_of-seat
invariant_of-seat g c =
    let p = c.args.seat.now in
    let e = ap (λ (m : SeatView). m.0) c.split_seat-place.ensures.2 in
    let few = c.requires.few in
    let has = arrays-same p.place.me.0 c.split_seat-place.new.seat.me.0 p.settled p.marks p.claims p.inputs (ap (λ (v : View). v.basis) e)
    (ap (λ (v : View). v.marks) e) (ap (λ (v : View). v.settled) e) (ap (λ (v : View). v.leases) e) (ap (λ (v : View). v.front) e)
    (record { loaded = p.loaded; claimed = p.claimed; fed = p.fed; long = p.long; there = p.there; current = p.current }) in
    record {
      numbered = ap (λ (v : View). first_of v.numbers) e ∙ c.requires.more;
      small = omega (arith, few);
      live = ap (λ (v : View). v.live) e ∙ p.live;
      loaded = has.loaded;
      claimed = has.claimed;
      fed = has.fed;
      long = has.long;
      there = has.there;
      current = has.current;
    }
