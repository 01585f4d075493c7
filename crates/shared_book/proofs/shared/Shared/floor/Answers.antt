use Rattle.std.proofs.Common.{◌∙◌, ap}
use Rattle.shared_book.specs.declared.views.View.{View}
use Rattle.shared_book.specs.Joins.{first_of}
use Rattle.shared_book.specs.Steps.{SeatView}
use Rattle.shared_book.proofs.SeatArrays.{arrays-same}
use Rattle.shared_book.proofs.shared.Shared.floor.Goals as goal

pub invariant_of-seat : goal.invariant_of-seat
invariant_of-seat g c =
    let p = c.args.seat.now in
    let r = c.load_floor in
    let e = ap (λ (m : SeatView). m.0) r.ensures.view in
    let has = arrays-same p.place.me.0 r.new.place.me.0 p.settled p.marks p.claims p.inputs (ap (λ (v : View). v.basis) e)
    (ap (λ (v : View). v.marks) e) (ap (λ (v : View). v.settled) e) (ap (λ (v : View). v.leases) e) (ap (λ (v : View). v.front) e)
    (record { loaded = p.loaded; claimed = p.claimed; fed = p.fed; long = p.long; there = p.there; current = p.current }) in
    record {
      numbered = ap (λ (v : View). first_of v.numbers) e ∙ p.numbered;
      small = p.small;
      live = ap (λ (v : View). v.live) e ∙ p.live;
      loaded = has.loaded;
      claimed = has.claimed;
      fed = has.fed;
      long = has.long;
      there = has.there;
      current = has.current;
    }
