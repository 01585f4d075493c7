use Rattle.std.proofs.Common.{◌∙◌, ap}
use Rattle.shared_book.specs.declared.views.View.{View}
use Rattle.shared_book.specs.Joins.{first_of}
use Rattle.shared_book.proofs.SeatCalls.{arrays-is}
use Rattle.shared_book.proofs.turn_calls.unfinished_at.Goals as goal

pub invariant_of-seat : goal.invariant_of-seat
invariant_of-seat g c =
    let p = c.args.seat.now in
    let r = c.unfinished_in in
    let has = arrays-is p.place.me.0 r.new.place.me.0 p.settled p.marks p.claims p.inputs r.ensures.view
    (record { loaded = p.loaded; claimed = p.claimed; fed = p.fed; long = p.long; there = p.there; current = p.current }) in
    record {
      numbered = ap (λ (v : View). first_of v.numbers) r.ensures.view ∙ p.numbered;
      small = p.small;
      live = r.ensures.here.live;
      loaded = has.loaded;
      claimed = has.claimed;
      fed = has.fed;
      long = has.long;
      there = has.there;
      current = has.current;
    }
