use Rattle.std.proofs.Common.{◌∙◌, ap}
use Rattle.shared_book.specs.declared.views.View.{View}
use Rattle.shared_book.specs.Joins.{first_of}
use Rattle.shared_book.specs.Steps.{SeatView}
use Rattle.shared_book.proofs.SeatArrays.{arrays-marked}
use Rattle.shared_book.proofs.shared.Shared.mark.Goals as goal

pub invariant_of-seat : goal.invariant_of-seat
invariant_of-seat g c =
    let p = c.args.seat.now in
    let r = c.load_mark-mark in
    let e = ap (λ (m : SeatView). m.0) r.ensures.view in
    let k = c.keep_mark-seat in
    let has = arrays-marked p.place.me.0 r.new.place.me.0 p.settled k.result p.marks p.claims p.inputs c.args.interval r.result k.new.marks e
    k.ensures.marks k.ensures.same k.ensures.settled
    (record { loaded = p.loaded; claimed = p.claimed; fed = p.fed; long = p.long; there = p.there; current = p.current }) in
    record {
      numbered = ap (λ (v : View). first_of v.numbers) e ∙ p.numbered;
      small = p.small;
      live = ap (λ (v : View). v.live) e ∙ p.live;
      loaded = has.loaded;
      claimed = has.claimed;
      fed = has.fed;
      long = has.long;
      there = has.there;
      current = has.current;
    }
