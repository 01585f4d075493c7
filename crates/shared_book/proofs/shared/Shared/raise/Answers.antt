use Rattle.std.proofs.Common.{◌∙◌, ap}
use Rattle.std.specs.Prelude.{min, slice_set}
use Rattle.shared_book.specs.declared.views.View.{View}
use Rattle.shared_book.specs.Joins.{first_of}
use Rattle.shared_book.specs.Steps.{SeatView}
use Rattle.shared_book.proofs.Raising.{may-raise}
use Rattle.shared_book.proofs.SeatArrays.{arrays-marked}
use Rattle.shared_book.proofs.shared.Shared.raise.Goals as goal

pub settled_input-input-requires : goal.settled_input-input-requires
settled_input-input-requires g c = record { there = (c.args.seat.now.there c.args.lease.now c.requires.lease).0 }

pub raise_mark-mark-requires-clause-there : goal.raise_mark-mark-requires-clause-there
raise_mark-mark-requires-clause-there g c = (c.args.seat.now.there c.args.lease.now c.requires.lease).0

pub raise_mark-mark-requires-clause-may : goal.raise_mark-mark-requires-clause-may
raise_mark-mark-requires-clause-may g c =
    may-raise c.args.seat.now.place.me.0 c.args.lease.now c.args.own c.min.result c.requires.lease c.requires.own
    (c.min.ensures ∙ ap (min c.args.own) c.settled_input-input.ensures)

pub invariant_of-seat : goal.invariant_of-seat
invariant_of-seat g c =
    let p = c.args.seat.now in
    let r = c.raise_mark-mark in
    let e = ap (λ (m : SeatView). m.0) r.ensures.view in
    let k = c.keep_mark-seat in
    let has = arrays-marked p.place.me.0 r.new.place.me.0 p.settled k.result p.marks p.claims p.inputs c.args.lease.now.interval r.result
    k.new.marks e (k.ensures.marks ∙ ap (λ i. slice_set p.marks i r.result) c.interval.ensures) k.ensures.same k.ensures.settled
    (record { loaded = p.loaded; claimed = p.claimed; fed = p.fed; long = p.long; there = p.there; current = p.current }) in
    record {
      numbered = ap (λ (v : View). first_of v.numbers) e ∙ p.numbered;
      small = p.small;
      live = ap (λ (v : View). v.live) e ∙ p.live;
      loaded = has.loaded;
      claimed = has.claimed;
      fed = has.fed;
      long = has.long;
      there = has.there;
      current = has.current;
    }
