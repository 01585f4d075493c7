use Rattle.std.proofs.Common.{◌∙◌, ap, arith}
use Rattle.shared_book.specs.Joins.{first_of}
use Rattle.shared_book.specs.Steps.{SeatView}
use Rattle.shared_book.proofs.Told.{may_take, took_turn}
use Rattle.shared_book.proofs.Told.{told_arrays, told_same, told_seen}
use Rattle.shared_book.proofs.slots.take.Goals as goal

pub compare_exchange-requires : goal.compare_exchange-requires
compare_exchange-requires g c =
    let ids = c.args.shared.now.sized in
    let table = c.args.shared.now.table.shared in
    let p = c.look.new.place in
    let same = c.look.ensures.same in
    let s = c.args.seat.now in (
      c.look.ensures.table,
      omega (arith, ids.0),
      may_take table.key table.table_id.slots p.id s.number p.me.0 p.me.1 (ap (λ (m : SeatView). first_of m.0.numbers) same ∙ s.numbered)
          (ap (λ (m : SeatView). m.0.turn) same ∙ c.requires.idle.turn) (ap (λ (m : SeatView). m.0.live) same ∙ s.live)
          (ap (λ (m : SeatView). m.1) same ∙ c.requires.idle.places),
    )

pub returns-clause-turn : goal.returns-clause-turn
returns-clause-turn g c = λ e.
    let step = c.compare_exchange in
    (took_turn step.result c.args.seat.now.place.me step.new.seat.me c.requires.idle.places
    (told_seen step.result c.args.seat.now.place.me c.look.new.place.me step.new.seat.me c.look.ensures.same step.ensures.2.1) e).0

pub returns-clause-taken : goal.returns-clause-taken
returns-clause-taken g c = λ e.
    let step = c.compare_exchange in
    (took_turn step.result c.args.seat.now.place.me step.new.seat.me c.requires.idle.places
    (told_seen step.result c.args.seat.now.place.me c.look.new.place.me step.new.seat.me c.look.ensures.same step.ensures.2.1) e).1

pub invariant_of-seat : goal.invariant_of-seat
invariant_of-seat g c =
    let p = c.args.seat.now in
    let step = c.compare_exchange in
    let told = told_seen step.result p.place.me c.look.new.place.me step.new.seat.me c.look.ensures.same step.ensures.2.1 in
    let kept = told_same step.result p.place.me step.new.seat.me c.requires.idle.places told in
    let has = told_arrays step.result p.place.me step.new.seat.me p.settled p.marks p.claims p.inputs c.requires.idle.places
    (c.look.ensures.settled c.requires.idle.turn) told
    (record { loaded = p.loaded; claimed = p.claimed; fed = p.fed; long = p.long; there = p.there; current = p.current }) in
    record {
      numbered = ap first_of kept.2 ∙ p.numbered;
      small = p.small;
      live = kept.1 ∙ p.live;
      loaded = has.loaded;
      claimed = has.claimed;
      fed = has.fed;
      long = has.long;
      there = has.there;
      current = has.current;
    }
