use Rattle.std.proofs.Common.{arith, ap, sym, ◌∙◌, subst}
use Rattle.shared_book.specs.declared.views.View.{View}
use Rattle.shared_book.specs.Lists.{Ascends}
use Rattle.shared_book.specs.Steps.{SeatView}
use Rattle.shared_book.specs.Joins.{joined, spent, first_of}
use Rattle.shared_book.proofs.Merging.{joined_high, joined_even}
use Rattle.shared_book.proofs.Starting.{lift_join}
use Rattle.shared_book.proofs.JoinedArrays.{arrays-joined}
use Rattle.shared_book.proofs.SeatArrays.{HasArrays}
use Rattle.shared_book.proofs.Joining.{joined-met, joined-seen, seats_join}
use Rattle.shared_book.proofs.shared.Shared.join.Goals as goal

pub join_seat-requires : goal.join_seat-requires
join_seat-requires g c =
    let ids = c.args.self.now.sized in
    let s = c.args.seat.now in
    let n = c.look.new.place in
    let same = c.look.ensures.same in
    let v = s.place.me.0 in
    let w = n.me.0 in (
      c.requires.here.table,
      c.look.ensures.table,
      ap (λ (m : SeatView). m.1) same ∙ c.requires.other_idle.places,
      omega (arith, ids.0),
      lift_join c.args.self.now.table.shared.key s.place.id v n.id w (joined v w) spent s.live
          (λ basis. seats_join basis s.place.id v n.id w s.live c.requires.idle.turn
          (ap (λ (m : SeatView). m.0.turn) same ∙ c.requires.other_idle.turn)
          (ap (λ (m : SeatView). m.0.live) same ∙ c.args.other.live)),
    )

pub invariant_of-seat : goal.invariant_of-seat
invariant_of-seat g c =
    let s = c.args.seat.now in
    let o = c.args.other in
    let same = c.look.ensures.same in
    let w = c.look.new.place.me.0 in
    let e = ap (λ (m : SeatView). m.0) (c.look-2.ensures.same ∙ c.join_seat.ensures.2) in
    let has = arrays-joined s.place.me.0 w c.look-2.new.place.me.0 s.settled o.settled s.marks s.claims s.inputs o.marks o.claims o.inputs
    c.greater_of-seat.result c.newer_of-seat-2.result c.newer_of-seat.result e
    (ap (λ (m : SeatView). m.0.basis.case) same ∙ c.requires.other.case ∙ sym c.requires.here.case)
    (record { loaded = s.loaded; claimed = s.claimed; fed = s.fed; long = s.long; there = s.there; current = s.current })
    (subst (λ (m : SeatView). HasArrays m.0 o.settled o.marks o.claims o.inputs) (sym same)
    (record { loaded = o.loaded; claimed = o.claimed; fed = o.fed; long = o.long; there = o.there; current = o.current }))
    c.greater_of-seat.ensures c.newer_of-seat-2.ensures c.newer_of-seat.ensures in
    record {
      numbered = ap (λ (v : View). first_of v.numbers) e ∙ joined_high s.number o.number s.place.me.0.numbers w.numbers s.numbered
          (ap (λ (m : SeatView). first_of m.0.numbers) same ∙ o.numbered) (omega (arith, c.if-number-seat.true))
          (subst (λ (m : SeatView). Ascends m.0.numbers) (sym same) c.look.ensures.seen.ascend);
      small = o.small;
      live = ap (λ (v : View). v.live) e ∙ s.live;
      loaded = has.loaded;
      claimed = has.claimed;
      fed = has.fed;
      long = has.long;
      there = has.there;
      current = has.current;
    }

pub invariant_of-seat-else-number-seat : goal.invariant_of-seat-else-number-seat
invariant_of-seat-else-number-seat g c =
    let s = c.args.seat.now in
    let o = c.args.other in
    let same = c.look.ensures.same in
    let w = c.look.new.place.me.0 in
    let e = ap (λ (m : SeatView). m.0) (c.look-2.ensures.same ∙ c.join_seat.ensures.2) in
    let has = arrays-joined s.place.me.0 w c.look-2.new.place.me.0 s.settled o.settled s.marks s.claims s.inputs o.marks o.claims o.inputs
    c.greater_of-seat.result c.newer_of-seat-2.result c.newer_of-seat.result e
    (ap (λ (m : SeatView). m.0.basis.case) same ∙ c.requires.other.case ∙ sym c.requires.here.case)
    (record { loaded = s.loaded; claimed = s.claimed; fed = s.fed; long = s.long; there = s.there; current = s.current })
    (subst (λ (m : SeatView). HasArrays m.0 o.settled o.marks o.claims o.inputs) (sym same)
    (record { loaded = o.loaded; claimed = o.claimed; fed = o.fed; long = o.long; there = o.there; current = o.current }))
    c.greater_of-seat.ensures c.newer_of-seat-2.ensures c.newer_of-seat.ensures in
    record {
      numbered = ap (λ (v : View). first_of v.numbers) e ∙ joined_even s.number o.number s.place.me.0.numbers w.numbers s.numbered
          (ap (λ (m : SeatView). first_of m.0.numbers) same ∙ o.numbered) (omega (arith, c.if-number-seat.false))
          (subst (λ (m : SeatView). Ascends m.0.numbers) (sym same) c.look.ensures.seen.ascend);
      small = s.small;
      live = ap (λ (v : View). v.live) e ∙ s.live;
      loaded = has.loaded;
      claimed = has.claimed;
      fed = has.fed;
      long = has.long;
      there = has.there;
      current = has.current;
    }

-- what either had seen begins the longer of both, where the number of the other is the first
pub returns-then-number-seat-clause-seen : goal.returns-then-number-seat-clause-seen
returns-then-number-seat-clause-seen g c =
    joined-seen c.args.seat.now.place.me.0 c.look.new.place.me.0 c.look-2.new.place.me.0
    (ap (λ (m : SeatView). m.0) (c.look-2.ensures.same ∙ c.join_seat.ensures.2))

pub returns-then-number-seat-clause-met : goal.returns-then-number-seat-clause-met
returns-then-number-seat-clause-met g c =
    joined-met c.args.other.place.me.0 c.args.seat.now.place.me.0 c.look.new.place.me.0 _ c.look-2.new.place.me.0
    (ap (λ (m : SeatView). m.0) c.look.ensures.same) (ap (λ (m : SeatView). m.0) c.join_seat.ensures.2)
    (ap (λ (m : SeatView). m.0) c.look-2.ensures.same) c.look-2.ensures.met

-- what either had seen begins the longer of both, and else
pub returns-else-number-seat-clause-seen : goal.returns-else-number-seat-clause-seen
returns-else-number-seat-clause-seen g c =
    joined-seen c.args.seat.now.place.me.0 c.look.new.place.me.0 c.look-2.new.place.me.0
    (ap (λ (m : SeatView). m.0) (c.look-2.ensures.same ∙ c.join_seat.ensures.2))

pub returns-else-number-seat-clause-met : goal.returns-else-number-seat-clause-met
returns-else-number-seat-clause-met g c =
    joined-met c.args.other.place.me.0 c.args.seat.now.place.me.0 c.look.new.place.me.0 _ c.look-2.new.place.me.0
    (ap (λ (m : SeatView). m.0) c.look.ensures.same) (ap (λ (m : SeatView). m.0) c.join_seat.ensures.2)
    (ap (λ (m : SeatView). m.0) c.look-2.ensures.same) c.look-2.ensures.met
