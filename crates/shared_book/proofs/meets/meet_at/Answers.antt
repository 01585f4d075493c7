use Rattle.std.proofs.Common.{arith, ap, sym, subst, ◌∙◌}
use Rattle.shared_book.specs.declared.views.View.{View}
use Rattle.shared_book.specs.Joins.{first_of, joined, spent}
use Rattle.shared_book.specs.Steps.{HasSeenWritten, SeatView}
use Rattle.shared_book.proofs.Starting.{lift_join}
use Rattle.shared_book.proofs.Joining.{seats_join, met_numbers, met_own, met_leases, met_faults}
use Rattle.shared_book.proofs.JoinedArrays.{arrays-met}
use Rattle.shared_book.proofs.Meeting.{met_foreign}
use Rattle.shared_book.proofs.meets.meet_at.Goals as goal

pub join_seat-requires : goal.join_seat-requires
join_seat-requires g c =
    let ids = c.args.shared.now.sized in
    let s = c.args.seat.now in
    let p = c.look.new.place in
    let same = c.look.ensures.same in
    let n = c.args.note in
    let v = p.me.0 in
    let w = n.place.me.0 in
    let live = ap (λ (m : SeatView). m.0.live) same ∙ s.live in
    let quiet = ap (λ (m : SeatView). m.0.turn) same ∙ c.requires.idle.turn in (
      c.look.ensures.table,
      c.requires.note,
      n.empty,
      omega (arith, ids.0),
      lift_join c.args.shared.now.table.shared.key p.id v n.place.id w (joined v w) spent live
          (λ basis. seats_join basis p.id v n.place.id w live quiet (ap (λ (x : View). x.turn) n.bare) n.live),
    )

pub returns-clause-numbers : goal.returns-clause-numbers
returns-clause-numbers g c =
    ap (λ (m : SeatView). m.0.numbers) (c.look-2.ensures.same ∙ c.join_seat.ensures.2)
    ∙ met_numbers c.look.new.place.me.0 c.args.note.place.me.0 c.args.note.bare
    ∙ ap (λ (m : SeatView). m.0.numbers) c.look.ensures.same

pub returns-clause-own : goal.returns-clause-own
returns-clause-own g c =
    ap (λ (m : SeatView). m.0.own) (c.look-2.ensures.same ∙ c.join_seat.ensures.2)
    ∙ met_own c.look.new.place.me.0 c.args.note.place.me.0 c.args.note.bare
    ∙ ap (λ (m : SeatView). m.0.own) c.look.ensures.same

pub returns-clause-leases : goal.returns-clause-leases
returns-clause-leases g c =
    ap (λ (m : SeatView). m.0.leases) (c.look-2.ensures.same ∙ c.join_seat.ensures.2)
    ∙ met_leases c.look.new.place.me.0 c.args.note.place.me.0 c.args.note.bare
    ∙ ap (λ (m : SeatView). m.0.leases) c.look.ensures.same

pub returns-clause-faults : goal.returns-clause-faults
returns-clause-faults g c =
    ap (λ (m : SeatView). m.0.faults) (c.look-2.ensures.same ∙ c.join_seat.ensures.2)
    ∙ met_faults c.look.new.place.me.0 c.args.note.place.me.0 c.args.note.bare
    ∙ ap (λ (m : SeatView). m.0.faults) c.look.ensures.same

pub returns-clause-foreign : goal.returns-clause-foreign
returns-clause-foreign g c =
    let w = c.args.note.place.me.0 in
    met_foreign c.args.seat.now.place.me.0 w c.look-2.new.place.me.0 c.args.note.bare
    (ap (λ (m : SeatView). m.0) (c.look-2.ensures.same ∙ c.join_seat.ensures.2)
    ∙ ap (λ (m : SeatView). joined m.0 w) c.look.ensures.same)
    c.look.ensures.written
    (subst (λ (m : SeatView). HasSeenWritten m.0) (sym c.look-2.ensures.same) c.look-2.ensures.written)
    c.look.ensures.seen

pub returns-clause-basis : goal.returns-clause-basis
returns-clause-basis g c =
    let joined_is = ap (λ (m : SeatView). m.0) c.join_seat.ensures.2 in
    sym (ap (λ (v : View). v.met_basis) joined_is) ∙ c.look-2.ensures.met_same
    ∙ ap (λ (v : View). v.basis) joined_is ∙ ap (λ (m : SeatView). m.0.basis) c.look.ensures.same

pub invariant_of-seat : goal.invariant_of-seat
invariant_of-seat g c =
    let s = c.args.seat.now in
    let v = s.place.me.0 in
    let w = c.args.note.place.me.0 in
    let is = ap (λ (m : SeatView). m.0) (c.look-2.ensures.same ∙ c.join_seat.ensures.2) ∙ ap (λ (m : SeatView). joined m.0 w) c.look.ensures.same in
    let has = arrays-met v w c.look-2.new.place.me.0 s.settled s.marks s.claims s.inputs c.args.note.bare is (c.look.ensures.settled c.requires.idle.turn)
    (record { loaded = s.loaded; claimed = s.claimed; fed = s.fed; long = s.long; there = s.there; current = s.current }) in
    record {
      numbered = ap (λ (u : View). first_of u.numbers) is ∙ ap first_of (met_numbers v w c.args.note.bare) ∙ s.numbered;
      small = s.small;
      live = ap (λ (u : View). u.live) is ∙ s.live;
      loaded = has.loaded;
      claimed = has.claimed;
      fed = has.fed;
      long = has.long;
      there = has.there;
      current = has.current;
    }
