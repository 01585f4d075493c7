use Rattle.std.proofs.Common.{ap, ◌∙◌, length}
use Rattle.shared_book.specs.FenceLaw.{AreClaimed}
use Rattle.shared_book.specs.declared.views.View.{View}
use Rattle.shared_book.specs.Joins.{first_of}
use Rattle.shared_book.specs.Steps.{SeatView}
use Rattle.shared_book.specs.Turns.{IsGrown}
use Rattle.shared_book.proofs.Calls.{use_held, may_held, lease_own, put_entry, grown_by, stale_seen, put_in, as_out, in_after}
use Rattle.shared_book.proofs.SeatCalls.{arrays-back, arrays-put_at}
use Rattle.shared_book.proofs.turn_calls.put_at.Goals as goal

pub put_copy-result-requires-clause-lease : goal.put_copy-result-requires-clause-lease
put_copy-result-requires-clause-lease g c =
    let o = c.out-core in
    let b = c.of-book in
    use_held c.args.seat.now.place.me.0 o.result b.result c.args.shared.now.case.now o.ensures.core b.ensures.core b.ensures.case
    c.requires.here.case c.args.lease.now c.len-front.result c.args.name.now c.requires.turn.claimed
    (c.len-front.ensures.count ∙ ap length c.history.ensures.history) c.requires.lease

pub put_copy-result-requires-clause-may : goal.put_copy-result-requires-clause-may
put_copy-result-requires-clause-may g c =
    let o = c.out-core in
    let b = c.of-book in
    may_held c.args.seat.now.place.me.0 o.result b.result c.args.shared.now.case.now o.ensures.core b.ensures.core b.ensures.case
    c.requires.here.case c.len-front.result c.args.name.now c.args.row.now c.args.writing
    (c.len-front.ensures.count ∙ ap length c.history.ensures.history) c.requires.may

pub append-requires-clause-grown : goal.append-requires-clause-grown
append-requires-clause-grown g c =
    let v = c.args.seat.now.place.me.0 in
    let o = c.out-core in
    let b = c.of-book in
    let i = c.into_core-core in
    let k = c.in-Ok.ensures in
    let e = put_entry b.result.case b.result.rows b.result.history c.put_copy-result.new.self.history c.args.lease.now c.args.name.now
    c.args.writing c.args.row.now c.in-Ok.written k.put in
    as_out c.args.seat.now.place.me o.new.place.me (λ u. IsGrown u i.result.1) o.ensures.view
    (grown_by v o.result b.result c.args.shared.now.case.now o.ensures.core b.ensures.core b.ensures.case c.requires.here.case
    c.put_copy-result.new.self i.result.1 i.result.0.now c.requires.turn.claimed k.same k.keeper_fault.later i.ensures.core
    i.ensures.case i.ensures.lawful e.entry e.appended (lease_own v c.args.lease.now e.entry c.requires.lease.held e.carries))

pub back-requires-clause-claimed : goal.back-requires-clause-claimed
back-requires-clause-claimed g c =
    as_out c.args.seat.now.place.me c.out-core.new.place.me (λ u. AreClaimed u.front u.leases) c.out-core.ensures.view
    c.requires.turn.claimed

pub returns-in-Ok-clause-put : goal.returns-in-Ok-clause-put
returns-in-Ok-clause-put g c =
    let v = c.args.seat.now.place.me.0 in
    let o = c.out-core in
    let b = c.of-book in
    let i = c.into_core-core in
    let k = c.in-Ok.ensures in
    put_in v o.result b.result c.args.shared.now.case.now o.ensures.core b.ensures.core b.ensures.case c.requires.here.case
    c.put_copy-result.new.self i.result.1 i.result.0.now c.requires.turn.claimed k.same k.keeper_fault.later i.ensures.core
    i.ensures.case i.ensures.lawful c.append.new.place.me.0 c.args.lease.now c.args.name.now c.args.writing c.args.row.now
    c.in-Ok.written (in_after c.args.seat.now.place.me o.new.place.me c.append.new.place.me i.result.1 o.ensures.view c.append.ensures.view)
    k.found k.put

pub returns-in-Err-clause-stale : goal.returns-in-Err-clause-stale
returns-in-Err-clause-stale g c =
    let o = c.out-core in
    let b = c.of-book in
    stale_seen c.args.seat.now.place.me.0 o.result b.result c.args.shared.now.case.now o.ensures.core b.ensures.core b.ensures.case
    c.requires.here.case c.args.lease.now c.put_copy-result.result _ c.in-Err.is c.put_copy-result.ensures.stale

pub invariant_of-seat : goal.invariant_of-seat
invariant_of-seat g c =
    let p = c.args.seat.now in
    let v = c.args.seat.now.place.me.0 in
    let o = c.out-core in
    let b = c.of-book in
    let i = c.into_core-core in
    let k = c.in-Ok.ensures in
    let is = in_after p.place.me o.new.place.me c.append.new.place.me i.result.1 o.ensures.view c.append.ensures.view in
    let has = arrays-put_at v c.append.new.place.me.0 p.settled p.marks p.claims p.inputs c.args.lease.now c.args.name.now c.args.writing c.args.row.now c.in-Ok.written
    (put_in v o.result b.result c.args.shared.now.case.now o.ensures.core b.ensures.core b.ensures.case c.requires.here.case
    c.put_copy-result.new.self i.result.1 i.result.0.now c.requires.turn.claimed k.same k.keeper_fault.later i.ensures.core
    i.ensures.case i.ensures.lawful c.append.new.place.me.0 c.args.lease.now c.args.name.now c.args.writing c.args.row.now
    c.in-Ok.written (in_after c.args.seat.now.place.me o.new.place.me c.append.new.place.me i.result.1 o.ensures.view c.append.ensures.view)
    k.found k.put)
    (record { loaded = p.loaded; claimed = p.claimed; fed = p.fed; long = p.long; there = p.there; current = p.current }) in
    record {
      numbered = ap first_of (ap (λ (u : View). u.numbers) is) ∙ p.numbered;
      small = p.small;
      live = ap (λ (u : View). u.live) is ∙ p.live;
      loaded = has.loaded;
      claimed = has.claimed;
      fed = has.fed;
      long = has.long;
      there = has.there;
      current = has.current;
    }

pub invariant_of-seat-in-Err : goal.invariant_of-seat-in-Err
invariant_of-seat-in-Err g c =
    let p = c.args.seat.now in
    let o = c.out-core in
    let b = c.back in
    let is = ap (λ (m : SeatView). m.0) o.ensures.view in
    let has = arrays-back p.place.me.0 o.new.place.me.0 b.new.place.me.0 p.settled p.marks p.claims p.inputs c.eq.result is b.ensures.same b.ensures.fault
    (record { loaded = p.loaded; claimed = p.claimed; fed = p.fed; long = p.long; there = p.there; current = p.current }) in
    record {
      numbered = ap first_of (b.ensures.numbers ∙ ap (λ (u : View). u.numbers) is) ∙ p.numbered;
      small = p.small;
      live = b.ensures.live;
      loaded = has.loaded;
      claimed = has.claimed;
      fed = has.fed;
      long = has.long;
      there = has.there;
      current = has.current;
    }
