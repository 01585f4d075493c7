use Rattle.std.proofs.Common.{◌+◌, ◌∙◌, ap, length, arith}
use Rattle.run_history.specs.Cases.{CaseShape, intervals_of}
use Rattle.run_history.proofs.CaseIntervals.{length-intervals}
use Rattle.shared_book.specs.Joins.{first_of}
use Rattle.shared_book.proofs.SeatCalls.{arrays-claim, arrays-unclaimed}
use Rattle.shared_book.proofs.turn_calls.claim_at.Goals as goal

pub invariant_of-seat : goal.invariant_of-seat
invariant_of-seat g c =
    let p = c.args.seat.now in
    let r = c.claim_in in
    let below = c.requires.may.interval_there in
    let few = c.case_is_runnable.ensures.runnable.topology.few_intervals in
    let all = length-intervals c.args.shared.now.case.now.topology in
    let same = ap (λ (k : CaseShape). length (intervals_of k.topology)) c.requires.here.case in
    let seq = c.seq.ensures in
    let has = arrays-claim p.place.me.0 r.new.place.me.0 p.settled p.marks p.claims p.inputs c.args.worker c.args.interval c.in-Ok.claimed
    c.in-Ok.ensures.claimed (omega (arith, below, few)) (omega (arith, below, all, same)) (c.seq.result + 1) (omega (arith, seq))
    (record { loaded = p.loaded; claimed = p.claimed; fed = p.fed; long = p.long; there = p.there; current = p.current }) in
    record {
      numbered = ap first_of r.ensures.numbers ∙ p.numbered;
      small = p.small;
      live = r.ensures.here.live;
      loaded = has.loaded;
      claimed = has.claimed;
      fed = has.fed;
      long = has.long;
      there = has.there;
      current = has.current;
    }

pub invariant_of-seat-in-Err-1 : goal.invariant_of-seat-in-Err-1
invariant_of-seat-in-Err-1 g c =
    let p = c.args.seat.now in
    let r = c.claim_in in
    let has = arrays-unclaimed p.place.me.0 r.new.place.me.0 p.settled p.marks p.claims p.inputs c.in-Err.why
    c.in-Err.ensures.fault c.in-Err.ensures.unchanged
    (record { loaded = p.loaded; claimed = p.claimed; fed = p.fed; long = p.long; there = p.there; current = p.current }) in
    record {
      numbered = ap first_of r.ensures.numbers ∙ p.numbered;
      small = p.small;
      live = r.ensures.here.live;
      loaded = has.loaded;
      claimed = has.claimed;
      fed = has.fed;
      long = has.long;
      there = has.there;
      current = has.current;
    }
