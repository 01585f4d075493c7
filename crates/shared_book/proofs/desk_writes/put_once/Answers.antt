use Rattle.std.proofs.Common.{◌∙◌, ap, subst, sym}
use Rattle.book.specs.Answers.{answer_of}
use Rattle.book.specs.Writings.{HasPut}
use Rattle.book.specs.DeskReasons.{HasReason, of_write}
use Rattle.book.specs.Desks.{HasLooked, KeepsMarks}
use Rattle.shared_book.specs.Joins.{first_of}
use Rattle.shared_book.specs.SharedDesks.{shared_view}
use Rattle.shared_book.specs.Turns.{HasPutIn}
use Rattle.shared_book.proofs.DeskSteps.{accepted, marks-busy, marks-grown, marks-refused, busy-looked, given, looked-refused, reason-write, put-of, refused-write}
use Rattle.shared_book.proofs.SeatCalls.{arrays-put, put-view}
use Rattle.shared_book.proofs.Taking.{core-taken, may-taken, row-taken, write-taken}
use Rattle.shared_book.proofs.desk_writes.put_once.Goals as goal

pub put_in-result-requires-clause-lease : goal.put_in-result-requires-clause-lease
put_in-result-requires-clause-lease g c =
    let v = c.args.seat.now.place.me.0 in
    write-taken v c.take-found.new.seat.place.me.0 (c.take-found.ensures.taken c.if-found-ne0.false) c.args.lease.now
    c.args.name.now c.requires.lease

pub put_in-result-requires-clause-row : goal.put_in-result-requires-clause-row
put_in-result-requires-clause-row g c =
    let v = c.args.seat.now.place.me.0 in
    row-taken v c.take-found.new.seat.place.me.0 (c.take-found.ensures.taken c.if-found-ne0.false) c.args.lease.now
    c.args.name.now c.args.row.now c.requires.lease c.requires.row

pub put_in-result-requires-clause-may : goal.put_in-result-requires-clause-may
put_in-result-requires-clause-may g c =
    let v = c.args.seat.now.place.me.0 in
    let t = c.take-found.new.seat.place.me.0 in
    let taken = c.take-found.ensures.taken c.if-found-ne0.false in
    let turn = c.take-found.ensures.turn c.if-found-ne0.false in
    let core = core-taken v t taken t.count turn.book turn.core in
    may-taken v t taken turn.book c.args.lease.now c.args.name.now c.args.row.now c.args.writing
    core.whole core.told core.lawful c.args.seat.now.long.marks c.requires.row c.requires.may

pub returns-in-Ok-clause-put : goal.returns-in-Ok-clause-put
returns-in-Ok-clause-put g c =
    let v = c.args.seat.now.place.me.0 in
    let t = c.take-found.new.seat.place.me.0 in
    let r = c.put_in-result in
    let w = r.new.place.me in
    let put = accepted (λ commit. HasPutIn t w.0 c.args.lease.now c.args.name.now c.args.writing
    c.args.row.now (answer_of commit r.new.row))
    r.result.0 c.in-Ok.commit c.in-Ok.is r.ensures.put in
    let f = c.finish in
    given (λ u. HasPut (shared_view v) (shared_view u) c.args.lease.now c.args.name.now c.args.writing c.args.row.now (answer_of c.in-Ok.commit r.new.row))
    w f.new.seat.place.me f.ensures.view
    (put-of v t w.0 (c.take-found.ensures.taken c.if-found-ne0.false) r.ensures.basis
    c.args.lease.now c.args.name.now c.args.writing c.args.row.now (answer_of c.in-Ok.commit r.new.row) put)

pub returns-in-Err-clause-looked : goal.returns-in-Err-clause-looked
returns-in-Err-clause-looked g c =
    let v = c.args.seat.now.place.me.0 in
    let t = c.take-found.new.seat.place.me.0 in
    let r = c.put_in-result in
    let w = r.new.place.me in
    let f = c.finish in
    given (λ u. HasLooked (shared_view v) (shared_view u)) w f.new.seat.place.me f.ensures.view
    (looked-refused v t w.0 (c.take-found.ensures.taken c.if-found-ne0.false) r.ensures.basis
    (refused-write t w.0 r.result.0 c.in-Err.why c.in-Err.is r.ensures.fault r.ensures.unchanged))

pub returns-in-Err-clause-reason : goal.returns-in-Err-clause-reason
returns-in-Err-clause-reason g c =
    let v = c.args.seat.now.place.me.0 in
    let t = c.take-found.new.seat.place.me.0 in
    let r = c.put_in-result in
    let w = r.new.place.me in
    let f = c.finish in
    let why = c.in-Err.why in
    let refused = refused-write t w.0 r.result.0 why c.in-Err.is r.ensures.fault r.ensures.unchanged in
    subst (HasReason (shared_view v) (shared_view f.new.seat.place.me.0) c.args.lease.now) (sym c.of_write.ensures)
    (given (λ u. HasReason (shared_view v) (shared_view u) c.args.lease.now (of_write why))
    w f.new.seat.place.me f.ensures.view
    (reason-write v t w.0 (c.take-found.ensures.taken c.if-found-ne0.false) r.ensures.basis
    c.args.lease.now r.result.0 why c.in-Err.is refused r.ensures.fault r.ensures.stale r.ensures.full))

-- another had the turn, and no more was seen
pub returns-then-found-ne0-clause-looked : goal.returns-then-found-ne0-clause-looked
returns-then-found-ne0-clause-looked g c =
    busy-looked c.args.seat.now.place.me c.take-found.new.seat.place.me c.take-found.result
    (c.take-found.ensures.busy c.if-found-ne0.true)

-- no mark falls
pub returns-in-Ok-clause-marks : goal.returns-in-Ok-clause-marks
returns-in-Ok-clause-marks g c =
    let v = c.args.seat.now.place.me.0 in
    let t = c.take-found.new.seat.place.me.0 in
    let r = c.put_in-result in
    let w = r.new.place.me in
    let put = accepted (λ commit. HasPutIn t w.0 c.args.lease.now c.args.name.now c.args.writing
    c.args.row.now (answer_of commit r.new.row))
    r.result.0 c.in-Ok.commit c.in-Ok.is r.ensures.put in
    let f = c.finish in
    given (λ u. KeepsMarks (shared_view v) (shared_view u)) w f.new.seat.place.me f.ensures.view
    (marks-grown v t w.0 (c.take-found.ensures.taken c.if-found-ne0.false) r.ensures.basis
    (put-view t w.0 c.args.lease.now c.args.name.now c.args.writing c.args.row.now (answer_of c.in-Ok.commit r.new.row) put))

pub returns-in-Err-clause-marks : goal.returns-in-Err-clause-marks
returns-in-Err-clause-marks g c =
    let v = c.args.seat.now.place.me.0 in
    let t = c.take-found.new.seat.place.me.0 in
    let r = c.put_in-result in
    let w = r.new.place.me in
    let f = c.finish in
    given (λ u. KeepsMarks (shared_view v) (shared_view u)) w f.new.seat.place.me f.ensures.view
    (marks-refused v t w.0 (c.take-found.ensures.taken c.if-found-ne0.false) r.ensures.basis (refused-write t w.0 r.result.0 c.in-Err.why c.in-Err.is r.ensures.fault r.ensures.unchanged))

pub returns-then-found-ne0-clause-marks : goal.returns-then-found-ne0-clause-marks
returns-then-found-ne0-clause-marks g c =
    marks-busy c.args.seat.now.place.me c.take-found.new.seat.place.me c.take-found.result (c.take-found.ensures.busy c.if-found-ne0.true)

pub invariant_of-seat : goal.invariant_of-seat
invariant_of-seat g c =
    let p = c.take-found.new.seat in
    let v = p.place.me.0 in
    let r = c.put_in-result in
    let has = arrays-put v r.new.place.me.0 p.settled p.marks p.claims p.inputs c.args.lease.now c.args.name.now c.args.writing
    c.args.row.now r.new.row r.result.0 r.ensures.put r.ensures.fault r.ensures.unchanged
    (record { loaded = p.loaded; claimed = p.claimed; fed = p.fed; long = p.long; there = p.there; current = p.current }) in
    record {
      numbered = ap first_of r.ensures.numbers ∙ p.numbered;
      small = p.small;
      live = r.ensures.here.live;
      loaded = has.loaded;
      claimed = has.claimed;
      fed = has.fed;
      long = has.long;
      there = has.there;
      current = has.current;
    }
