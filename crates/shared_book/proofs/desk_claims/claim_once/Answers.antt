use Rattle.std.proofs.Common.{ap, sym, ◌∙◌}
use Rattle.book.specs.Desking.{HasClaimed}
use Rattle.book.specs.Desks.{HasLooked, KeepsMarks}
use Rattle.shared_book.specs.declared.views.View.{View}
use Rattle.shared_book.specs.Steps.{grown}
use Rattle.shared_book.specs.SharedDesks.{shared_view}
use Rattle.shared_book.proofs.DeskSteps.{marks-busy, marks-grown, marks-refused, busy-looked, claimed, given, looked-refused, refused-claim}
use Rattle.shared_book.proofs.desk_claims.claim_once.Goals as goal

pub returns-in-Ok-clause-claimed : goal.returns-in-Ok-clause-claimed
returns-in-Ok-clause-claimed g c =
    let v = c.args.seat.now.place.me.0 in
    let t = c.take-found.new.seat.place.me.0 in
    let r = c.claim_at-result in
    let w = r.new.seat.place.me in
    let f = c.give_at in
    given (λ u. HasClaimed (shared_view v) (shared_view u) c.args.worker c.args.interval c.in-Ok.claimed)
    w f.new.seat.place.me f.ensures.view
    (claimed v t w.0 (c.take-found.ensures.taken c.if-found-ne0.false) r.ensures.basis
    c.args.worker c.args.interval c.in-Ok.claimed c.in-Ok.ensures.claimed)

pub returns-in-Err-clause-looked : goal.returns-in-Err-clause-looked
returns-in-Err-clause-looked g c =
    let v = c.args.seat.now.place.me.0 in
    let t = c.take-found.new.seat.place.me.0 in
    let r = c.claim_at-result in
    let w = r.new.seat.place.me in
    let f = c.give_at in
    given (λ u. HasLooked (shared_view v) (shared_view u)) w f.new.seat.place.me f.ensures.view
    (looked-refused v t w.0 (c.take-found.ensures.taken c.if-found-ne0.false) r.ensures.basis
    (refused-claim t w.0 c.in-Err.why c.in-Err.ensures.fault c.in-Err.ensures.unchanged))

-- another had the turn, and no more was seen
pub returns-then-found-ne0-clause-looked : goal.returns-then-found-ne0-clause-looked
returns-then-found-ne0-clause-looked g c =
    busy-looked c.args.seat.now.place.me c.take-found.new.seat.place.me c.take-found.result
    (c.take-found.ensures.busy c.if-found-ne0.true)

-- no mark falls
pub returns-in-Ok-clause-marks : goal.returns-in-Ok-clause-marks
returns-in-Ok-clause-marks g c =
    let v = c.args.seat.now.place.me.0 in
    let t = c.take-found.new.seat.place.me.0 in
    let r = c.claim_at-result in
    let w = r.new.seat.place.me in
    let f = c.give_at in
    given (λ u. KeepsMarks (shared_view v) (shared_view u)) w f.new.seat.place.me f.ensures.view
    (marks-grown v t w.0 (c.take-found.ensures.taken c.if-found-ne0.false) r.ensures.basis (c.in-Ok.ensures.claimed.view ∙ ap (grown t) (sym (ap (λ (x : View). x.front) c.in-Ok.ensures.claimed.view))))

pub returns-in-Err-clause-marks : goal.returns-in-Err-clause-marks
returns-in-Err-clause-marks g c =
    let v = c.args.seat.now.place.me.0 in
    let t = c.take-found.new.seat.place.me.0 in
    let r = c.claim_at-result in
    let w = r.new.seat.place.me in
    let f = c.give_at in
    given (λ u. KeepsMarks (shared_view v) (shared_view u)) w f.new.seat.place.me f.ensures.view
    (marks-refused v t w.0 (c.take-found.ensures.taken c.if-found-ne0.false) r.ensures.basis (refused-claim t w.0 c.in-Err.why c.in-Err.ensures.fault c.in-Err.ensures.unchanged))

pub returns-then-found-ne0-clause-marks : goal.returns-then-found-ne0-clause-marks
returns-then-found-ne0-clause-marks g c =
    marks-busy c.args.seat.now.place.me c.take-found.new.seat.place.me c.take-found.result (c.take-found.ensures.busy c.if-found-ne0.true)
