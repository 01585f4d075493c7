use Rattle.std.proofs.Common.{◌≡◌, rules, subst, sym}
use Rattle.std.specs.Prelude.{IfOk}
use Rattle.shared_book.specs.Lists.{IsIn}
use Rattle.shared_book.specs.MarkSteps.{released}
use Rattle.shared_book.specs.Turns.{HasClaimedIn}
use Rattle.shared_book.specs.declared.views.View.{View}
use Rattle.engine_tests.specs.TestSeats.{HasGoneOn}
use Rattle.engine_tests.proofs.TestTurnLaws.{held-claimed, on-claimed, on-released, on-taken, on-then}
use Rattle.engine_tests.proofs.tests.books.turn_calls.claimed.Goals as goal

-- the seat went on by the claim
pub returns-clause-on : goal.returns-clause-on
returns-clause-on g c =
    let v = c.args.seat.now.place.me.0 in
    let t = c.in-Ok.turn.seat.now.place.me.0 in
    let w = c.claim-claimed.new.self.seat.now.place.me.0 in
    let last : c.seat-1.given.0.place.me.0 ≡ released w = search rules in
    let claimed = subst (λ r. IfOk r (HasClaimedIn t w c.args.worker c.args.interval)) c.made.ensures c.claim-claimed.ensures.claimed in
    subst (HasGoneOn v) (sym last) (on-then v w (released w)
    (on-then v t w (on-taken v t c.in-Ok.ensures.taken) (on-claimed t w c.args.worker c.args.interval c.made.result claimed))
    (on-released w))

-- and has its lease
pub returns-clause-held : goal.returns-clause-held
returns-clause-held g c =
    let t = c.in-Ok.turn.seat.now.place.me.0 in
    let w = c.claim-claimed.new.self.seat.now.place.me.0 in
    let last : c.seat-1.given.0.place.me.0 ≡ released w = search rules in
    let claimed = subst (λ r. IfOk r (HasClaimedIn t w c.args.worker c.args.interval)) c.made.ensures c.claim-claimed.ensures.claimed in
    let held : IsIn c.made.result.lease w.leases = held-claimed t w c.args.worker c.args.interval c.made.result claimed in
    subst (λ (u : View). IsIn c.lease_of.result u.leases) (sym last)
    (subst (λ l. IsIn l w.leases) (sym c.lease_of.ensures) held)
