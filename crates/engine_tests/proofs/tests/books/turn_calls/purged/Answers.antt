use Rattle.std.proofs.Common.{◌≡◌, rules, subst, sym}
use Rattle.std.specs.Prelude.{IfOk}
use Rattle.mw_types.specs.declared.entry.Entry.TheVariants.{Purge}
use Rattle.shared_book.specs.MarkSteps.{released}
use Rattle.shared_book.specs.Turns.{HasStoredIn}
use Rattle.engine_tests.specs.TestSeats.{HasGoneOn}
use Rattle.engine_tests.proofs.TestTurnLaws.{on-stored, on-released, on-taken, on-then, row-seen}
use Rattle.engine_tests.proofs.tests.books.turn_calls.purged.Goals as goal

-- the row may be handed in
pub purge-written-requires-clause-row : goal.purge-written-requires-clause-row
purge-written-requires-clause-row g c =
    row-seen c.args.seat.now.place.me.0 c.in-Ok.turn.seat.now.place.me.0 c.args.shared.now.case.now c.args.lease.now c.args.name.now
    c.args.row.now c.in-Ok.ensures.taken c.in-Ok.ensures.here.case c.requires.untold c.requires.fit

-- the seat went on by the purge
pub returns-clause-on : goal.returns-clause-on
returns-clause-on g c =
    let v = c.args.seat.now.place.me.0 in
    let t = c.in-Ok.turn.seat.now.place.me.0 in
    let w = c.purge-written.new.self.seat.now.place.me.0 in
    let last : c.seat-1.given.0.place.me.0 ≡ released w = search rules in
    let done = subst (λ r. IfOk r (HasStoredIn t w c.args.lease.now c.args.name.now (Purge c.args.lease.now.seq c.args.name.now c.args.floor) c.args.row.now)) c.made.ensures c.purge-written.ensures.written in
    subst (HasGoneOn v) (sym last) (on-then v w (released w)
    (on-then v t w (on-taken v t c.in-Ok.ensures.taken) (on-stored t w c.args.lease.now c.args.name.now (Purge c.args.lease.now.seq c.args.name.now c.args.floor) c.args.row.now c.made.result done))
    (on-released w))
