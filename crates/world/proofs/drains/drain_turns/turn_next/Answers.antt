use Rattle.std.proofs.Common.{refl, subst, sym}
use Rattle.world.specs.drains.DrainTurns.{DrainView, IsPastClaims}
use Rattle.world.specs.drains.Turns.{worker_of}
use Rattle.world.proofs.DrainTurnLaws.{turn-drained, turn-under_way, turn-unended}
use Rattle.world.proofs.Results.{err-then, ok-both, ok-then}
use Rattle.world.proofs.drains.drain_turns.turn_next.Goals as goal

-- what is held is at work
pub turn-requires-clause-at_work : goal.turn-requires-clause-at_work
turn-requires-clause-at_work g c =
    let was : DrainView = record { from = c.drain.inside.from; node = worker_of c.drain.inside.held } in
    let past : IsPastClaims c.args.book.now was = subst (IsPastClaims c.args.book.now) (sym c.drain.view_is) c.requires.past in
    past.at_work

-- what was written is the drain's next entry
pub returns-clause-drained : goal.returns-clause-drained
returns-clause-drained g c = ok-then c.turn.result (λ more turned.
    turn-drained c.args.book.now c.turn.new.book c.args.drain.now more c.requires.past turned) c.turn.ensures.turned

-- after which it goes on
pub returns-clause-under_way : goal.returns-clause-under_way
returns-clause-under_way g c =
    let was : DrainView = record { from = c.drain.inside.from; node = worker_of c.drain.inside.held } in
    let left : DrainView = record { from = c.drain.inside.from; node = worker_of c.turn.new.held } in
    let past : IsPastClaims c.args.book.now was = subst (IsPastClaims c.args.book.now) (sym c.drain.view_is) c.requires.past in
    ok-both c.turn.result (λ more turned at. turn-under_way c.args.book.now c.turn.new.book was left more past turned refl at)
    c.turn.ensures.turned c.turn.ensures.at_work

-- where none was written the drain has ended
pub returns-clause-ended : goal.returns-clause-ended
returns-clause-ended g c = ok-then c.turn.result (λ more ended none told.
    ended none told c.args.drain.now.from c.requires.past.claimed) c.turn.ensures.ended

-- where it failed since the history is full it has not
pub returns-clause-unended : goal.returns-clause-unended
returns-clause-unended g c = err-then c.turn.result (λ why is. turn-unended c.args.book.now c.args.drain.now why is) c.turn.ensures.unended
