use Rattle.std.proofs.Common.{refl, subst, sym, true}
use Rattle.world.specs.drains.DrainTurns.{DrainView, HasDrained, IsAtClaim}
use Rattle.world.specs.drains.Turns.{worker_of}
use Rattle.world.proofs.DrainTurnLaws.{claim-drained, claim-under_way, claim-unended}
use Rattle.world.proofs.Results.{err-any}
use Rattle.world.proofs.drains.drain_turns.claim_next.Goals as goal

-- what is held fits
pub claim-requires-clause-fits : goal.claim-requires-clause-fits
claim-requires-clause-fits g c =
    let was : DrainView = record { from = c.drain.inside.from; node = worker_of c.drain.inside.held } in
    let at : IsAtClaim c.args.book.now was c.args.interval =
    subst (λ (d : DrainView). IsAtClaim c.args.book.now d c.args.interval) (sym c.drain.view_is) c.requires.next in
    at.claiming.fits.held

-- the claim is the drain's next entry
pub returns-clause-drained : goal.returns-clause-drained
returns-clause-drained g c =
    let was : DrainView = record { from = c.drain.inside.from; node = worker_of c.drain.inside.held } in
    let left : DrainView = record { from = c.drain.inside.from; node = worker_of c.claim.new.held } in
    let at : IsAtClaim c.args.book.now was c.args.interval =
    subst (λ (d : DrainView). IsAtClaim c.args.book.now d c.args.interval) (sym c.drain.view_is) c.requires.next in
    subst (λ (d : DrainView). HasDrained d.from c.args.book.now c.claim.new.book true) c.drain.view_is
    (claim-drained c.args.book.now c.claim.new.book was left c.args.interval at c.in_ok-claim.ensures.taken)

-- after which it goes on
pub returns-clause-under_way : goal.returns-clause-under_way
returns-clause-under_way g c =
    let was : DrainView = record { from = c.drain.inside.from; node = worker_of c.drain.inside.held } in
    let left : DrainView = record { from = c.drain.inside.from; node = worker_of c.claim.new.held } in
    let at : IsAtClaim c.args.book.now was c.args.interval =
    subst (λ (d : DrainView). IsAtClaim c.args.book.now d c.args.interval) (sym c.drain.view_is) c.requires.next in
    claim-under_way c.args.book.now c.claim.new.book was left c.args.interval at c.in_ok-claim.ensures.taken refl

-- before it the drain has not ended
pub returns-in_err-claim-clause-unended : goal.returns-in_err-claim-clause-unended
returns-in_err-claim-clause-unended g c =
    err-any c.from_residual.result (λ why. claim-unended c.args.book.now c.args.drain.now c.args.interval why c.requires.next)
